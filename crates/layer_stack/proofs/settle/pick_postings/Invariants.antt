use Rattle.std.proofs.Common.{◌≡◌, map, take}
use Rattle.layer_stack.specs.Runs.{posting_from}
use Rattle.layer_stack.proofs.settle.pick_postings.Given as goal

abbrev pub invariant-loop-key : goal.invariant-loop-key
invariant-loop-key l = l.picked ≡ map (posting_from l.postings) (take l.key-index l.rows)
