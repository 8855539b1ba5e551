use Rattle.std.proofs.Common.{◌≡◌, take}
use Rattle.layer_stack.specs.Postings.{deleting_rows}
use Rattle.layer_stack.specs.Spans.{delete_rows}
use Rattle.layer_stack.proofs.delta.Delta.append_deletes.Given as goal

abbrev pub invariant-loop-at : goal.invariant-loop-at
invariant-loop-at l = l.self ≡ deleting_rows (delete_rows (take l.at l.runs) l.keys) l.initial.self
