use Rattle.std.proofs.Common.{◌≡◌, take}
use Rattle.layer_stack.specs.Runs.{numbered, run_items}
use Rattle.layer_stack.proofs.arrange.add_term.Given as goal

abbrev pub invariant-loop-term : goal.invariant-loop-term
invariant-loop-term l = l.group.items ≡ run_items (take l._term-index l.runs) (numbered l.keys)
