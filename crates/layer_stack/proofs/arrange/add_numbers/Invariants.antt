use Rattle.std.proofs.Common.{◌≡◌, ◌++◌}
use Rattle.posting_lists.specs.Postings.{section}
use Rattle.layer_stack.specs.Runs.{numbered}
use Rattle.layer_stack.proofs.arrange.add_numbers.Given as goal

abbrev pub invariant-loop-i : goal.invariant-loop-i
invariant-loop-i l = l.group.items ≡ l.initial.group.items ++ section l.fn.span.from l.i (numbered l.keys)
