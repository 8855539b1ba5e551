use Rattle.std.proofs.Common.{◌≡◌}
use Rattle.apply_extract.specs.Split.{lists_of, empty_lists_of}
use Rattle.apply_extract.proofs.edges.empty_lists.Given as goal

abbrev pub invariant-loop : goal.invariant-loop
invariant-loop l = lists_of l.lists.items ≡ empty_lists_of l.counter
