use Rattle.std.proofs.Common.{◌≡◌, ◌+◌, length}
use Rattle.twin_list.specs.Halves.{IsHalfOf, half_list}
use Rattle.twin_list.proofs.tests.grow.Given as goal

abbrev pub invariant-loop-number : goal.invariant-loop-number
invariant-loop-number l = record {
  mine : IsHalfOf l.twin l.mine;
  other : IsHalfOf l.twin l.other;
  alike : half_list l.other ≡ half_list l.mine;
  longer : length (half_list l.mine) ≡ length (half_list l.fn.mine) + l.number-counter;
}
