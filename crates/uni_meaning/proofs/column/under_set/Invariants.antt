use Rattle.std.proofs.Common.{◌≡◌, map}
use Rattle.std.specs.List.{range_with_len}
use Rattle.uni_meaning.specs.Standings.{row_at, under_set}
use Rattle.uni_meaning.proofs.column.under_set.Given as goal

abbrev pub invariant-loop-i : goal.invariant-loop-i
invariant-loop-i l = l.standings.items ≡ map (λ i. under_set l.kind (row_at l.columns i)) (range_with_len 0 l.i)
