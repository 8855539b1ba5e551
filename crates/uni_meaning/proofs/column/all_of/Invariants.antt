use Rattle.std.proofs.Common.{◌≡◌, drop}
use Rattle.uni_meaning.specs.Standings.{all_of, both, row_at}
use Rattle.uni_meaning.proofs.column.all_of.Given as goal

abbrev pub invariant-loop-column : goal.invariant-loop-column
invariant-loop-column l = all_of (row_at l.columns l.i) ≡ both l.standing (all_of (row_at (drop l.column-index l.columns) l.i))
