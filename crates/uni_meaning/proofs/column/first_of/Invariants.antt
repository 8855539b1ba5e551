use Rattle.std.proofs.Common.{◌≡◌, drop}
use Rattle.uni_meaning.specs.Standings.{first_of, either, row_at}
use Rattle.uni_meaning.proofs.column.first_of.Given as goal

abbrev pub invariant-loop-column : goal.invariant-loop-column
invariant-loop-column l = first_of (row_at l.columns l.i) ≡ either l.standing (first_of (row_at (drop l.column-index l.columns) l.i))
