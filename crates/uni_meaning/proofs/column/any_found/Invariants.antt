use Rattle.std.proofs.Common.{◌≡◌, drop}
use Rattle.std.specs.List.{list_any}
use Rattle.uni_meaning.specs.Standings.{is_found, row_at}
use Rattle.uni_meaning.proofs.column.any_found.Given as goal

abbrev pub invariant-loop-column : goal.invariant-loop-column
invariant-loop-column l = list_any is_found (row_at l.columns l.i) ≡ list_any is_found (row_at (drop l.column-index l.columns) l.i)
