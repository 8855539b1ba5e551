use Rattle.std.proofs.Common.{◌≡◌, drop}
use Rattle.std.specs.List.{list_all}
use Rattle.uni_meaning.specs.Standings.{is_found, row_at}
use Rattle.uni_meaning.proofs.column.all_found.Given as goal

abbrev pub invariant-loop-column : goal.invariant-loop-column
invariant-loop-column l = list_all is_found (row_at l.columns l.i) ≡ list_all is_found (row_at (drop l.column-index l.columns) l.i)
