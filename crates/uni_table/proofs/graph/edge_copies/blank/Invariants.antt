use Rattle.uni_table.specs.GraphSources.{AreCopies}
use Rattle.uni_table.specs.declared.graph.rows.Rows.{Rows}
use Rattle.uni_table.proofs.graph.edge_copies.blank.Given as goal

abbrev pub invariant-loop : goal.invariant-loop
invariant-loop l = (rows : Rows) → AreCopies rows l.copies.items
