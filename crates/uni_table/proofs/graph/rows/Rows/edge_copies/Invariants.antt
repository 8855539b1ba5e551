use Rattle.uni_table.specs.GraphSources.{AreCopies}
use Rattle.uni_table.proofs.graph.rows.Rows.edge_copies.Given as goal

abbrev pub invariant-loop-index : goal.invariant-loop-index
invariant-loop-index l = AreCopies l.self l.copies.copies.items
