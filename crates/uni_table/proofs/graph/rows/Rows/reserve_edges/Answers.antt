use Rattle.uni_table.specs.declared.graph.rows.Rows.{Rows}
use Rattle.uni_table.proofs.GraphEdges.{quiet-wide}
use Rattle.uni_table.proofs.graph.rows.Rows.reserve_edges.Goals as goal

pub returns : goal.returns
returns c = let old = c.args.self.now in quiet-wide old (record old { edges = c.reserve-is_made.new.self }) c.requires c.reserve-is_made.ensures.entries
