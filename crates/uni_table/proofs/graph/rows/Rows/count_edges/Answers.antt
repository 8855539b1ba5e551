use Rattle.uni_table.proofs.GraphEdges.{edges-counted}
use Rattle.uni_table.proofs.graph.rows.Rows.count_edges.Goals as goal

pub returns : goal.returns
returns c = edges-counted c.args.self.now c.requires
