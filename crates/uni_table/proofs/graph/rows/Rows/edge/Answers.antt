use Rattle.std.proofs.Common.{sym, ◌∙◌}
use Rattle.uni_table.proofs.GraphEdges.{edge-found, edge-missing}
use Rattle.uni_table.proofs.graph.rows.Rows.edge.Goals as goal

pub returns-in-Some : goal.returns-in-Some
returns-in-Some c =
    let p = c.in-Some.ensures in
    c.row_at.ensures p.0.0 p.0.1 p.1 ∙ sym (edge-found c.args.self.now c.requires c.args.edge.now c.in-Some.index p)

pub returns-in-None : goal.returns-in-None
returns-in-None c = sym (edge-missing c.args.self.now c.requires c.args.edge.now c.in-None.ensures)
