use Rattle.std.proofs.Common.{sym, ap, ◌∙◌}
use Rattle.uni_table.specs.Contents.{without_edge}
use Rattle.uni_table.specs.GraphRows.{contents_of}
use Rattle.uni_table.proofs.GraphEdges.{edge-absent}
use Rattle.uni_table.proofs.graph.rows.Rows.remove_edge.Goals as goal

pub returns-in_default-clause-removed : goal.returns-in_default-clause-removed
returns-in_default-clause-removed c = sym (edge-absent c.args.self.now c.requires c.args.edge.now c.in_default.ensures)

pub returns-in-Some-clause-removed : goal.returns-in-Some-clause-removed
returns-in-Some-clause-removed c =
    let p = c.in-Some.ensures in
    c.clear_slot.ensures.set p.0.0 p.0.1 p.1 ∙ ap (without_edge (contents_of c.args.self.now)) p.2
