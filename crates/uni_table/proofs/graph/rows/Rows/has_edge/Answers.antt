use Rattle.std.proofs.Common.{is_some, ap, subst, sym, ◌∙◌}
use Rattle.std.specs.Map.{keys_of}
use Rattle.uni_table.specs.GraphRows.{IsPlaceOf}
use Rattle.uni_table.proofs.GraphEdges.{edge-found, edge-missing, row-lives}
use Rattle.uni_table.proofs.graph.rows.Rows.has_edge.Goals as goal

pub returns-in-Some : goal.returns-in-Some
returns-in-Some c =
    let rows = c.args.self.now in let edge = c.args.found.now.edge.now in
    let p = subst (IsPlaceOf rows edge) c.in-Some.is c.requires.found.place in
    c.is_live.ensures p.0 p.1 ∙ sym (row-lives (keys_of rows.sources.entries) p.0.1.state p.0.1.end) ∙ ap is_some (sym (edge-found rows c.requires.kept edge c.in-Some.index p))

pub returns-in-None : goal.returns-in-None
returns-in-None c =
    let rows = c.args.self.now in let edge = c.args.found.now.edge.now in
    ap is_some (sym (edge-missing rows c.requires.kept edge (subst (IsPlaceOf rows edge) c.in-None.is c.requires.found.place)))
