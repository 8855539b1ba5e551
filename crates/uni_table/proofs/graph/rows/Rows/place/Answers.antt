use Rattle.std.proofs.Common.{sym}
use Rattle.std.proofs.lemmas.Map.Made.{lookup_key_passes}
use Rattle.uni_table.proofs.GraphNames.{placed, unplaced, edge_no_eq}
use Rattle.uni_table.proofs.graph.rows.Rows.place.Goals as goal

pub returns-in-Some : goal.returns-in-Some
returns-in-Some c =
    let rows = c.args.self.now in
    placed rows c.requires.kept c.args.number c.args.edge.now c.requires.number c.in-Some.index (c.in-Some.field-0-1.now, c.in-Some.field-0-2.now) c.in-Some.ensures.entry
    (lookup_key_passes (edge_no_eq c.args.number) rows.edges.entries c.in-Some.field-0-1.now (sym c.in-Some.ensures.key))

pub returns-in-None : goal.returns-in-None
returns-in-None c = unplaced c.args.self.now c.requires.kept c.args.number c.args.edge.now c.requires.number (sym c.in-None.ensures.value)
