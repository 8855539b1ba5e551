use Rattle.std.proofs.Common.{nat_eq, subst, sym, ◌∙◌}
use Rattle.std.specs.Map.{keys_of}
use Rattle.uni_table.specs.GraphRows.{IsIndexOf}
use Rattle.uni_table.proofs.GraphEntities.{entity-numbered, entity-nowhere}
use Rattle.uni_table.proofs.graph.rows.Rows.entity.Goals as goal

pub returns-in-Some : goal.returns-in-Some
returns-in-Some c =
    let rows = c.args.self.now in
    c.entity_at.ensures ∙ entity-numbered rows c.requires c.in-Some.number c.args.id (subst (IsIndexOf nat_eq (keys_of rows.ids.entries) c.args.id) c.in-Some.is c.id_index.ensures)

pub returns-in-None : goal.returns-in-None
returns-in-None c =
    let rows = c.args.self.now in
    sym (entity-nowhere rows c.requires c.args.id (subst (IsIndexOf nat_eq (keys_of rows.ids.entries) c.args.id) c.in-None.is c.id_index.ensures))
