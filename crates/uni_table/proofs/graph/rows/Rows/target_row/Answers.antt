use Rattle.std.proofs.Common.{nat_eq, subst, sym, ◌∙◌}
use Rattle.std.specs.Map.{keys_of}
use Rattle.uni_table.specs.GraphRows.{IsIndexOf}
use Rattle.uni_table.proofs.GraphEntities.{entity-numbered, entity-nowhere}
use Rattle.uni_table.proofs.graph.rows.Rows.target_row.Goals as goal

pub returns-in-Some : goal.returns-in-Some
returns-in-Some c =
    let rows = c.args.self.now in let id = c.args.found.now.edge.now.target in
    c.entity_at.ensures ∙ entity-numbered rows c.requires.kept c.in-Some.number id (subst (IsIndexOf nat_eq (keys_of rows.ids.entries) id) c.in-Some.is c.requires.found.target)

pub returns-in-None : goal.returns-in-None
returns-in-None c =
    let rows = c.args.self.now in let id = c.args.found.now.edge.now.target in
    sym (entity-nowhere rows c.requires.kept id (subst (IsIndexOf nat_eq (keys_of rows.ids.entries) id) c.in-None.is c.requires.found.target))
