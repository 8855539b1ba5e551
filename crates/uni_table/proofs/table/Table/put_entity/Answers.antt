use Rattle.std.proofs.Common.{◌≡◌, None, sym, subst, ◌∙◌}
use Rattle.uni_table.specs.Commands.{refuses_entity}
use Rattle.uni_table.specs.TableState.{TableState}
use Rattle.uni_table.proofs.Kept.{entity_keeps}
use Rattle.uni_table.proofs.table.Table.put_entity.Goals as goal

pub invariant_of-self-2 : goal.invariant_of-self-2
invariant_of-self-2 c =
    let taken : refuses_entity c.self.inside.limits c.self.inside.graph.contents c.args.vertical c.args.id ≡ None =
    subst (λ (t : TableState). refuses_entity t.limits t.contents c.args.vertical c.args.id ≡ None) (sym c.self.view_is)
    (sym c.refuses_entity.ensures ∙ c.in_default.is) in
    rw c.in-Ok.ensures.ok (record { contents = entity_keeps c.self.inside.schema.value c.self.inside.limits c.self.inside.graph.contents c.self.invariant.contents c.args.vertical c.args.id c.args.rank taken; published = c.self.invariant.published })
