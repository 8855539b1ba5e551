use Rattle.std.proofs.Common.{◌≡◌, length, ap, ◌∙◌, subst, sym}
use Rattle.uni_schema.specs.Schema.{Declarations}
use Rattle.uni_table.specs.Contents.{Contents, without_row, without_into, without_leaving, without_entity}
use Rattle.uni_table.specs.GraphState.{GraphState}
use Rattle.uni_table.specs.TableState.{AreKept}
use Rattle.uni_table.proofs.Gone.{gone-is, gone_keeps}
use Rattle.uni_table.proofs.table.Table.gone.Goals as goal

pub invariant_of-self : goal.invariant_of-self
invariant_of-self c =
    let schema = c.self.inside.schema.value in
    let graph = c.self.inside.graph in
    let types : c.types.result ≡ length schema.types = c.types.ensures.count ∙ ap (λ (s : Declarations). length s.types) c.deref.ensures in
    let all : c.remove_entity.new.self ≡ record graph { contents = without_entity graph.contents c.args.id } =
    c.remove_entity.ensures ∙ ap (λ (g : GraphState). record g { contents = without_row g.contents c.args.id }) (c.remove_into.ensures ∙ ap (λ (g : GraphState). record g { contents = without_into g.contents c.args.id })
    (c.remove_leaving.ensures ∙ ap (λ n. record graph { contents = without_leaving graph.contents n c.args.id }) types))
    ∙ ap (λ (t : Contents). record graph { contents = t }) (gone-is schema c.self.inside.limits graph.contents c.self.invariant.contents c.args.id) in
    subst (AreKept schema c.self.inside.limits) (sym all)
    (record { contents = gone_keeps schema c.self.inside.limits graph.contents c.self.invariant.contents c.args.id; published = c.self.invariant.published })

pub returns : goal.returns
returns c =
    let schema = c.self.inside.schema.value in
    let graph = c.self.inside.graph in
    let types : c.types.result ≡ length schema.types = c.types.ensures.count ∙ ap (λ (s : Declarations). length s.types) c.deref.ensures in
    let all : c.remove_entity.new.self ≡ record graph { contents = without_entity graph.contents c.args.id } =
    c.remove_entity.ensures ∙ ap (λ (g : GraphState). record g { contents = without_row g.contents c.args.id }) (c.remove_into.ensures ∙ ap (λ (g : GraphState). record g { contents = without_into g.contents c.args.id })
    (c.remove_leaving.ensures ∙ ap (λ n. record graph { contents = without_leaving graph.contents n c.args.id }) types))
    ∙ ap (λ (t : Contents). record graph { contents = t }) (gone-is schema c.self.inside.limits graph.contents c.self.invariant.contents c.args.id) in
    rw (← c.self.view_is) (ap (λ (g : GraphState). record { schema = schema; limits = c.self.inside.limits; contents = g.contents; published = g.published }) all)
