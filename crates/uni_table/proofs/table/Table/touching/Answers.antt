use Rattle.std.proofs.Common.{◌≡◌, ◌==◌, List, [], not, length, filter, map, rules, ap, subst, ◌∙◌}
use Rattle.std.proofs.lemmas.Fn.{filter_same}
use Rattle.uni_base.specs.declared.edge.EdgeRef.{EdgeRef}
use Rattle.uni_base.specs.declared.edge.Held.{Held}
use Rattle.uni_schema.specs.Schema.{Declarations}
use Rattle.uni_table.specs.Added.{Adds}
use Rattle.uni_table.specs.Contents.{leaves_below, reaches}
use Rattle.uni_table.specs.Lists.{held_of, touching}
use Rattle.uni_table.specs.TableState.{TableState}
use Rattle.uni_table.specs.declared.command.EdgeRow.{EdgeRow}
use Rattle.uni_table.proofs.Compared.{same_either_way}
use Rattle.uni_table.proofs.Touching.{touching-is}
use Rattle.uni_table.proofs.table.Table.touching.Goals as goal

pub returns : goal.returns
returns c =
    let schema = c.self.inside.schema.value in
    let graph = c.self.inside.graph.contents in
    let types : c.types.result ≡ length schema.types = c.types.ensures.count ∙ ap (λ (s : Declarations). length s.types) c.deref.ensures in
    let leaving : Adds [] c.add_leaving.new.held.items (map held_of (filter (λ (e : EdgeRef × EdgeRow). leaves_below (length schema.types) c.args.id e.0) graph.edges)) =
    subst (λ n. Adds [] c.add_leaving.new.held.items (map held_of (filter (λ (e : EdgeRef × EdgeRow). leaves_below n c.args.id e.0) graph.edges))) types
    (subst (λ (hs : List Held). Adds hs c.add_leaving.new.held.items (map held_of (filter (λ (e : EdgeRef × EdgeRow). leaves_below c.types.result c.args.id e.0) graph.edges))) c.new-held.ensures.items c.in_ok-add_leaving.ensures) in
    let left : c.retain.new.self.items ≡ filter (λ (h : Held). not (reaches c.args.id h.edge)) c.add_leaving.new.held.items =
    filter_same _ (λ (h : Held). not (reaches c.args.id h.edge)) _
    (λ x b q k. let is : b ≡ not (x.edge.target == c.args.id) = search rules in (is ∙ ap not (same_either_way x.edge.target c.args.id), search rules)) c.add_leaving.new.held.items c.retain.new.self.items c.retain.ensures.filtered in
    let same : graph ≡ c.args.self.now.contents = ap (λ (t : TableState). t.contents) c.self.view_is in
    touching-is schema c.self.inside.limits graph c.self.invariant.contents c.args.id c.add_leaving.new.held.items c.retain.new.self.items c.add_into.new.held.items c.in_order.result leaving left c.in_ok-add_into.ensures
    c.in_order.ensures.permutation c.in_order.ensures.sorted
    ∙ ap (λ (g : _). touching g c.args.id) same
