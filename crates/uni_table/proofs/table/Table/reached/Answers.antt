use Rattle.std.proofs.Common.{◌≡◌, ◌<◌, length, List, [], map, filter, rules, ap, subst, sym, ◌∙◌}
use Rattle.std.proofs.lemmas.List.Sorted.{answers_always}
use Rattle.std.specs.List.{filter_map}
use Rattle.std.specs.List.Sorted.{IsSortedByKey}
use Rattle.std.specs.Result.{IfOk}
use Rattle.uni_base.specs.declared.edge.EdgeRef.{EdgeRef}
use Rattle.uni_base.specs.declared.edge.Held.{Held}
use Rattle.uni_base.specs.RankOrder.{doc_cmp}
use Rattle.uni_table.specs.Added.{Adds}
use Rattle.uni_table.specs.Contents.{starts_at}
use Rattle.uni_table.specs.Lists.{held_of}
use Rattle.uni_table.specs.Ranked.{reached_of}
use Rattle.uni_table.specs.TableState.{TableState}
use Rattle.uni_table.specs.Targets.{target_of, held_to}
use Rattle.uni_table.specs.declared.command.EdgeRow.{EdgeRow}
use Rattle.uni_table.specs.declared.table.reached.Target.{Target}
use Rattle.uni_table.proofs.Reached.{declared_type, held-is}
use Rattle.uni_table.proofs.table.Table.reached.Goals as goal

pub returns : goal.returns
returns c =
    let schema = c.self.inside.schema.value in
    let graph = c.self.inside.graph.contents in
    let number = c.args.type_no in
    let key = c.args.key.now in
    let hs : List Held = c.add_from.new.held.items in
    let ts : List Target = c.in_ok-targets.targets.items in
    let us : List Target = c.sort_unstable_by_key.new.self.items in
    let known = declared_type schema number (subst (λ (t : TableState). number < length t.schema.types) (sym c.self.view_is) c.requires) in
    let added : Adds [] hs (map held_of (filter (λ (e : EdgeRef × EdgeRow). starts_at number key e.0) graph.edges)) =
    subst (λ (before : List Held). Adds before hs (map held_of (filter (λ (e : EdgeRef × EdgeRow). starts_at number key e.0) graph.edges))) c.new-held.ensures.items c.in_ok-add_from.ensures in
    let is : ts ≡ filter_map (target_of graph) hs =
    c.in_ok-targets.ensures ∙ ap (filter_map (target_of c.args.self.now.contents)) c.as_slice.ensures.value ∙ ap (λ (t : TableState). filter_map (target_of t.contents) hs) (sym c.self.view_is) in
    let up : IsSortedByKey (λ (t : Target). t.doc) doc_cmp us = c.sort_unstable_by_key.ensures.sorted (λ (t : Target). t.doc) (answers_always _ _ _ (λ f a r g k. search rules)) in
    let all : map (held_to number key) c.as_slice-2.result.now ≡ reached_of c.args.self.now.schema c.args.self.now.contents number key =
    ap (map (held_to number key)) c.as_slice-2.ensures.value
    ∙ held-is graph number key schema known.0 known.1 c.self.invariant.contents hs ts us added is c.sort_unstable_by_key.ensures.permutation up
    ∙ ap (λ (t : TableState). reached_of t.schema t.contents number key) c.self.view_is in
    subst (λ (es : List Held). IfOk c.held.result (λ held. held ≡ es)) all c.held.ensures
