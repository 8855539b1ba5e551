use Rattle.std.proofs.Common.{List, [], map, filter, ap, subst, sym, ◌∙◌}
use Rattle.std.specs.List.Sorted.{IsPermutation}
use Rattle.uni_base.specs.declared.edge.EdgeRef.{EdgeRef}
use Rattle.uni_base.specs.declared.edge.Held.{Held}
use Rattle.uni_base.specs.declared.entity.DocKey.{DocKey}
use Rattle.uni_schema.specs.Schema.{Declarations}
use Rattle.uni_table.specs.Added.{Adds}
use Rattle.uni_table.specs.Lists.{held_of, shard_edges}
use Rattle.uni_table.specs.Ranked.{doc_of, is_of_shard}
use Rattle.uni_table.specs.Shards.{AreApart, AreDeclared, reaches_any, leaves_any_forward, is_indexed}
use Rattle.uni_table.specs.TableState.{TableState}
use Rattle.uni_table.specs.declared.command.EdgeRow.{EdgeRow}
use Rattle.uni_table.proofs.Additions.{adds_all}
use Rattle.uni_table.proofs.ShardEdges.{members_apart, all_declared, shard-is}
use Rattle.uni_table.proofs.table.Table.shard_edges.Goals as goal

pub add_reaching-requires : goal.add_reaching-requires
add_reaching-requires c =
    let schema = c.self.inside.schema.value in
    let graph = c.self.inside.graph.contents in
    subst AreApart (sym c.as_slice.ensures.value)
    (members_apart schema c.self.inside.limits graph c.self.invariant.contents c.args.vertical c.args.shard c.in_ok-docs.docs.items
    (subst (λ (s : Declarations). IsPermutation (map doc_of (filter (is_of_shard s c.args.vertical c.args.shard) graph.entities)) c.in_ok-docs.docs.items) c.deref.ensures c.in_ok-docs.ensures))

pub add_indexed-requires : goal.add_indexed-requires
add_indexed-requires c =
    let schema = c.self.inside.schema.value in
    let graph = c.self.inside.graph.contents in
    let added : Adds [] c.add_reaching.new.held.items (map held_of (filter (λ (e : EdgeRef × EdgeRow). reaches_any c.as_slice.result.now e.0) graph.edges)) =
    subst (λ (before : List Held). Adds before c.add_reaching.new.held.items (map held_of (filter (λ (e : EdgeRef × EdgeRow). reaches_any c.as_slice.result.now e.0) graph.edges))) c.new-reaching.ensures.items c.in_ok-add_reaching.ensures in
    subst (λ (s : Declarations). AreDeclared s c.as_slice-2.result.now) (sym c.deref-2.ensures) (subst (AreDeclared schema) (sym c.as_slice-2.ensures.value)
    (all_declared schema c.self.inside.limits graph c.self.invariant.contents c.args.vertical c.args.shard (λ (e : EdgeRef × EdgeRow). reaches_any c.as_slice.result.now e.0) c.add_reaching.new.held.items
    (adds_all c.add_reaching.new.held.items (map held_of (filter (λ (e : EdgeRef × EdgeRow). reaches_any c.as_slice.result.now e.0) graph.edges)) added)))

pub add_forward-requires : goal.add_forward-requires
add_forward-requires c =
    let schema = c.self.inside.schema.value in
    let graph = c.self.inside.graph.contents in
    subst AreApart (sym c.as_slice-3.ensures.value)
    (members_apart schema c.self.inside.limits graph c.self.invariant.contents c.args.vertical c.args.shard c.in_ok-docs.docs.items
    (subst (λ (s : Declarations). IsPermutation (map doc_of (filter (is_of_shard s c.args.vertical c.args.shard) graph.entities)) c.in_ok-docs.docs.items) c.deref.ensures c.in_ok-docs.ensures))

pub returns : goal.returns
returns c =
    let schema = c.self.inside.schema.value in
    let graph = c.self.inside.graph.contents in
    let docs : List DocKey = c.in_ok-docs.docs.items in
    let reaching : List Held = c.add_reaching.new.held.items in
    let indexed : List Held = c.add_indexed.new.held.items in
    let all : List Held = c.add_forward.new.held.items in
    let same : IsPermutation (map doc_of (filter (is_of_shard schema c.args.vertical c.args.shard) graph.entities)) docs =
    subst (λ (s : Declarations). IsPermutation (map doc_of (filter (is_of_shard s c.args.vertical c.args.shard) graph.entities)) docs) c.deref.ensures c.in_ok-docs.ensures in
    let one : Adds [] reaching (map held_of (filter (λ (e : EdgeRef × EdgeRow). reaches_any docs e.0) graph.edges)) =
    subst (λ (ks : List DocKey). Adds [] reaching (map held_of (filter (λ (e : EdgeRef × EdgeRow). reaches_any ks e.0) graph.edges))) c.as_slice.ensures.value
    (subst (λ (before : List Held). Adds before reaching (map held_of (filter (λ (e : EdgeRef × EdgeRow). reaches_any c.as_slice.result.now e.0) graph.edges))) c.new-reaching.ensures.items c.in_ok-add_reaching.ensures) in
    let two : Adds [] indexed (filter (is_indexed schema) reaching) =
    subst (λ (s : Declarations). Adds [] indexed (filter (is_indexed s) reaching)) c.deref-2.ensures
    (subst (λ (hs : List Held). Adds [] indexed (filter (is_indexed c.deref-2.result.now) hs)) c.as_slice-2.ensures.value
    (subst (λ (before : List Held). Adds before indexed (filter (is_indexed c.deref-2.result.now) c.as_slice-2.result.now)) c.new-held.ensures.items c.in_ok-add_indexed.ensures)) in
    let three : Adds indexed all (map held_of (filter (λ (e : EdgeRef × EdgeRow). leaves_any_forward schema c.args.vertical docs e.0) graph.edges)) =
    subst (λ (s : Declarations). Adds indexed all (map held_of (filter (λ (e : EdgeRef × EdgeRow). leaves_any_forward s c.args.vertical docs e.0) graph.edges))) c.deref-3.ensures
    (subst (λ (ks : List DocKey). Adds indexed all (map held_of (filter (λ (e : EdgeRef × EdgeRow). leaves_any_forward c.deref-3.result.now c.args.vertical ks e.0) graph.edges))) c.as_slice-3.ensures.value c.in_ok-add_forward.ensures) in
    shard-is schema c.self.inside.limits graph c.self.invariant.contents c.args.vertical c.args.shard docs same reaching indexed all c.in_order.result one two three c.in_order.ensures.permutation c.in_order.ensures.sorted
    ∙ ap (λ (t : TableState). shard_edges t.schema t.contents c.args.vertical c.args.shard) c.self.view_is
