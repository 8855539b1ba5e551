use Rattle.std.proofs.Common.{List, Some, ap, subst, sym, ◌∙◌}
use Rattle.std.proofs.lemmas.Result.{IfOk-weaker}
use Rattle.std.specs.List.{filter_map}
use Rattle.uni_base.specs.Cursors.{IsRanked}
use Rattle.uni_schema.specs.Schema.{Declarations, IsSchema, shard_of}
use Rattle.uni_meaning.specs.Hits.{shards_of}
use Rattle.posting_lists.specs.declared.posting.Posting.{Posting}
use Rattle.posting_lists.specs.Postings.{keys_of}
use Rattle.apply_extract.proofs.SplitLists.{as_many}
use Rattle.apply_extract.specs.Edges.{AreInOrder, posting_in, postings_by_shard}
use Rattle.apply_extract.proofs.EdgeLists.{is_forward, lists_ranked, parted_edges}
use Rattle.apply_extract.proofs.edges.edges_from.Goals as goal

pub by_shard-requires-clause-schema : goal.by_shard-requires-clause-schema
by_shard-requires-clause-schema c = subst IsSchema (sym c.schema-schema.ensures) c.requires.schema

pub returns-clause-count : goal.returns-clause-count
returns-clause-count c =
    let target = c.args.target in let schema = c.schema-schema.result.now in
    IfOk-weaker c.by_shard.result _ _
    (λ lists is. as_many lists.items (λ (p : Posting). Some (shard_of schema target p.key.id)) (shards_of schema target) c.as_slice.result.now is ∙ ap (λ (s : Declarations). shards_of s target) c.schema-schema.ensures) c.by_shard.ensures

pub returns-clause-ranked : goal.returns-clause-ranked
returns-clause-ranked c =
    let ranked = subst (λ (ps : List Posting). IsRanked (keys_of ps)) (sym c.as_slice.ensures.value) c.in_rank_order-postings.ensures.ranked in
    IfOk-weaker c.by_shard.result _ _ (λ lists is. lists_ranked c.schema-schema.result.now c.args.target c.as_slice.result.now lists.items ranked is) c.by_shard.ensures

pub returns-clause-edges : goal.returns-clause-edges
returns-clause-edges c =
    let schema = c.args.version.now.schema in let target = c.args.target in let number = c.args.type_no in
    let ps = c.in_rank_order-postings.result.items in
    IfOk-weaker c.by_shard.result _ _
    (λ lists is limits table stands of y same.
    let items = c.in_ok-postings_of.ensures {u = tt} limits table stands ∙ ap (filter_map (posting_in schema table target)) (c.items_from-items.ensures limits table stands (is_forward schema number c.args.source target of)) in
    is ∙ (λ i. postings_by_shard (c.schema-schema.ensures i) target (c.as_slice.ensures.value i))
    ∙ parted_edges schema number c.args.source target of limits table c.args.id y ps stands.kept same (subst (λ (xs : List Posting). AreInOrder xs ps) items c.in_rank_order-postings.ensures)) c.by_shard.ensures
