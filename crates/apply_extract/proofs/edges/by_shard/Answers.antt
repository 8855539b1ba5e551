use Rattle.std.proofs.Common.{◌≡◌, ◌<◌, ℕ, Option, Some, ap, subst, sym, ◌∙◌, length, take}
use Rattle.std.specs.Option.{option_map_or}
use Rattle.uni_schema.specs.declared.schema.VerticalDef.{VerticalDef}
use Rattle.uni_schema.specs.Schema.{shard_of}
use Rattle.uni_meaning.specs.Hits.{shards_of}
use Rattle.posting_lists.specs.declared.posting.Posting.{Posting}
use Rattle.apply_extract.specs.Split.{with_item, empty_lists_of}
use Rattle.apply_extract.proofs.SplitLists.{as_many, split_more}
use Rattle.viewer_policy.proofs.Edges.{first_replica}
use Rattle.apply_extract.proofs.edges.by_shard.Goals as goal

pub loop-posting-init : goal.loop-posting-init
loop-posting-init c =
    let count : c.vertical.result.now.shards ≡ shards_of c.args.schema.now c.args.target = sym (ap (λ o. option_map_or (λ (d : VerticalDef). d.shards) o 0) c.vertical.ensures.at) in
    c.in_ok-lists.ensures {u = tt} ∙ ap empty_lists_of count

pub add_to-requires : goal.add_to-requires
add_to-requires c =
    let schema = c.args.schema.now in let v = c.args.target in let id = c.posting-item.result.key.id in let vectors = c.loop-posting.lists.items in
    let concerns : Posting → Option ℕ = λ p. Some (shard_of schema v p.key.id) in
    let count : length vectors ≡ shards_of schema v = as_many vectors concerns (shards_of schema v) (take c.loop-posting.posting-index c.args.postings.now) c.loop-posting.invariant in
    let below : shard_of schema v id < shards_of schema v = (first_replica schema c.requires.schema v id c.requires.target).shard in
    subst (λ n. n < length vectors) (sym c.shard_of-shard.ensures) (subst (λ n. shard_of schema v id < n) (sym count) below)

pub loop-posting-preserved : goal.loop-posting-preserved
loop-posting-preserved c =
    let schema = c.args.schema.now in let v = c.args.target in let posting = c.posting-item.result in
    let concerns = λ (p : Posting). Some (shard_of schema v p.key.id) in
    c.in_ok-add_to.ensures {u = tt} ∙ (λ i. with_item (c.loop-posting.invariant i) (Some (c.shard_of-shard.ensures i)) posting)
    ∙ split_more concerns (shards_of schema v) c.args.postings.now c.loop-posting.posting-index posting c.loop-posting-test.true c.posting-item.is
