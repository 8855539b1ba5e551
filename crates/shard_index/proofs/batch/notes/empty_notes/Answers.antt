use Rattle.std.proofs.Common.{arith, ◌≡◌, ◌≤◌, length, replicate, ap, ◌∙◌, slice_index_or}
use Rattle.shard_index.specs.Batches.{all_shards}
use Rattle.shard_index.specs.Notes.{no_notes}
use Rattle.shard_index.specs.Numbers.{shards_before}
use Rattle.shard_index.proofs.ShardNumbers.{count_is, firsts_long, first_at}
use Rattle.shard_index.proofs.batch.notes.empty_notes.Goals as goal

pub bounds-firsts-verticals : goal.bounds-firsts-verticals
bounds-firsts-verticals c = let count = c.verticals.ensures.count in omega (arith, count, firsts_long c.args.schema.now c.args.firsts.now c.requires)

pub returns : goal.returns
returns c =
    let schema = c.args.schema.now in
    let count = c.verticals.ensures.count in
    let fits : c.verticals.result ≤ length schema.verticals = omega (arith, count) in
    let all : slice_index_or c.args.firsts.now c.verticals.result 0 ≡ length (all_shards schema) =
    first_at schema c.args.firsts.now c.requires c.verticals.result fits ∙ ap (shards_before schema) count ∙ count_is schema in
    let end : c.loop.counter ≡ slice_index_or c.args.firsts.now c.verticals.result 0 = omega (arith, c.loop-test.false, c.loop.auto.counter-end) in
    c.loop.invariant ∙ ap (λ n. replicate n no_notes) (end ∙ all)
