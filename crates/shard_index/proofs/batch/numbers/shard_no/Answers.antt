use Rattle.std.proofs.Common.{arith, ◌<◌, length, ap, ◌∙◌, slice_get}
use Rattle.shard_index.specs.Batches.{all_shards}
use Rattle.shard_index.proofs.ShardNumbers.{firsts_long, number_is, found, found_within, few_found}
use Rattle.shard_index.proofs.StackPlaces.{found_below}
use Rattle.shard_index.proofs.batch.numbers.shard_no.Goals as goal

pub bounds-firsts-vertical : goal.bounds-firsts-vertical
bounds-firsts-vertical c =
    let count = c.verticals.ensures.count in
    omega (arith, c.if-vertical-verticals.false, count, firsts_long c.args.schema.now c.args.firsts.now c.requires)

pub overflow_add-result : goal.overflow_add-result
overflow_add-result c =
    let schema = c.args.schema.now in let count = c.verticals.ensures.count in
    let below : c.args.vertical < length schema.verticals = omega (arith, c.if-vertical-verticals.false, count) in
    let there = found_below schema.verticals c.args.vertical below in
    let is = number_is schema c.args.firsts.now c.requires c.args.vertical below _ _ c.shard_of-shard.ensures in
    omega (arith, is, few_found schema c.verticals.ensures.kept c.args.vertical c.args.id there.0 there.1)

pub returns-clause-at : goal.returns-clause-at
returns-clause-at c =
    let schema = c.args.schema.now in let count = c.verticals.ensures.count in
    let below : c.args.vertical < length schema.verticals = omega (arith, c.if-vertical-verticals.false, count) in
    let there = found_below schema.verticals c.args.vertical below in
    ap (slice_get (all_shards schema)) (number_is schema c.args.firsts.now c.requires c.args.vertical below _ _ c.shard_of-shard.ensures)
    ∙ found schema c.verticals.ensures.kept c.args.vertical c.args.id there.0 there.1

pub returns-clause-within : goal.returns-clause-within
returns-clause-within c =
    let schema = c.args.schema.now in let count = c.verticals.ensures.count in
    let below : c.args.vertical < length schema.verticals = omega (arith, c.if-vertical-verticals.false, count) in
    let there = found_below schema.verticals c.args.vertical below in
    let is = number_is schema c.args.firsts.now c.requires c.args.vertical below _ _ c.shard_of-shard.ensures in
    omega (arith, is, found_within schema c.verticals.ensures.kept c.args.vertical c.args.id there.0 there.1)
