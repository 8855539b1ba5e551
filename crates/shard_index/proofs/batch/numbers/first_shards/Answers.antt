use Rattle.std.proofs.Common.{arith, ◌≡◌, ◌+◌, ◌++◌, ◌∷◌, [], sym, ap, ◌∙◌}
use Rattle.std.proofs.lemmas.List.FromFn.{map-range_with_len_more}
use Rattle.shard_index.specs.Numbers.{shards_before}
use Rattle.shard_index.proofs.ShardNumbers.{bounds, few_before, before_more}
use Rattle.shard_index.proofs.batch.numbers.first_shards.Goals as goal

pub overflow_add-count : goal.overflow_add-count
overflow_add-count c =
    let few = few_before c.args.schema.now c.verticals.ensures.kept c.loop-vertical.vertical in
    let most = (bounds c.vertical.result.now c.vertical.ensures.kept).1 in
    let so_far = c.loop-vertical.invariant.0 in
    omega (arith, few, most, so_far)

pub loop-vertical-preserved : goal.loop-vertical-preserved
loop-vertical-preserved c =
    let schema = c.args.schema.now in let v = c.loop-vertical.vertical in
    let first : 0 + (v + 1) ≡ v + 1 = omega arith in
    let count : c.loop-vertical.count + c.vertical.result.now.shards ≡ shards_before schema (v + 1) =
    ap (λ n. n + c.vertical.result.now.shards) c.loop-vertical.invariant.0 ∙ before_more schema v c.vertical.result.now c.vertical.ensures.at in (
      count,
      c.in_ok-push-2.ensures.items ∙ (λ i. c.loop-vertical.invariant.1 i ++ count i ∷ []) ∙ sym (map-range_with_len_more (shards_before schema) 0 (v + 1) (v + 1) first),
    )
