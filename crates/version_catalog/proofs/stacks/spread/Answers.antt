use Rattle.std.proofs.Common.{◌≡◌, ◌+◌, ◌++◌, ◌∙◌, ap, take, drop, length, replicate}
use Rattle.std.specs.List.{flat_map}
use Rattle.version_catalog.specs.Spread.{spread_over}
use Rattle.version_catalog.proofs.Shares.{spread_more, shards_more}
use Rattle.version_catalog.proofs.stacks.spread.Goals as goal

pub split_at-requires : goal.split_at-requires
split_at-requires c = (shards_more c.args.schema.now.verticals c.loop-vertical.vertical c.vertical-declared.result.now c.loop-vertical.rest.now c.vertical-declared.ensures.at c.loop-vertical.invariant.1).0

pub loop-vertical-preserved : goal.loop-vertical-preserved
loop-vertical-preserved c =
    let verticals = c.args.schema.now.verticals in let v = c.loop-vertical.vertical in let declared = c.vertical-declared.result.now in
    let own : c.split_at.result.0.now ≡ take declared.shards c.loop-vertical.rest.now = c.split_at.ensures.front in
    let others : c.split_at.result.1.now ≡ drop declared.shards c.loop-vertical.rest.now = c.split_at.ensures.back in
    let more = spread_more verticals v declared c.loop-vertical.shares.items c.split_at.result.0.now c.split_at.result.1.now c.loop-vertical.rest.now c.vertical-declared.ensures.at own others in
    let added : c.add_replicas.new.shares.items ≡ c.loop-vertical.shares.items ++ flat_map (replicate declared.replicas) c.split_at.result.0.now = c.in_ok-add_replicas.ensures {u = tt} in (
      ap (λ items. items ++ spread_over (drop (v + 1) verticals) c.split_at.result.1.now) added ∙ more ∙ c.loop-vertical.invariant.0,
      ap length others ∙ (shards_more verticals v declared c.loop-vertical.rest.now c.vertical-declared.ensures.at c.loop-vertical.invariant.1).1,
    )
