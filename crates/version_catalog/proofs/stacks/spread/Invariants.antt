use Rattle.std.proofs.Common.{◌≡◌, ◌++◌, drop, length}
use Rattle.shard_index.specs.Batches.{shards_from}
use Rattle.version_catalog.specs.Spread.{spread_over, spread}
use Rattle.version_catalog.proofs.stacks.spread.Given as goal

abbrev pub invariant-loop-vertical : goal.invariant-loop-vertical
invariant-loop-vertical l =
    (l.shares.items ++ spread_over (drop l.vertical l.schema.verticals) l.rest ≡ spread l.schema l.layers)
    × (length l.rest ≡ length (shards_from l.vertical (drop l.vertical l.schema.verticals)))
