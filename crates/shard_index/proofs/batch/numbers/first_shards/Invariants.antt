use Rattle.std.proofs.Common.{◌≡◌, ◌+◌, map}
use Rattle.std.specs.List.{range_with_len}
use Rattle.shard_index.specs.Numbers.{shards_before}
use Rattle.shard_index.proofs.batch.numbers.first_shards.Given as goal

abbrev pub invariant-loop-vertical : goal.invariant-loop-vertical
invariant-loop-vertical l = (l.count ≡ shards_before l.schema l.vertical) × (l.firsts.items ≡ map (shards_before l.schema) (range_with_len 0 (l.vertical + 1)))
