-- the stacks so far
use Rattle.std.proofs.Common.{◌≡◌, ◌++◌, map}
use Rattle.std.specs.List.{flat_map, range_with_len}
use Rattle.unicorn_round.specs.Stacks.{bare}
use Rattle.unicorn_round.proofs.stacks.add_vertical.Given as goal

abbrev pub invariant-loop-shard : goal.invariant-loop-shard
invariant-loop-shard l = l.covers.items ≡ l.fn.covers.items ++ flat_map (λ shard. map (bare l.vertical shard) (range_with_len 0 l.def.replicas)) (range_with_len 0 l.shard)
