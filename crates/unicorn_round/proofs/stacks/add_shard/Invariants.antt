-- the stacks so far
use Rattle.std.proofs.Common.{◌≡◌, ◌++◌, map}
use Rattle.std.specs.List.{range_with_len}
use Rattle.unicorn_round.specs.Stacks.{bare}
use Rattle.unicorn_round.proofs.stacks.add_shard.Given as goal

abbrev pub invariant-loop-replica : goal.invariant-loop-replica
invariant-loop-replica l = l.covers.items ≡ l.fn.covers.items ++ map (bare l.vertical l.shard) (range_with_len 0 l.replica)
