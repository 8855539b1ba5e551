use Rattle.std.proofs.Common.{◌≡◌, take}
use Rattle.std.specs.FinMap as finite
use Rattle.layer_base.specs.Layers.{stack_table}
use Rattle.shard_index.proofs.ranks.rank_in.Given as goal

abbrev pub invariant-loop-i : goal.invariant-loop-i
invariant-loop-i l = l.rank ≡ finite.get (stack_table (take l.i l.layers.0)) l.id
