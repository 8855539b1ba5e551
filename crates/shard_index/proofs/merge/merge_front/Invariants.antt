use Rattle.std.proofs.Common.{◌≡◌, take}
use Rattle.std.specs.FinMap as finite
use Rattle.std.specs.Ordering.{nat_cmp}
use Rattle.layer_base.specs.Layers.{stack_table}
use Rattle.layer_base.specs.Changes.{after}
use Rattle.shard_index.proofs.merge.merge_front.Given as goal

abbrev pub invariant-loop-i : goal.invariant-loop-i
invariant-loop-i l = after {R = nat_cmp} finite.empty l.log.items ≡ stack_table (take l.i l.layers.0)
