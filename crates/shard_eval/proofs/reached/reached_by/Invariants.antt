use Rattle.std.proofs.Common.{◌≡◌, map, take}
use Rattle.layer_base.specs.Layers.{stack_table}
use Rattle.shard_eval.specs.Found.{found_term}
use Rattle.shard_eval.specs.Grouped.{firsts}
use Rattle.shard_eval.specs.Reached.{found_reached}
use Rattle.shard_eval.proofs.reached.reached_by.Given as goal

abbrev pub invariant-loop-leaf : goal.invariant-loop-leaf
invariant-loop-leaf l = map found_reached l.reached ≡ firsts l.limit (map (found_term (stack_table l.stack.0)) (take l.leaf-index l.leaves))
