use Rattle.std.proofs.Common.{◌≡◌, map, take}
use Rattle.layer_base.specs.Layers.{stack_table}
use Rattle.posting_lists.specs.Postings.{keys_of}
use Rattle.shard_eval.specs.Found.{found_keys, found_term}
use Rattle.shard_eval.proofs.any.cursors_of.Given as goal

abbrev pub invariant-loop-leaf : goal.invariant-loop-leaf
invariant-loop-leaf l = map keys_of l.cursors.items ≡ map found_keys (map (found_term (stack_table l.stack.0)) (take l.leaf-index l.leaves))
