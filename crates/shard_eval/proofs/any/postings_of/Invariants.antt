use Rattle.std.proofs.Common.{◌≡◌, map, take}
use Rattle.layer_base.specs.Layers.{stack_table}
use Rattle.shard_eval.specs.Found.{found_term}
use Rattle.shard_eval.specs.Witnesses.{found_postings}
use Rattle.shard_eval.proofs.any.postings_of.Given as goal

abbrev pub invariant-loop-leaf : goal.invariant-loop-leaf
invariant-loop-leaf l = map found_postings l.terms.items ≡ map (found_term (stack_table l.stack.0)) (take l.leaf-index l.leaves)
