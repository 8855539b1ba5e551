use Rattle.std.proofs.Common.{◌≡◌, map}
use Rattle.lineage_tree.specs.Tree.{tree_of}
use Rattle.shard_eval.proofs.PrefixTrees.{trees_to}
use Rattle.shard_eval.proofs.prefix.PrefixWitness.any_tree.Given as goal

abbrev pub invariant-loop-i : goal.invariant-loop-i
invariant-loop-i l = map tree_of l.trees.items ≡ trees_to l.self.type_no l.self.cursor l.key l.i
