use Rattle.std.proofs.Common.{◌≡◌, map, take}
use Rattle.lineage_tree.specs.Tree.{tree_of}
use Rattle.shard_eval.specs.Reached.{found_place}
use Rattle.shard_eval.proofs.grouped.any_tree.Given as goal

abbrev pub invariant-loop-place : goal.invariant-loop-place
invariant-loop-place l = map tree_of l.trees.items ≡ map (λ p. (found_place p).tree) (take l.place-index l.places)
