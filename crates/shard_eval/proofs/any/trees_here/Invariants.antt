use Rattle.std.proofs.Common.{◌≡◌, map, take}
use Rattle.std.specs.List.{filter_map}
use Rattle.lineage_tree.specs.Tree.{tree_of}
use Rattle.shard_eval.specs.Found.{first_at}
use Rattle.shard_eval.specs.Witnesses.{found_postings}
use Rattle.shard_eval.proofs.any.trees_here.Given as goal

abbrev pub invariant-loop-term : goal.invariant-loop-term
invariant-loop-term l = map tree_of l.trees.items ≡ filter_map (first_at l.key) (map found_postings (take l.term-index l.terms))
