use Rattle.std.proofs.Common.{◌≡◌, map, take}
use Rattle.uni_base.specs.declared.edge.Key.TheVariants.{Word}
use Rattle.shard_eval.specs.Resolution.{leaf_of}
use Rattle.shard_eval.proofs.joins.word_leaves.Given as goal

abbrev pub invariant-loop-word : goal.invariant-loop-word
invariant-loop-word l = l.leaves ≡ map (λ word. leaf_of l.type_no (Word word)) (take l.word-index l.words)
