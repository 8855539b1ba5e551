use Rattle.shard_eval.proofs.TreeLineages.{tree_told}
use Rattle.shard_eval.proofs.laws.trees_are_exact.Goals as goal

pub returns : goal.returns
returns c = tree_told
