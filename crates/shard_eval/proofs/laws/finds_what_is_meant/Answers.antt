use Rattle.shard_eval.proofs.MeantShards.{node_meant}
use Rattle.shard_eval.proofs.laws.finds_what_is_meant.Goals as goal

pub returns : goal.returns
returns c = λ schema limits table book vertical shard plan node kept of stands. node_meant schema limits table book vertical shard kept plan node of stands
