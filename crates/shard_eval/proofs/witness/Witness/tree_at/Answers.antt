use Rattle.std.proofs.Common.{subst}
use Rattle.uni_base.specs.Cursors.{IsRanked}
use Rattle.shard_eval.specs.Found.{found_keys}
use Rattle.shard_eval.specs.Witnesses.{found_in}
use Rattle.shard_eval.proofs.HitLists.{keys_all}
use Rattle.shard_eval.proofs.witness.Witness.tree_at.Goals as goal

pub hit_at-requires : goal.hit_at-requires
hit_at-requires c = subst IsRanked (keys_all c.in-Hits.hits.items) (subst (λ w. IsRanked (found_keys (found_in w))) c.in-Hits.is c.requires)
