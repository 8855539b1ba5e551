-- what does not come before the key is still there
use Rattle.std.proofs.Common.{◌≡◌, length}
use Rattle.uni_base.specs.Cursors.{IsRanked}
use Rattle.shard_eval.specs.Found.{found_all, found_from, hit_keys}
use Rattle.shard_eval.proofs.witness.pass_before.Given as goal

abbrev pub invariant-loop-hit : goal.invariant-loop-hit
invariant-loop-hit l = (found_from l.key (found_all l.hits.items) ≡ found_from l.key (found_all l.initial.hits.items)) × IsRanked (hit_keys l.hits.items)

abbrev pub decreases-loop-hit : goal.decreases-loop-hit
decreases-loop-hit l = length l.hits.items
