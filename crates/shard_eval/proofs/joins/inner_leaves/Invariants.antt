use Rattle.std.proofs.Common.{◌≡◌, map, take}
use Rattle.shard_eval.specs.Resolution.{leaf_from}
use Rattle.shard_eval.proofs.joins.inner_leaves.Given as goal

abbrev pub invariant-loop-hit : goal.invariant-loop-hit
invariant-loop-hit l = l.leaves ≡ map (leaf_from l.type_no) (take l.hit-index l.inner)
