use Rattle.std.proofs.Common.{◌≡◌, ◌+◌, ◌*◌, map, take}
use Rattle.shard_eval.specs.Resolution.{nodes_of, operand_of}
use Rattle.shard_eval.proofs.ResolvedNodes.{size, sizes}
use Rattle.apply_extract.specs.Answered.{answered_in, in_place, operand_in}
use Rattle.apply_extract.proofs.in_shard.+in_shard.Given as goal

abbrev pub decreases-in_shard : goal.decreases-in_shard
decreases-in_shard l = 2 * size (answered_in l.query.now l.shard)

abbrev pub decreases-operands_in_shard : goal.decreases-operands_in_shard
decreases-operands_in_shard l = 2 * sizes (nodes_of (map (in_place l.shard) (map operand_in l.operands.now.items))) + 1

abbrev pub invariant-operands_in_shard-loop-operand : goal.invariant-operands_in_shard-loop-operand
invariant-operands_in_shard-loop-operand l = map operand_of l.found.items ≡ map (in_place l.shard) (map operand_in (take l.operand-index l.operand-items))
