use Rattle.std.proofs.Common.{◌+◌, ◌*◌, map, take}
use Rattle.query_check.specs.Plan.{operands_seen, plans_of, seen, seen_node}
use Rattle.shard_index.specs.Places.{shards_in}
use Rattle.uni_meaning.proofs.SeenNodes.{plan_size, plans_size}
use Rattle.apply_extract.specs.Answered.{operand_in, AreReadyIn}
use Rattle.apply_extract.specs.Hits.{AreAnswered, OfEachTable}
use Rattle.apply_extract.proofs.joins.+joins.Given as goal

abbrev pub decreases-first_hits : goal.decreases-first_hits
decreases-first_hits g l = 4 * plan_size (seen l.query.now).stated.plan + 1

abbrev pub decreases-answer_joins : goal.decreases-answer_joins
decreases-answer_joins g l = 4 * plan_size (seen_node l.node.now).plan

abbrev pub decreases-answer_list : goal.decreases-answer_list
decreases-answer_list g l = 4 * plans_size (plans_of (operands_seen l.operands.now.items)) + 2

abbrev pub decreases-answer_operands : goal.decreases-answer_operands
decreases-answer_operands g l = 4 * plans_size (plans_of (operands_seen l.operands.now.items)) + 1

abbrev pub decreases-inner_hits : goal.decreases-inner_hits
decreases-inner_hits g l = 4 * plan_size (seen l.query.now).stated.plan + 2

abbrev pub invariant-answer_operands-loop-operand : goal.invariant-answer_operands-loop-operand
invariant-answer_operands-loop-operand g l = record {
  ready : AreReadyIn (shards_in l.version.schema l.vertical) (map operand_in l.found.items);
  are : OfEachTable l.version (AreAnswered l.version.schema (plans_of (operands_seen (take l.operand-index l.operand-items))) (shards_in l.version.schema l.vertical) l.fn.book l.book (map operand_in l.found.items));
}
