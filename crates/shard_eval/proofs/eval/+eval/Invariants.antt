use Rattle.std.proofs.Common.{◌≡◌, ◌+◌, ◌*◌, map, take}
use Rattle.layer_base.specs.Layers.{stack_table}
use Rattle.shard_eval.specs.Resolution.{all_found, marks_of, nodes_of, operand_of, resolution}
use Rattle.shard_eval.specs.Sources.{found_lists, source_marks}
use Rattle.shard_eval.proofs.ResolvedNodes.{size, sizes}
use Rattle.shard_eval.proofs.eval.+eval.Given as goal

abbrev pub decreases-eval : goal.decreases-eval
decreases-eval l = 4 * size (resolution l.query.now)

abbrev pub decreases-eval_list : goal.decreases-eval_list
decreases-eval_list l = 4 * sizes (nodes_of (map operand_of l.operands.now.items)) + 2

abbrev pub decreases-sources : goal.decreases-sources
decreases-sources l = 4 * sizes (nodes_of (map operand_of l.operands.now.items)) + 1

abbrev pub decreases-source : goal.decreases-source
decreases-source l = 4 * size (resolution l.node.now) + 1

abbrev pub invariant-sources-loop-operand : goal.invariant-sources-loop-operand
invariant-sources-loop-operand l = record {
  lists : found_lists (stack_table l.stack.0) l.sources.items ≡ all_found (stack_table l.stack.0) (nodes_of (map operand_of (take l.operand-index l.operand-items)));
  marks : source_marks l.sources.items ≡ marks_of (nodes_of (map operand_of (take l.operand-index l.operand-items)));
}
