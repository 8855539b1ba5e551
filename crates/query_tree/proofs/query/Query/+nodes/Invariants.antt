use Rattle.std.proofs.Common.{◌≡◌, ◌+◌, drop}
use Rattle.query_tree.specs.Tree.{tree_of, operands_of}
use Rattle.query_tree.specs.Size.{node_count, operand_nodes}
use Rattle.query_tree.proofs.query.Query.+nodes.Given as goal

abbrev pub decreases-nodes : goal.decreases-nodes
decreases-nodes l = goal.size-nodes l

abbrev pub invariant-loop-operand : goal.invariant-loop-operand
invariant-loop-operand l =
    l.count + operand_nodes (operands_of (drop l.operand-index l.operand-items)) ≡ node_count (tree_of l.self)
