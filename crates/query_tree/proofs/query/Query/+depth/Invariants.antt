use Rattle.std.proofs.Common.{◌≡◌, ◌+◌, drop, max}
use Rattle.query_tree.specs.Tree.{tree_of, operands_of}
use Rattle.query_tree.specs.Size.{tree_depth, operand_depth}
use Rattle.query_tree.proofs.query.Query.+depth.Given as goal

abbrev pub decreases-depth : goal.decreases-depth
decreases-depth l = goal.size-depth l

abbrev pub invariant-loop-operand : goal.invariant-loop-operand
invariant-loop-operand l =
    1 + max l.deepest (operand_depth (operands_of (drop l.operand-index l.operand-items))) ≡ tree_depth (tree_of l.self)
