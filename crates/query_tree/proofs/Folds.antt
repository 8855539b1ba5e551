-- The plain trees of operands, lists and joins, by their fields.
use Rattle.std.proofs.Common.{◌≡◌}
use Rattle.query_tree.specs.declared.query.JoinNode.{JoinNode}
use Rattle.query_tree.specs.declared.query.ListNode.{ListNode}
use Rattle.query_tree.specs.declared.query.Operand.{Operand}
use Rattle.query_tree.specs.declared.query.Query.TheViews.{out-JoinNode, out-ListNode, out-Operand}
use Rattle.query_tree.specs.declared.query.Query.TheFolds.{fold_out-JoinNode, fold_out-ListNode, fold_out-Operand}
use Rattle.query_tree.specs.Tree.{Tree, Joined, Listed, Marked, tree_of, joined_of, listed_of, marked_of, operands_of, tree_step, join_step, list_step, operand_step}

pub operand_is : (operand : Operand) → marked_of operand ≡ record { node = tree_of (out-Operand operand).node; mark = (out-Operand operand).mark }
operand_is operand = fold_out-Operand Tree Joined Listed Marked tree_step join_step list_step operand_step operand

pub listed_is : (list : ListNode) → listed_of list ≡ record { column = (out-ListNode list).column; operands = operands_of (out-ListNode list).operands.items }
listed_is list = fold_out-ListNode Tree Joined Listed Marked tree_step join_step list_step operand_step list

abbrev pub join_fields : JoinNode → Joined
join_fields join = record {
  column = (out-JoinNode join).column;
  type_column = (out-JoinNode join).type_column;
  type_name = (out-JoinNode join).type_name;
  limit = (out-JoinNode join).limit;
  node = tree_of (out-JoinNode join).node.value;
}

pub joined_is : (join : JoinNode) → joined_of join ≡ join_fields join
joined_is join = fold_out-JoinNode Tree Joined Listed Marked tree_step join_step list_step operand_step join
