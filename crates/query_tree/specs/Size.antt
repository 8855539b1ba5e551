-- How large a query is.
use Rattle.std.specs.Prelude.{ℕ, ◌+◌, max}
use Rattle.query_tree.specs.declared.query.Mark.{Mark}
use Rattle.query_tree.specs.declared.query.Mark.TheVariants.{Plain, Hits, Weight}
use Rattle.query_tree.specs.Tree.{Tree, Forest, term_at, list_at, join_at, no_operands, with_operand}

-- each term, list and join is one node
abbrev mutual
  pub node_count : Tree → ℕ
  node_count (term_at column kind type_name key) = 1
  node_count (list_at column kind operands) = 1 + operand_nodes operands
  node_count (join_at column kind type_column type_name limit node) = 1 + node_count node

  pub operand_nodes : Forest → ℕ
  operand_nodes no_operands = 0
  operand_nodes (with_operand node mark others) = node_count node + operand_nodes others

-- a mark is written inside a pair of parentheses
abbrev pub mark_depth : Mark → ℕ
mark_depth Plain = 0
mark_depth (Hits count) = 1
mark_depth (Weight numerator denominator) = 1

-- how many parentheses the print opens at once: none for a bare term, one for a term with an
-- option, and one more than the operands' greatest for lists and joins
abbrev mutual
  pub tree_depth : Tree → ℕ
  tree_depth (term_at column kind type_name key) = 0
  tree_depth (list_at column kind operands) = 1 + operand_depth operands
  tree_depth (join_at column kind type_column type_name limit node) = 1 + tree_depth node

  pub operand_depth : Forest → ℕ
  operand_depth no_operands = 0
  operand_depth (with_operand node mark others) = max (max (mark_depth mark) (tree_depth node)) (operand_depth others)
