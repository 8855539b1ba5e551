-- Where a query's nodes stand, and queries that are equal but for that.
use Rattle.std.specs.Prelude.{ℕ, ◌≡◌}
use Rattle.query_tree.specs.Tree.{Tree, Forest, term_at, list_at, join_at, no_operands, with_operand}

-- a node's own column
abbrev pub column_of : Tree → ℕ
column_of (term_at column _ _ _) = column
column_of (list_at column _ _) = column
column_of (join_at column _ _ _ _ _) = column

-- the query with every column 1, as one that was never a text
abbrev mutual
  pub without_columns : Tree → Tree
  without_columns (term_at column kind type_name key) = term_at 1 kind type_name key
  without_columns (list_at column kind operands) = list_at 1 kind (operands_without_columns operands)
  without_columns (join_at column kind type_column type_name limit node) =
      join_at 1 kind 1 type_name limit (without_columns node)

  pub operands_without_columns : Forest → Forest
  operands_without_columns no_operands = no_operands
  operands_without_columns (with_operand node mark others) =
      with_operand (without_columns node) mark (operands_without_columns others)

-- equal but for columns
abbrev pub AreSameButColumns : Tree → Tree → Type 0
AreSameButColumns one other = without_columns one ≡ without_columns other
