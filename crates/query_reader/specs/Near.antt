-- Where the faults of a text and the nodes of its query may stand.
use Rattle.std.specs.Prelude.{ℕ, ◌≡◌, ◌+◌, ◌≤◌, List, length, Ok}
use Rattle.query_tree.specs.declared.dialect.Dialect.{Dialect}
use Rattle.query_tree.specs.Tree.{Tree, Forest, term_at, list_at, join_at, no_operands, with_operand}
use Rattle.query_reader.specs.Reading.{text_read, QueryFault}

-- a column of a text of so many bytes
abbrev pub IsColumn : ℕ → ℕ → Type 0
IsColumn size column = (1 ≤ column) × (column ≤ size)

-- a query's nodes, and the types of its joins, have columns of such a text
abbrev mutual
  pub AreColumnsWithin : ℕ → Tree → Type 0
  AreColumnsWithin size (term_at column kind type_name key) = IsColumn size column
  AreColumnsWithin size (list_at column kind operands) = IsColumn size column × AreOperandsWithin size operands
  AreColumnsWithin size (join_at column kind type_column type_name limit node) =
      IsColumn size column × IsColumn size type_column × AreColumnsWithin size node

  pub AreOperandsWithin : ℕ → Forest → Type 0
  AreOperandsWithin size no_operands = Unit {0}
  AreOperandsWithin size (with_operand node mark others) = AreColumnsWithin size node × AreOperandsWithin size others

-- the codes of a query's faults: those of its grammar
abbrev pub IsGrammarCode : ℕ → Type 0
IsGrammarCode code = (31 ≤ code) × (code ≤ 38)

-- The first fault of a text has one of these codes, and stands in the text or at its end, one past its
-- last byte. The query of a text stands in it, with all its nodes.
pub record FaultsAreNear : Type 0 where
  pub fault :
      (dialect : Dialect) → (text : List ℕ) → (code : ℕ) → (column : ℕ)
      → QueryFault dialect text code column → IsGrammarCode code × IsColumn (length text + 1) column
  pub tree :
      (dialect : Dialect) → (text : List ℕ) → (tree : Tree)
      → text_read dialect text ≡ Ok tree → AreColumnsWithin (length text) tree
