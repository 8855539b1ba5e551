-- Which queries are within a dialect.
use Rattle.std.specs.Prelude.{ℕ, ◌≡◌, ◌+◌, ◌≤◌, min, true, List}
use Rattle.uni_base.specs.Words.{is_word, starts_with_letter}
use Rattle.query_tree.specs.declared.dialect.Dialect.{Dialect}
use Rattle.query_tree.specs.declared.kind.ListKind.{ListKind}
use Rattle.query_tree.specs.declared.kind.ListKind.TheVariants.{Difference}
use Rattle.query_tree.specs.declared.kind.TermKind.{TermKind}
use Rattle.query_tree.specs.declared.kind.TermKind.TheVariants as terms
use Rattle.query_tree.specs.Marks.{MayStand, IsMarkValue}
use Rattle.query_tree.specs.Tree.{Tree, Forest, term_at, list_at, join_at, no_operands, with_operand}
use Rattle.query_tree.specs.Size.{node_count, tree_depth}
use Rattle.query_tree.specs.Text.{default_limit}

-- a type's name is a word that begins with a letter
abbrev pub IsTypeName : List ℕ → Type 0
IsTypeName text = (is_word text ≡ true) × (starts_with_letter text ≡ true)

-- a key is a word
abbrev pub IsKeyText : List ℕ → Type 0
IsKeyText text = is_word text ≡ true

-- format 2 alone has prefix terms
abbrev pub MayBegin : ℕ → TermKind → Type 0
MayBegin format terms.Whole = Unit {0}
MayBegin format terms.Prefix = format ≡ 2

-- how many operands a list may have
abbrev pub IsOperandCount : Dialect → ListKind → ℕ → Type 0
IsOperandCount dialect Difference count = count ≡ 2
IsOperandCount dialect kind count = (1 ≤ count) × (count ≤ dialect.operands)

-- a join's limit is within the greatest
abbrev pub IsJoinLimit : Dialect → ℕ → Type 0
IsJoinLimit dialect limit = (1 ≤ limit) × (limit ≤ dialect.join_limit)

-- the limit of a join that is written without one: the default, or the greatest where that is less
abbrev pub limit_unless_given : Dialect → ℕ
limit_unless_given dialect = min default_limit dialect.join_limit

abbrev pub operand_count : Forest → ℕ
operand_count no_operands = 0
operand_count (with_operand node mark others) = 1 + operand_count others

-- each name, mark, number of operands and limit of a join may stand where it stands
abbrev mutual
  pub IsAllowed : Dialect → Tree → Type 0
  IsAllowed dialect (term_at column kind type_name key) =
      IsTypeName type_name × IsKeyText key × MayBegin dialect.format kind
  IsAllowed dialect (list_at column kind operands) =
      IsOperandCount dialect kind (operand_count operands) × AreAllowed dialect kind operands
  IsAllowed dialect (join_at column kind type_column type_name limit node) =
      IsTypeName type_name × IsJoinLimit dialect limit × IsAllowed dialect node

  pub AreAllowed : Dialect → ListKind → Forest → Type 0
  AreAllowed dialect kind no_operands = Unit {0}
  AreAllowed dialect kind (with_operand node mark others) =
      (MayStand dialect.format kind mark × IsMarkValue mark) × IsAllowed dialect node × AreAllowed dialect kind others

-- the query may stand, is no deeper and has no more nodes than the dialect allows
pub record IsWithin (dialect : Dialect) (tree : Tree) : Type 0 where
  pub allowed : IsAllowed dialect tree
  pub depth : tree_depth tree ≤ dialect.depth
  pub nodes : node_count tree ≤ dialect.nodes
