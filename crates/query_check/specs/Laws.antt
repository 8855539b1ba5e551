-- Laws of types.
use Rattle.std.specs.Prelude.{ℕ, ◌≡◌, ◌≤◌, ◌⊎◌, Result, Ok, Err}
use Rattle.uni_schema.specs.Schema.{Declarations}
use Rattle.query_tree.specs.Tree.{Tree, Forest, term_at, list_at, join_at, no_operands, with_operand}
use Rattle.query_tree.specs.Columns.{AreSameButColumns}
use Rattle.query_check.specs.Plan.{Stated}
use Rattle.query_check.specs.Typing.{Mistyped, typed}
use Rattle.query_check.specs.Verticals.{IsOf}

-- what is found, or the code of the fault
abbrev pub without_column : {A : Type 0} → Result A Mistyped → Result A ℕ
without_column (Ok value) = Ok value
without_column (Err fault) = Err fault.code

-- Columns say where a fault stands, and nothing else: queries that are equal but for them are the same,
-- or have faults with the same code.
pub record TypesIgnoreColumns : Type 0 where
  pub same :
      (schema : Declarations) → (joins : ℕ) → (around : ℕ) → (one : Tree) → (other : Tree) → AreSameButColumns one other
      → without_column (typed schema joins around one) ≡ without_column (typed schema joins around other)

-- what is found is declared, and of the vertical that is stated with it
pub record TypedIsDeclared : Type 0 where
  pub declared :
      (schema : Declarations) → (joins : ℕ) → (around : ℕ) → (tree : Tree) → (found : Stated)
      → typed schema joins around tree ≡ Ok found → IsOf schema found.plan found.vertical

-- a place in a query: the column of one of its nodes, or of the type of a join
abbrev mutual
  pub StandsIn : ℕ → Tree → Type 0
  StandsIn place (term_at column kind type_name key) = place ≡ column
  StandsIn place (list_at column kind operands) = (place ≡ column) ⊎ StandsInOne place operands
  StandsIn place (join_at column kind type_column type_name limit node) =
      (place ≡ column) ⊎ ((place ≡ type_column) ⊎ StandsIn place node)

  pub StandsInOne : ℕ → Forest → Type 0
  StandsInOne place no_operands = ⊥
  StandsInOne place (with_operand node mark others) = StandsIn place node ⊎ StandsInOne place others

-- the codes of the faults of types
abbrev pub IsTypeCode : ℕ → Type 0
IsTypeCode code = (41 ≤ code) × (code ≤ 47)

-- the first fault of a query has one of these codes, and stands at one of its places
pub record FaultsStandIn : Type 0 where
  pub fault :
      (schema : Declarations) → (joins : ℕ) → (around : ℕ) → (tree : Tree) → (fault : Mistyped)
      → typed schema joins around tree ≡ Err fault → IsTypeCode fault.code × StandsIn fault.column tree
