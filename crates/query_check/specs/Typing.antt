-- What a query asks for under a schema, or its first fault.
use Rattle.std.specs.Prelude.{ℕ, ◌≡◌, ◌+◌, Bool, true, false, not, ◌==◌, nat_le, List, Option, Some, None, ok_or, Result, Ok, Err, if◌then◌else◌}
use Rattle.std.specs.Option.{option_map, option_and_then}
use Rattle.uni_schema.specs.Schema.{Declarations, type_no, type_at, key_from}
use Rattle.uni_schema.specs.declared.schema.TypeDef.{TypeDef}
use Rattle.uni_schema.specs.declared.schema.Origin.{Origin}
use Rattle.uni_schema.specs.declared.schema.Origin.TheVariants.{Vertical, Words}
use Rattle.uni_schema.specs.declared.schema.Store.{Store}
use Rattle.uni_schema.specs.declared.schema.Store.TheVariants.{Index, Forward}
use Rattle.query_tree.specs.declared.kind.TermKind.{TermKind}
use Rattle.query_tree.specs.declared.kind.TermKind.TheVariants as terms
use Rattle.query_tree.specs.declared.kind.ListKind.{ListKind}
use Rattle.query_tree.specs.declared.query.Mark.{Mark}
use Rattle.query_tree.specs.declared.kind.JoinKind.{JoinKind}
use Rattle.query_tree.specs.declared.kind.JoinKind.TheVariants.{Apply, Extract}
use Rattle.query_tree.specs.declared.refusal.QueryRefusal.{QueryRefusal}
use Rattle.query_tree.specs.declared.refusal.QueryRefusal.TheVariants.{Fault, Memory}
use Rattle.query_tree.specs.Tree.{Tree, Forest, term_at, list_at, join_at, no_operands, with_operand}
use Rattle.query_tree.specs.Columns.{column_of}
use Rattle.query_check.specs.Plan.{Plan, Plans, term_plan, prefix_plan, list_plan, join_plan, no_plans, with_plan, Stated}

-- a fault: its code and its column
pub record Mistyped : Type 0 where
  pub code : ℕ
  pub column : ℕ

abbrev pub mistyped : {A : Type 0} → ℕ → ℕ → Result A Mistyped
mistyped code column = Err (record { code = code; column = column })

-- what follows, unless a fault came before it
abbrev pub and_then : {A B : Type 0} → Result A Mistyped → (A → Result B Mistyped) → Result B Mistyped
and_then (Ok value) later = later value
and_then (Err fault) later = Err fault

-- a type with its number
pub record Found : Type 0 where
  pub number : ℕ
  pub def : TypeDef

abbrev pub type_named : Declarations → List ℕ → Option Found
type_named schema name =
    option_and_then (λ number. option_map (λ def. record { number = number; def = def }) (type_at schema number)) (type_no schema name)

-- the fault of a type that is not kept so
abbrev pub store_code : Store → ℕ
store_code Index = 43
store_code Forward = 44

abbrev pub is_store : Store → Store → Bool
is_store Index Index = true
is_store Forward Forward = true
is_store one other = false

-- a type that is declared, and kept as it must be
abbrev pub type_kept : Declarations → Store → ℕ → List ℕ → Result Found Mistyped
type_kept schema store column name =
    and_then (ok_or (type_named schema name) (record { code = 41; column = column }))
    (λ found. if is_store store found.def.store then Ok found else mistyped (store_code store) column)

-- only words begin with words
abbrev pub beginning : Origin → ℕ → List ℕ → Option Plan
beginning (Vertical vertical) number from = None
beginning Words number from = Some (prefix_plan number from)

-- the plan of a term: its key is one of its type's
abbrev pub leaf_plan : TermKind → Found → List ℕ → Option Plan
leaf_plan terms.Whole found key = option_map (term_plan found.number) (key_from found.def.origin key)
leaf_plan terms.Prefix found key = beginning found.def.origin found.number key

abbrev pub of_target : Found → Plan → Stated
of_target found plan = record { plan = plan; vertical = found.def.target }

abbrev pub leaf_typed : ℕ → TermKind → Found → List ℕ → Result Stated Mistyped
leaf_typed column kind found key =
    ok_or (option_map (of_target found) (leaf_plan kind found key)) (record { code = 42; column = column })

abbrev pub term_typed : Declarations → ℕ → TermKind → List ℕ → List ℕ → Result Stated Mistyped
term_typed schema column kind type_name key =
    and_then (type_kept schema Index column type_name) (λ found. leaf_typed column kind found key)

-- a join follows index edges, or forward edges
abbrev pub join_store : JoinKind → Store
join_store Apply = Index
join_store Extract = Forward

-- a type starts at a vertical
abbrev pub starts_at : Origin → ℕ → Bool
starts_at (Vertical vertical) other = vertical == other
starts_at Words other = false

-- a join through a type that starts at the vertical of the inner query
abbrev pub join_typed : JoinKind → ℕ → ℕ → Found → Stated → Result Stated Mistyped
join_typed kind column limit found inner =
    if starts_at found.def.origin inner.vertical then Ok (of_target found (join_plan kind found.number limit inner.plan))
    else mistyped 46 column

-- operands, with their vertical, if there is one of them
pub record Operands : Type 0 where
  pub plans : Plans
  pub vertical : Option ℕ

abbrev pub with_first : Stated → Mark → Operands → Operands
with_first first mark others = record { plans = with_plan first.plan mark others.plans; vertical = others.vertical }

-- a list is of the vertical of its operands
abbrev pub of_operands : ListKind → Plans → ℕ → Stated
of_operands kind plans vertical = record { plan = list_plan kind plans; vertical = vertical }

abbrev pub list_typed : ListKind → ℕ → Operands → Result Stated Mistyped
list_typed kind column operands =
    ok_or (option_map (of_operands kind operands.plans) operands.vertical) (record { code = 45; column = column })

-- an operand of another vertical than those before it
abbrev pub is_other : Option ℕ → ℕ → Bool
is_other None vertical = false
is_other (Some before) vertical = not (before == vertical)

-- What a node is, that lies inside so many joins, of which so many are allowed; or its first fault.
-- Faults come in this order: of a term 41, 43, 42; of operands from the left, each wholly, and 45 after
-- each but the first; of a join 47, 41, 43 or 44, those of the inner query, 46. A list without operands
-- is of no vertical: 45.
abbrev mutual
  pub typed : Declarations → ℕ → ℕ → Tree → Result Stated Mistyped
  typed schema joins around (term_at column kind type_name key) = term_typed schema column kind type_name key
  typed schema joins around (list_at column kind operands) =
      and_then (operands_typed schema joins around None operands) (list_typed kind column)
  typed schema joins around (join_at column kind type_column type_name limit node) =
      if nat_le joins around then mistyped 47 column
      else and_then (type_kept schema (join_store kind) type_column type_name) (λ found.
      and_then (typed schema joins (around + 1) node) (join_typed kind type_column limit found))

  pub operands_typed : Declarations → ℕ → ℕ → Option ℕ → Forest → Result Operands Mistyped
  operands_typed schema joins around before no_operands = Ok (record { plans = no_plans; vertical = before })
  operands_typed schema joins around before (with_operand node mark others) =
      and_then (typed schema joins around node) (λ one.
      if is_other before one.vertical then mistyped 45 (column_of node)
      else and_then (operands_typed schema joins around (Some one.vertical) others) (λ rest. Ok (with_first one mark rest)))

-- the call found what is due, or its fault; want of memory is free
abbrev pub IsFault : {A : Type 0} → Result A Mistyped → QueryRefusal → Type 0
IsFault due (Fault code column) = due ≡ Err (record { code = code; column = column })
IsFault due Memory = Unit {0}
