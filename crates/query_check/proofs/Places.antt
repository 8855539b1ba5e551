-- Faults stand at the places of their query.
use Rattle.std.proofs.Common.{ℕ, ◌+◌, ◌≤◌, Bool, true, false, cond, List, Option, None, Some, Result, Ok, Err, refl, inl, inr, subst, arith}
use Rattle.std.specs.Prelude.{nat_le, ok_or}
use Rattle.std.specs.Option.{option_map}
use Rattle.uni_schema.specs.Schema.{Declarations}
use Rattle.uni_schema.specs.declared.schema.Store.{Store}
use Rattle.uni_schema.specs.declared.schema.Store.TheVariants.{Index, Forward}
use Rattle.query_tree.specs.declared.kind.TermKind.{TermKind}
use Rattle.query_tree.specs.declared.kind.JoinKind.{JoinKind}
use Rattle.query_tree.specs.Tree.{Tree, Forest, term_at, list_at, join_at, no_operands, with_operand}
use Rattle.query_tree.specs.Columns.{column_of}
use Rattle.query_check.specs.Plan.{Stated, join_plan}
use Rattle.query_check.specs.Typing.{Mistyped, mistyped, and_then, Found, type_named, store_code, is_store, type_kept, leaf_plan, of_target, leaf_typed, term_typed, join_store, starts_at, join_typed, Operands, with_first, of_operands, list_typed, is_other, typed, operands_typed}
use Rattle.query_check.specs.Laws.{StandsIn, StandsInOne, IsTypeCode, FaultsStandIn}

-- a fault has a code of types, and a column for which something holds
abbrev FaultIn : {A : Type 0} → (ℕ → Type 0) → Result A Mistyped → Type 0
FaultIn P (Ok value) = Unit {0}
FaultIn P (Err fault) = IsTypeCode fault.code × P fault.column

and_then_in : {A B : Type 0} (P : ℕ → Type 0) (due : Result A Mistyped) (later : A → Result B Mistyped) → FaultIn P due
    → ((value : A) → FaultIn P (later value)) → FaultIn P (and_then due later)
and_then_in P (Ok value) later first then = then value
and_then_in P (Err fault) later first then = first

ok_or_in : {A : Type 0} (P : ℕ → Type 0) (option : Option A) (code column : ℕ) → IsTypeCode code → P column
    → FaultIn P (ok_or option (record { code = code; column = column }))
ok_or_in P None code column is_code here = (is_code, here)
ok_or_in P (Some value) code column is_code here = tt

cond_in : {A : Type 0} (P : ℕ → Type 0) (test : Bool) (one other : Result A Mistyped) → FaultIn P one → FaultIn P other → FaultIn P (cond test one other)
cond_in P true one other first second = first
cond_in P false one other first second = second

type_code : (code : ℕ) → 41 ≤ code → code ≤ 47 → IsTypeCode code
type_code code least most = (least, most)

store_in : (store : Store) → IsTypeCode (store_code store)
store_in Index = type_code 43 (omega arith) (omega arith)
store_in Forward = type_code 44 (omega arith) (omega arith)

kept_in : (P : ℕ → Type 0) (schema : Declarations) (store : Store) (column : ℕ) (name : List ℕ) → P column → FaultIn P (type_kept schema store column name)
kept_in P schema store column name here =
    and_then_in P (ok_or (type_named schema name) (record { code = 41; column = column }))
    (λ (found : Found). cond (is_store store found.def.store) (Ok found) (mistyped (store_code store) column))
    (ok_or_in P (type_named schema name) 41 column (type_code 41 (omega arith) (omega arith)) here)
    (λ found. cond_in P (is_store store found.def.store) (Ok found) (mistyped (store_code store) column) tt (store_in store, here))

term_in : (P : ℕ → Type 0) (schema : Declarations) (column : ℕ) (kind : TermKind) (type_name key : List ℕ) → P column
    → FaultIn P (term_typed schema column kind type_name key)
term_in P schema column kind type_name key here =
    and_then_in P (type_kept schema Index column type_name) (λ (found : Found). leaf_typed column kind found key)
    (kept_in P schema Index column type_name here)
    (λ found. ok_or_in P (option_map (of_target found) (leaf_plan kind found key)) 42 column (type_code 42 (omega arith) (omega arith)) here)

join_in : (P : ℕ → Type 0) (kind : JoinKind) (column limit : ℕ) (found : Found) (inner : Stated) → P column
    → FaultIn P (join_typed kind column limit found inner)
join_in P kind column limit found inner here =
    cond_in P (starts_at found.def.origin inner.vertical)
    (Ok (of_target found (join_plan kind found.number limit inner.plan))) (mistyped 46 column)
    tt (type_code 46 (omega arith) (omega arith), here)

own_place : (tree : Tree) → StandsIn (column_of tree) tree
own_place (term_at column kind type_name key) = refl
own_place (list_at column kind operands) = inl refl
own_place (join_at column kind type_column type_name limit node) = inl refl

mutual
  typed_in : (P : ℕ → Type 0) (schema : Declarations) (joins around : ℕ) (tree : Tree) → ((place : ℕ) → StandsIn place tree → P place)
      → FaultIn P (typed schema joins around tree)
  typed_in P schema joins around (term_at column kind type_name key) all = term_in P schema column kind type_name key (all column refl)
  typed_in P schema joins around (list_at column kind operands) all =
      and_then_in P (operands_typed schema joins around None operands) (list_typed kind column)
      (operands_in P schema joins around None operands (λ place one. all place (inr one)))
      (λ found. ok_or_in P (option_map (of_operands kind found.plans) found.vertical) 45 column (type_code 45 (omega arith) (omega arith)) (all column (inl refl)))
  typed_in P schema joins around (join_at column kind type_column type_name limit node) all =
      cond_in P (nat_le joins around) (mistyped 47 column)
      (and_then (type_kept schema (join_store kind) type_column type_name) (λ (found : Found). and_then (typed schema joins (around + 1) node) (join_typed kind type_column limit found)))
      (type_code 47 (omega arith) (omega arith), all column (inl refl))
      (and_then_in P (type_kept schema (join_store kind) type_column type_name)
      (λ (found : Found). and_then (typed schema joins (around + 1) node) (join_typed kind type_column limit found))
      (kept_in P schema (join_store kind) type_column type_name (all type_column (inr (inl refl))))
      (λ found. and_then_in P (typed schema joins (around + 1) node) (join_typed kind type_column limit found)
      (typed_in P schema joins (around + 1) node (λ place one. all place (inr (inr one))))
      (λ inner. join_in P kind type_column limit found inner (all type_column (inr (inl refl))))))

  operands_in : (P : ℕ → Type 0) (schema : Declarations) (joins around : ℕ) (before : Option ℕ) (operands : Forest)
      → ((place : ℕ) → StandsInOne place operands → P place) → FaultIn P (operands_typed schema joins around before operands)
  operands_in P schema joins around before no_operands all = tt
  operands_in P schema joins around before (with_operand node mark others) all =
      and_then_in P (typed schema joins around node)
      (λ (one : Stated). cond (is_other before one.vertical) (mistyped 45 (column_of node))
      (and_then (operands_typed schema joins around (Some one.vertical) others) (λ (rest : Operands). Ok (with_first one mark rest))))
      (typed_in P schema joins around node (λ place one. all place (inl one)))
      (λ one. cond_in P (is_other before one.vertical) (mistyped 45 (column_of node))
      (and_then (operands_typed schema joins around (Some one.vertical) others) (λ (rest : Operands). Ok (with_first one mark rest)))
      (type_code 45 (omega arith) (omega arith), all (column_of node) (inl (own_place node)))
      (and_then_in P (operands_typed schema joins around (Some one.vertical) others) (λ (rest : Operands). Ok (with_first one mark rest))
      (operands_in P schema joins around (Some one.vertical) others (λ place one. all place (inr one))) (λ rest. tt)))

pub faults_stand_in : FaultsStandIn
faults_stand_in = record {
  fault =
      λ schema joins around tree fault is_fault.
      subst (FaultIn (λ place. StandsIn place tree)) is_fault (typed_in (λ place. StandsIn place tree) schema joins around tree (λ place one. one));
}
