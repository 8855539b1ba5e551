-- Types do not depend on columns.
use Rattle.std.proofs.Common.{◌≡◌, ℕ, ◌+◌, Bool, true, false, cond, List, Option, None, Some, Result, Ok, Err, refl, sym, ap, ◌∙◌}
use Rattle.std.specs.Prelude.{nat_le, ok_or}
use Rattle.std.specs.Option.{option_map}
use Rattle.uni_schema.specs.Schema.{Declarations}
use Rattle.uni_schema.specs.declared.schema.Store.{Store}
use Rattle.uni_schema.specs.declared.schema.Store.TheVariants.{Index}
use Rattle.query_tree.specs.declared.kind.TermKind.{TermKind}
use Rattle.query_tree.specs.declared.kind.JoinKind.{JoinKind}
use Rattle.query_tree.specs.Tree.{Tree, Forest, term_at, list_at, join_at, no_operands, with_operand}
use Rattle.query_tree.specs.Columns.{column_of, without_columns, operands_without_columns}
use Rattle.query_check.specs.Plan.{Stated, join_plan}
use Rattle.query_check.specs.Typing.{Mistyped, mistyped, and_then, Found, type_named, store_code, is_store, type_kept, leaf_plan, of_target, leaf_typed, term_typed, join_store, starts_at, join_typed, Operands, with_first, of_operands, list_typed, is_other, typed, operands_typed}
use Rattle.query_check.specs.Laws.{without_column, TypesIgnoreColumns}

-- the same but for a fault's column
abbrev Alike : {A : Type 0} → Result A Mistyped → Result A Mistyped → Type 0
Alike one other = without_column one ≡ without_column other

same_value : {A : Type 0} (one other : A) → without_column {A = A} (Ok one) ≡ without_column (Ok other) → one ≡ other
same_value one other same = cc

and_then_alike : {A B : Type 0} (one other : Result A Mistyped) (later after : A → Result B Mistyped) → Alike one other
    → ((value : A) → Alike (later value) (after value)) → Alike (and_then one later) (and_then other after)
and_then_alike (Ok one) (Ok other) later after same alike =
    alike one ∙ ap (λ (value : _). without_column (after value)) (same_value one other same)
and_then_alike (Err one) (Err other) later after same alike = let codes : one.code ≡ other.code = cc in ap Err codes
and_then_alike (Ok one) (Err other) later after same alike = absurd (cc)
and_then_alike (Err one) (Ok other) later after same alike = absurd (cc)

ok_or_alike : {A : Type 0} (option : Option A) (code one other : ℕ)
    → Alike (ok_or option (record { code = code; column = one })) (ok_or option (record { code = code; column = other }))
ok_or_alike None code one other = refl
ok_or_alike (Some value) code one other = refl

cond_alike : {A : Type 0} (test : Bool) (one other two more : Result A Mistyped) → Alike one two → Alike other more → Alike (cond test one other) (cond test two more)
cond_alike true one other two more first second = first
cond_alike false one other two more first second = second

kept_alike : (schema : Declarations) (store : Store) (one other : ℕ) (name : List ℕ) → Alike (type_kept schema store one name) (type_kept schema store other name)
kept_alike schema store one other name =
    and_then_alike (ok_or (type_named schema name) (record { code = 41; column = one })) (ok_or (type_named schema name) (record { code = 41; column = other }))
    (λ (found : Found). cond (is_store store found.def.store) (Ok found) (mistyped (store_code store) one))
    (λ (found : Found). cond (is_store store found.def.store) (Ok found) (mistyped (store_code store) other))
    (ok_or_alike (type_named schema name) 41 one other)
    (λ found. cond_alike (is_store store found.def.store) (Ok found) (mistyped (store_code store) one) (Ok found) (mistyped (store_code store) other) refl refl)

term_alike : (schema : Declarations) (one other : ℕ) (kind : TermKind) (type_name key : List ℕ)
    → Alike (term_typed schema one kind type_name key) (term_typed schema other kind type_name key)
term_alike schema one other kind type_name key =
    and_then_alike (type_kept schema Index one type_name) (type_kept schema Index other type_name)
    (λ (found : Found). leaf_typed one kind found key) (λ (found : Found). leaf_typed other kind found key)
    (kept_alike schema Index one other type_name)
    (λ found. ok_or_alike (option_map (of_target found) (leaf_plan kind found key)) 42 one other)

join_alike : (kind : JoinKind) (one other limit : ℕ) (found : Found) (inner : Stated) → Alike (join_typed kind one limit found inner) (join_typed kind other limit found inner)
join_alike kind one other limit found inner =
    cond_alike (starts_at found.def.origin inner.vertical)
    (Ok (of_target found (join_plan kind found.number limit inner.plan))) (mistyped 46 one)
    (Ok (of_target found (join_plan kind found.number limit inner.plan))) (mistyped 46 other) refl refl

mutual
  typed_alike : (schema : Declarations) (joins around : ℕ) (tree : Tree) → Alike (typed schema joins around (without_columns tree)) (typed schema joins around tree)
  typed_alike schema joins around (term_at column kind type_name key) = term_alike schema 1 column kind type_name key
  typed_alike schema joins around (list_at column kind operands) =
      and_then_alike (operands_typed schema joins around None (operands_without_columns operands)) (operands_typed schema joins around None operands)
      (list_typed kind 1) (list_typed kind column)
      (operands_alike schema joins around None operands)
      (λ found. ok_or_alike (option_map (of_operands kind found.plans) found.vertical) 45 1 column)
  typed_alike schema joins around (join_at column kind type_column type_name limit node) =
      cond_alike (nat_le joins around) (mistyped 47 1)
      (and_then (type_kept schema (join_store kind) 1 type_name) (λ (found : Found). and_then (typed schema joins (around + 1) (without_columns node)) (join_typed kind 1 limit found)))
      (mistyped 47 column)
      (and_then (type_kept schema (join_store kind) type_column type_name) (λ (found : Found). and_then (typed schema joins (around + 1) node) (join_typed kind type_column limit found)))
      refl
      (and_then_alike (type_kept schema (join_store kind) 1 type_name) (type_kept schema (join_store kind) type_column type_name)
      (λ (found : Found). and_then (typed schema joins (around + 1) (without_columns node)) (join_typed kind 1 limit found))
      (λ (found : Found). and_then (typed schema joins (around + 1) node) (join_typed kind type_column limit found))
      (kept_alike schema (join_store kind) 1 type_column type_name)
      (λ found. and_then_alike (typed schema joins (around + 1) (without_columns node)) (typed schema joins (around + 1) node)
      (join_typed kind 1 limit found) (join_typed kind type_column limit found)
      (typed_alike schema joins (around + 1) node) (λ inner. join_alike kind 1 type_column limit found inner)))

  operands_alike : (schema : Declarations) (joins around : ℕ) (before : Option ℕ) (operands : Forest)
      → Alike (operands_typed schema joins around before (operands_without_columns operands)) (operands_typed schema joins around before operands)
  operands_alike schema joins around before no_operands = refl
  operands_alike schema joins around before (with_operand node mark others) =
      and_then_alike (typed schema joins around (without_columns node)) (typed schema joins around node)
      (λ (one : Stated). cond (is_other before one.vertical) (mistyped 45 (column_of (without_columns node)))
      (and_then (operands_typed schema joins around (Some one.vertical) (operands_without_columns others)) (λ (rest : Operands). Ok (with_first one mark rest))))
      (λ (one : Stated). cond (is_other before one.vertical) (mistyped 45 (column_of node))
      (and_then (operands_typed schema joins around (Some one.vertical) others) (λ (rest : Operands). Ok (with_first one mark rest))))
      (typed_alike schema joins around node)
      (λ one. cond_alike (is_other before one.vertical) (mistyped 45 (column_of (without_columns node)))
      (and_then (operands_typed schema joins around (Some one.vertical) (operands_without_columns others)) (λ (rest : Operands). Ok (with_first one mark rest)))
      (mistyped 45 (column_of node))
      (and_then (operands_typed schema joins around (Some one.vertical) others) (λ (rest : Operands). Ok (with_first one mark rest)))
      refl
      (and_then_alike (operands_typed schema joins around (Some one.vertical) (operands_without_columns others)) (operands_typed schema joins around (Some one.vertical) others)
      (λ (rest : Operands). Ok (with_first one mark rest)) (λ (rest : Operands). Ok (with_first one mark rest))
      (operands_alike schema joins around (Some one.vertical) others) (λ rest. refl)))

pub types_ignore_columns : TypesIgnoreColumns
types_ignore_columns = record {
  same =
      λ schema joins around one other same.
      sym (typed_alike schema joins around one)
      ∙ ap (λ (tree : Tree). without_column (typed schema joins around tree)) same
      ∙ typed_alike schema joins around other;
}
