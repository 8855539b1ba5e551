-- The weights of a query that is within a dialect are shares, and so are those of what it is under a schema.
use Rattle.std.proofs.Common.{◌≡◌, ℕ, ◌+◌, Bool, true, false, cond, List, Option, None, Some, Result, Ok, Err, refl, subst}
use Rattle.std.specs.Prelude.{nat_le, ok_or}
use Rattle.std.specs.Option.{option_map}
use Rattle.uni_schema.specs.Schema.{Declarations, key_from}
use Rattle.uni_schema.specs.declared.schema.Origin.{Origin}
use Rattle.uni_schema.specs.declared.schema.Origin.TheVariants.{Vertical, Words}
use Rattle.uni_schema.specs.declared.schema.Store.TheVariants.{Index}
use Rattle.query_tree.specs.declared.dialect.Dialect.{Dialect}
use Rattle.query_tree.specs.declared.kind.TermKind.{TermKind}
use Rattle.query_tree.specs.declared.kind.TermKind.TheVariants as terms
use Rattle.query_tree.specs.declared.kind.ListKind.{ListKind}
use Rattle.query_tree.specs.declared.query.Mark.{Mark}
use Rattle.query_tree.specs.declared.query.Mark.TheVariants as marks
use Rattle.query_tree.specs.Marks.{IsMarkValue}
use Rattle.query_tree.specs.Tree.{Tree, Forest, term_at, list_at, join_at, no_operands, with_operand}
use Rattle.query_tree.specs.Columns.{column_of}
use Rattle.query_tree.specs.Within.{AreAllowed, IsAllowed}
use Rattle.query_check.specs.declared.checked.Checked.{Checked}
use Rattle.query_check.specs.Plan.{Plan, Stated, inner_of, seen, stated_of, term_plan, prefix_plan, join_plan, no_plans}
use Rattle.query_check.specs.Verticals.{AreStated, IsOf}
use Rattle.query_check.specs.Typing.{Found, Mistyped, Operands, and_then, beginning, join_store, join_typed, leaf_plan, leaf_typed, list_typed, mistyped, of_operands, of_target, operands_typed, starts_at, is_other, type_kept, typed, with_first}
use Rattle.shard_eval.specs.Kept.{IsShare}
use Rattle.apply_extract.specs.Conditions.{HasShares, HaveShares, IsAsked}
use Rattle.apply_extract.specs.Laws.{WithinHasShares}

-- what stands before a result without a fault
record Both {A B : Type 0} (due : Result A Mistyped) (later : A → Result B Mistyped) (value : B) : Type 0 where
  first : A
  is_first : due ≡ Ok first
  is_later : later first ≡ Ok value

ok_both : {A B : Type 0} (due : Result A Mistyped) (later : A → Result B Mistyped) (value : B) → and_then due later ≡ Ok value → Both due later value
ok_both (Ok first) later value is_ok = record { first = first; is_first = refl; is_later = is_ok }
ok_both (Err fault) later value is_ok = absurd (cc)

ok_behind : {A : Type 0} (test : Bool) (code column : ℕ) (due : Result A Mistyped) (value : A) → cond test (mistyped code column) due ≡ Ok value → due ≡ Ok value
ok_behind true code column due value is_ok = absurd (cc)
ok_behind false code column due value is_ok = is_ok

ok_if : {A : Type 0} (test : Bool) (given value : A) (code column : ℕ) → cond test (Ok given) (mistyped code column) ≡ Ok value → given ≡ value
ok_if true given value code column is_ok = cc
ok_if false given value code column is_ok = absurd (cc)

ok_some : {A : Type 0} (option : Option A) (fault : Mistyped) (value : A) → ok_or option fault ≡ Ok value → option ≡ Some value
ok_some None fault value is_ok = absurd (cc)
ok_some (Some given) fault value is_ok = cc

some_map : {A B : Type 0} (f : A → B) (option : Option A) (value : B) → option_map f option ≡ Some value → (given : A) × ((option ≡ Some given) × (f given ≡ value))
some_map f None value is_some = absurd (cc)
some_map f (Some given) value is_some = (given, (refl, cc))

share_of : (mark : Mark) → IsMarkValue mark → IsShare mark
share_of marks.Plain is = tt
share_of (marks.Hits count) is = tt
share_of (marks.Weight n d) is = is

beginning_shares : (origin : Origin) (number : ℕ) (from : List ℕ) (plan : Plan) → beginning origin number from ≡ Some plan → HasShares plan
beginning_shares (Vertical vertical) number from plan is = absurd (cc)
beginning_shares Words number from plan is = let same : prefix_plan number from ≡ plan = cc in subst HasShares same tt

leaf_shares : (kind : TermKind) (found : Found) (key : List ℕ) (plan : Plan) → leaf_plan kind found key ≡ Some plan → HasShares plan
leaf_shares terms.Whole found key plan is = let whole = some_map (term_plan found.number) (key_from found.def.origin key) plan is in subst HasShares whole.1.1 tt
leaf_shares terms.Prefix found key plan is = beginning_shares found.def.origin found.number key plan is

module _ (dialect : Dialect) (schema : Declarations) (joins : ℕ) where
  mutual
    shares_of : (around : ℕ) (tree : Tree) (stated : Stated) → typed schema joins around tree ≡ Ok stated → IsAllowed dialect tree → HasShares stated.plan
    shares_of around (term_at column kind type_name key) stated is allowed =
        let both : Both (type_kept schema Index column type_name) (λ (found : Found). leaf_typed column kind found key) stated =
        ok_both (type_kept schema Index column type_name) (λ (found : Found). leaf_typed column kind found key) stated is in
        let some = ok_some (option_map (of_target both.first) (leaf_plan kind both.first key)) (record { code = 42; column = column }) stated both.is_later in
        let leaf = some_map (of_target both.first) (leaf_plan kind both.first key) stated some in
        subst (λ (s : Stated). HasShares s.plan) leaf.1.1 (leaf_shares kind both.first key leaf.0 leaf.1.0)
    shares_of around (list_at column kind operands) stated is allowed =
        let both : Both (operands_typed schema joins around None operands) (list_typed kind column) stated =
        ok_both (operands_typed schema joins around None operands) (list_typed kind column) stated is in
        let some = ok_some (option_map (of_operands kind both.first.plans) both.first.vertical) (record { code = 45; column = column }) stated both.is_later in
        let vertical = some_map (of_operands kind both.first.plans) both.first.vertical stated some in
        subst (λ (s : Stated). HasShares s.plan) vertical.1.1 (operand_shares around kind None operands both.first both.is_first allowed.1)
    shares_of around (join_at column kind type_column type_name limit node) stated is allowed =
        let free = ok_behind (nat_le joins around) 47 column (and_then (type_kept schema (join_store kind) type_column type_name) (λ (found : Found). and_then (typed schema joins (around + 1) node) (join_typed kind type_column limit found))) stated is in
        let both : Both (type_kept schema (join_store kind) type_column type_name) (λ (found : Found). and_then (typed schema joins (around + 1) node) (join_typed kind type_column limit found)) stated =
        ok_both (type_kept schema (join_store kind) type_column type_name) (λ (found : Found). and_then (typed schema joins (around + 1) node) (join_typed kind type_column limit found)) stated free in
        let inner : Both (typed schema joins (around + 1) node) (join_typed kind type_column limit both.first) stated =
        ok_both (typed schema joins (around + 1) node) (join_typed kind type_column limit both.first) stated both.is_later in
        let there = ok_if (starts_at both.first.def.origin inner.first.vertical) (of_target both.first (join_plan kind both.first.number limit inner.first.plan)) stated 46 type_column inner.is_later in
        subst (λ (s : Stated). HasShares s.plan) there (shares_of (around + 1) node inner.first inner.is_first allowed.2)

    operand_shares : (around : ℕ) (kind : ListKind) (before : Option ℕ) (operands : Forest) (found : Operands) → operands_typed schema joins around before operands ≡ Ok found → AreAllowed dialect kind operands → HaveShares found.plans
    operand_shares around kind before no_operands found is allowed =
        let same : record { plans = no_plans; vertical = before } ≡ found = cc in subst (λ (o : Operands). HaveShares o.plans) same tt
    operand_shares around kind before (with_operand node mark others) found is allowed =
        let both : Both (typed schema joins around node) (λ (one : Stated). cond (is_other before one.vertical) (mistyped 45 (column_of node)) (and_then (operands_typed schema joins around (Some one.vertical) others) (λ (rest : Operands). Ok (with_first one mark rest)))) found =
        ok_both (typed schema joins around node) (λ (one : Stated). cond (is_other before one.vertical) (mistyped 45 (column_of node)) (and_then (operands_typed schema joins around (Some one.vertical) others) (λ (rest : Operands). Ok (with_first one mark rest)))) found is in
        let free = ok_behind (is_other before both.first.vertical) 45 (column_of node) (and_then (operands_typed schema joins around (Some both.first.vertical) others) (λ (rest : Operands). Ok (with_first both.first mark rest))) found both.is_later in
        let rest : Both (operands_typed schema joins around (Some both.first.vertical) others) (λ (r : Operands). Ok (with_first both.first mark r)) found =
        ok_both (operands_typed schema joins around (Some both.first.vertical) others) (λ (r : Operands). Ok (with_first both.first mark r)) found free in
        let same : with_first both.first mark rest.first ≡ found = cc in
        subst (λ (o : Operands). HaveShares o.plans) same
        (share_of mark allowed.0.1, shares_of around node both.first both.is_first allowed.1, operand_shares around kind (Some both.first.vertical) others rest.first rest.is_first allowed.2)

pub within_has_shares : WithinHasShares
within_has_shares = record { shares = λ dialect schema joins around tree stated is allowed. shares_of dialect schema joins around tree stated is allowed }

-- so what a query that was read is found to be can be asked
pub asked_of : (dialect : Dialect) (schema : Declarations) (joins : ℕ) (tree : Tree) (query : Checked) → typed schema joins 0 tree ≡ Ok (stated_of query) → IsOf schema (stated_of query).plan (stated_of query).vertical → AreStated schema (inner_of query)
    → IsAllowed dialect tree → IsAsked schema (seen query)
asked_of dialect schema joins tree query is of inner allowed = record { of = of; inner = inner; shares = shares_of dialect schema joins 0 tree (stated_of query) is allowed }
