-- What is typed is declared, and of the vertical that is stated with it.
use Rattle.std.proofs.Common.{◌≡◌, ℕ, ◌+◌, Bool, true, false, cond, List, Option, None, Some, Result, Ok, Err, refl, sym, ap, ◌∙◌, subst, arith}
use Rattle.std.specs.Prelude.{nat_le, ok_or, IfOk, MatchResult}
use Rattle.std.specs.Option.{option_map, option_and_then}
use Rattle.std.proofs.lemmas.Bool.Decides.{nat_tests}
use Rattle.uni_base.specs.Numbers.{id_of}
use Rattle.uni_base.specs.declared.edge.Key.{Key}
use Rattle.uni_base.specs.declared.edge.Key.TheVariants.{Id, Word}
use Rattle.uni_schema.specs.Schema.{Declarations, type_no, type_at, key_from}
use Rattle.uni_schema.specs.declared.schema.TypeDef.{TypeDef}
use Rattle.uni_schema.specs.declared.schema.Origin.{Origin}
use Rattle.uni_schema.specs.declared.schema.Origin.TheVariants.{Vertical, Words}
use Rattle.uni_schema.specs.declared.schema.Store.{Store}
use Rattle.uni_schema.specs.declared.schema.Store.TheVariants.{Index, Forward}
use Rattle.query_tree.specs.declared.kind.TermKind.{TermKind}
use Rattle.query_tree.specs.declared.kind.TermKind.TheVariants as terms
use Rattle.query_tree.specs.declared.kind.ListKind.{ListKind}
use Rattle.query_tree.specs.declared.kind.JoinKind.{JoinKind}
use Rattle.query_tree.specs.declared.query.Mark.{Mark}
use Rattle.query_tree.specs.declared.refusal.QueryRefusal.{QueryRefusal}
use Rattle.query_tree.specs.Tree.{Tree, Forest, term_at, list_at, join_at, no_operands, with_operand}
use Rattle.query_tree.specs.Columns.{column_of}
use Rattle.query_check.specs.declared.checked.Checked.{Checked}
use Rattle.query_check.specs.Plan.{Plan, term_plan, prefix_plan, list_plan, join_plan, no_plans, Stated, stated_of}
use Rattle.query_check.specs.Typing.{Mistyped, mistyped, and_then, Found, type_named, store_code, is_store, type_kept, beginning, leaf_plan, of_target, leaf_typed, term_typed, join_store, starts_at, join_typed, Operands, with_first, of_operands, list_typed, is_other, typed, operands_typed, IsFault}
use Rattle.query_check.specs.Verticals.{IsKeyOf, IsType, IsOf, AreOf}
use Rattle.query_check.specs.Laws.{TypedIsDeclared}

-- what stands before a result without a fault
record Both {A B : Type 0} (due : Result A Mistyped) (later : A → Result B Mistyped) (value : B) : Type 0 where
  first : A
  is_first : due ≡ Ok first
  is_later : later first ≡ Ok value

ok_both : {A B : Type 0} (due : Result A Mistyped) (later : A → Result B Mistyped) (value : B) → and_then due later ≡ Ok value → Both due later value
ok_both (Ok first) later value is_ok = record { first = first; is_first = refl; is_later = is_ok }
ok_both (Err fault) later value is_ok = absurd (cc)

ok_behind : {A : Type 0} (test : Bool) (code column : ℕ) (due : Result A Mistyped) (value : A) → cond test (mistyped code column) due ≡ Ok value
    → (test ≡ false) × (due ≡ Ok value)
ok_behind true code column due value is_ok = absurd (cc)
ok_behind false code column due value is_ok = (refl, is_ok)

ok_if : {A : Type 0} (test : Bool) (given value : A) (code column : ℕ) → cond test (Ok given) (mistyped code column) ≡ Ok value → (test ≡ true) × (given ≡ value)
ok_if true given value code column is_ok = (refl, cc)
ok_if false given value code column is_ok = absurd (cc)

ok_some : {A : Type 0} (option : Option A) (fault : Mistyped) (value : A) → ok_or option fault ≡ Ok value → option ≡ Some value
ok_some None fault value is_ok = absurd (cc)
ok_some (Some given) fault value is_ok = cc

some_map : {A B : Type 0} (f : A → B) (option : Option A) (value : B) → option_map f option ≡ Some value → (given : A) × ((option ≡ Some given) × (f given ≡ value))
some_map f None value is_some = absurd (cc)
some_map f (Some given) value is_some = (given, (refl, cc))

-- types
abbrev found_with : ℕ → TypeDef → Found
found_with number def = record { number = number; def = def }

named_at : (schema : Declarations) (number : Option ℕ) (found : Found)
    → option_and_then (λ (n : ℕ). option_map (found_with n) (type_at schema n)) number ≡ Some found → type_at schema found.number ≡ Some found.def
named_at schema None found is_found = absurd (cc)
named_at schema (Some number) found is_found =
    let def = some_map (found_with number) (type_at schema number) found is_found in
    subst (λ (f : Found). type_at schema f.number ≡ Some f.def) def.1.1 def.1.0

store_is : (store other : Store) → is_store store other ≡ true → other ≡ store
store_is Index Index is_same = refl
store_is Forward Forward is_same = refl
store_is Index Forward is_same = absurd (cc)
store_is Forward Index is_same = absurd (cc)

kept_is : (schema : Declarations) (store : Store) (column : ℕ) (name : List ℕ) (found : Found) → type_kept schema store column name ≡ Ok found
    → IsType schema found.number store found.def.origin found.def.target
kept_is schema store column name found is_kept =
    let both : Both (ok_or (type_named schema name) (record { code = 41; column = column })) (λ (f : Found). cond (is_store store f.def.store) (Ok f) (mistyped (store_code store) column)) found =
    ok_both (ok_or (type_named schema name) (record { code = 41; column = column })) (λ (f : Found). cond (is_store store f.def.store) (Ok f) (mistyped (store_code store) column)) found is_kept in
    let stored = ok_if (is_store store both.first.def.store) both.first found (store_code store) column both.is_later in
    let same : type_named schema name ≡ Some found = ok_some (type_named schema name) (record { code = 41; column = column }) both.first both.is_first ∙ ap Some stored.1 in
    record {
      def = found.def;
      declared = named_at schema (type_no schema name) found same;
      stored = subst (λ (f : Found). f.def.store ≡ store) stored.1 (store_is store both.first.def.store stored.0);
      starts = refl;
      leads = refl;
    }

-- terms
key_is : (origin : Origin) (text : List ℕ) (key : Key) → key_from origin text ≡ Some key → IsKeyOf origin key
key_is (Vertical vertical) text key is_key =
    let id = some_map Id (id_of text) key is_key in subst (IsKeyOf (Vertical vertical)) id.1.1 tt
key_is Words text key is_key = let same : Word text ≡ key = cc in subst (IsKeyOf Words) same tt

beginning_is : (schema : Declarations) (number vertical : ℕ) (origin : Origin) (from : List ℕ) (plan : Plan) → beginning origin number from ≡ Some plan
    → IsType schema number Index origin vertical → IsOf schema plan vertical
beginning_is schema number vertical (Vertical source) from plan is_plan is_type = absurd (cc)
beginning_is schema number vertical Words from plan is_plan is_type =
    let same : prefix_plan number from ≡ plan = cc in subst (λ (p : Plan). IsOf schema p vertical) same is_type

leaf_is : (schema : Declarations) (kind : TermKind) (found : Found) (key : List ℕ) (plan : Plan) → leaf_plan kind found key ≡ Some plan
    → IsType schema found.number Index found.def.origin found.def.target → IsOf schema plan found.def.target
leaf_is schema terms.Whole found key plan is_plan is_type =
    let whole = some_map (term_plan found.number) (key_from found.def.origin key) plan is_plan in
    subst (λ (p : Plan). IsOf schema p found.def.target) whole.1.1
    (found.def.origin, (is_type, key_is found.def.origin key whole.0 whole.1.0))
leaf_is schema terms.Prefix found key plan is_plan is_type =
    beginning_is schema found.number found.def.target found.def.origin key plan is_plan is_type

term_is : (schema : Declarations) (column : ℕ) (kind : TermKind) (type_name key : List ℕ) (stated : Stated) → term_typed schema column kind type_name key ≡ Ok stated
    → IsOf schema stated.plan stated.vertical
term_is schema column kind type_name key stated is_typed =
    let both : Both (type_kept schema Index column type_name) (λ (found : Found). leaf_typed column kind found key) stated =
    ok_both (type_kept schema Index column type_name) (λ (found : Found). leaf_typed column kind found key) stated is_typed in
    let some = ok_some (option_map (of_target both.first) (leaf_plan kind both.first key)) (record { code = 42; column = column }) stated both.is_later in
    let leaf = some_map (of_target both.first) (leaf_plan kind both.first key) stated some in
    subst (λ (s : Stated). IsOf schema s.plan s.vertical) leaf.1.1
    (leaf_is schema kind both.first key leaf.0 leaf.1.0 (kept_is schema Index column type_name both.first both.is_first))

-- joins
starts_is : (origin : Origin) (vertical : ℕ) → starts_at origin vertical ≡ true → origin ≡ Vertical vertical
starts_is (Vertical source) vertical is_there = let same : source ≡ vertical = grind (arith, nat_tests) in ap Vertical same
starts_is Words vertical is_there = absurd (cc)

join_is : (schema : Declarations) (kind : JoinKind) (column limit : ℕ) (found : Found) (inner stated : Stated)
    → IsType schema found.number (join_store kind) found.def.origin found.def.target → IsOf schema inner.plan inner.vertical
    → join_typed kind column limit found inner ≡ Ok stated → IsOf schema stated.plan stated.vertical
join_is schema kind column limit found inner stated is_type is_inner is_typed =
    let there = ok_if (starts_at found.def.origin inner.vertical) (of_target found (join_plan kind found.number limit inner.plan)) stated 46 column is_typed in
    subst (λ (s : Stated). IsOf schema s.plan s.vertical) there.1 (
      inner.vertical,
      (
        subst (λ (o : Origin). IsType schema found.number (join_store kind) o found.def.target) (starts_is found.def.origin inner.vertical there.0) is_type,
        is_inner,
      ),
    )

-- operands after one of a vertical, and all of a list's
record AreLater (schema : Declarations) (operands : Operands) (vertical : ℕ) : Type 0 where
  same : operands.vertical ≡ Some vertical
  are : AreOf schema operands.plans vertical

not_other : (before vertical : ℕ) → is_other (Some before) vertical ≡ false → vertical ≡ before
not_other before vertical same = grind (arith, nat_tests)

abbrev Later : Declarations → ℕ → ℕ → Mark → Forest → Stated → Result Operands Mistyped
Later schema joins around mark others one =
    and_then (operands_typed schema joins around (Some one.vertical) others) (λ (rest : Operands). Ok (with_first one mark rest))

first_same : (one other : ℕ) → Some one ≡ Some other → one ≡ other
first_same one other same = cc

mutual
  pub typed_is : (schema : Declarations) (joins around : ℕ) (tree : Tree) (stated : Stated) → typed schema joins around tree ≡ Ok stated
      → IsOf schema stated.plan stated.vertical
  typed_is schema joins around (term_at column kind type_name key) stated is_typed = term_is schema column kind type_name key stated is_typed
  typed_is schema joins around (list_at column kind operands) stated is_typed =
      let both : Both (operands_typed schema joins around None operands) (list_typed kind column) stated =
      ok_both (operands_typed schema joins around None operands) (list_typed kind column) stated is_typed in
      let some = ok_some (option_map (of_operands kind both.first.plans) both.first.vertical) (record { code = 45; column = column }) stated both.is_later in
      let vertical = some_map (of_operands kind both.first.plans) both.first.vertical stated some in
      subst (λ (s : Stated). IsOf schema s.plan s.vertical) vertical.1.1
      (operands_are schema joins around kind operands both.first vertical.0 both.is_first vertical.1.0)
  typed_is schema joins around (join_at column kind type_column type_name limit node) stated is_typed =
      let After : Found → Result Stated Mistyped = λ (found : Found). and_then (typed schema joins (around + 1) node) (join_typed kind type_column limit found) in
      let free = ok_behind (nat_le joins around) 47 column (and_then (type_kept schema (join_store kind) type_column type_name) (λ (found : Found). and_then (typed schema joins (around + 1) node) (join_typed kind type_column limit found))) stated is_typed in
      let both : Both (type_kept schema (join_store kind) type_column type_name) (λ (found : Found). and_then (typed schema joins (around + 1) node) (join_typed kind type_column limit found)) stated =
      ok_both (type_kept schema (join_store kind) type_column type_name) (λ (found : Found). and_then (typed schema joins (around + 1) node) (join_typed kind type_column limit found)) stated free.1 in
      let inner : Both (typed schema joins (around + 1) node) (join_typed kind type_column limit both.first) stated =
      ok_both (typed schema joins (around + 1) node) (join_typed kind type_column limit both.first) stated both.is_later in
      join_is schema kind type_column limit both.first inner.first stated
      (kept_is schema (join_store kind) type_column type_name both.first both.is_first)
      (typed_is schema joins (around + 1) node inner.first inner.is_first) inner.is_later

  operands_are : (schema : Declarations) (joins around : ℕ) (kind : ListKind) (operands : Forest) (found : Operands) (vertical : ℕ)
      → operands_typed schema joins around None operands ≡ Ok found → found.vertical ≡ Some vertical
      → IsOf schema (list_plan kind found.plans) vertical
  operands_are schema joins around kind no_operands found vertical is_typed is_vertical =
      let none : None ≡ found.vertical = cc in absurd (cc)
  operands_are schema joins around kind (with_operand node mark others) found vertical is_typed is_vertical =
      let both : Both (typed schema joins around node) (Later schema joins around mark others) found =
      ok_both (typed schema joins around node) (Later schema joins around mark others) found is_typed in
      let rest : Both (operands_typed schema joins around (Some both.first.vertical) others) (λ (r : Operands). Ok (with_first both.first mark r)) found =
      ok_both (operands_typed schema joins around (Some both.first.vertical) others) (λ (r : Operands). Ok (with_first both.first mark r)) found both.is_later in
      let same : with_first both.first mark rest.first ≡ found = cc in
      let later : AreLater schema rest.first both.first.vertical =
      operands_later schema joins around both.first.vertical others rest.first rest.is_first in
      let is_same : both.first.vertical ≡ vertical =
      first_same both.first.vertical vertical (sym later.same ∙ ap (λ (o : Operands). o.vertical) same ∙ is_vertical) in
      subst (λ (o : Operands). IsOf schema (list_plan kind o.plans) vertical) same
      (subst (λ (v : ℕ). IsOf schema both.first.plan v × AreOf schema rest.first.plans v) is_same
      (typed_is schema joins around node both.first both.is_first, later.are))

  operands_later : (schema : Declarations) (joins around before : ℕ) (operands : Forest) (found : Operands)
      → operands_typed schema joins around (Some before) operands ≡ Ok found → AreLater schema found before
  operands_later schema joins around before no_operands found is_typed =
      let same : record { plans = no_plans; vertical = Some before } ≡ found = cc in
      subst (λ (o : Operands). AreLater schema o before) same (record { same = refl; are = tt })
  operands_later schema joins around before (with_operand node mark others) found is_typed =
      let Next : Stated → Result Operands Mistyped = λ (one : Stated). cond (is_other (Some before) one.vertical) (mistyped 45 (column_of node)) (Later schema joins around mark others one) in
      let both : Both (typed schema joins around node) (λ (one : Stated). cond (is_other (Some before) one.vertical) (mistyped 45 (column_of node)) (Later schema joins around mark others one)) found =
      ok_both (typed schema joins around node) (λ (one : Stated). cond (is_other (Some before) one.vertical) (mistyped 45 (column_of node)) (Later schema joins around mark others one)) found is_typed in
      let free = ok_behind (is_other (Some before) both.first.vertical) 45 (column_of node) (Later schema joins around mark others both.first) found both.is_later in
      let rest : Both (operands_typed schema joins around (Some both.first.vertical) others) (λ (r : Operands). Ok (with_first both.first mark r)) found =
      ok_both (operands_typed schema joins around (Some both.first.vertical) others) (λ (r : Operands). Ok (with_first both.first mark r)) found free.1 in
      let same : with_first both.first mark rest.first ≡ found = cc in
      let later : AreLater schema rest.first both.first.vertical =
      operands_later schema joins around both.first.vertical others rest.first rest.is_first in
      let is_same : both.first.vertical ≡ before = not_other before both.first.vertical free.0 in
      subst (λ (o : Operands). AreLater schema o before) same
      (subst (λ (v : ℕ). AreLater schema (with_first both.first mark rest.first) v) is_same
      (record { same = later.same; are = (typed_is schema joins around node both.first both.is_first, later.are) }))

pub typed_is_declared : TypedIsDeclared
typed_is_declared = record { declared = typed_is }

-- so an answer is
pub answer_is : (schema : Declarations) (joins around : ℕ) (tree : Tree) (answer : Result Checked QueryRefusal)
    → MatchResult answer (λ checked. typed schema joins around tree ≡ Ok (stated_of checked)) (IsFault (typed schema joins around tree))
    → IfOk answer (λ checked. IsOf schema (stated_of checked).plan (stated_of checked).vertical)
answer_is schema joins around tree (Ok checked) is_typed = typed_is schema joins around tree (stated_of checked) is_typed
answer_is schema joins around tree (Err refusal) is_fault = tt
