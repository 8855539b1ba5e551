-- The number of a name, and the name of a number, in lists of names that are told apart.
use Rattle.std.proofs.Common.{◌≡◌, ℕ, zero, suc, ◌+◌, ◌<◌, ◌==◌, not, nat_lt, Bool, true, false, cond, List, [], ◌∷◌, ◌++◌, length, map, get_or, Option, None, Some, slice_get, refl, ap, sym, subst, ◌∙◌, arith, append_assoc, length-append, add-zero, zero-add, codes}
use Rattle.std.specs.Cmp.Derive.{both_true}
use Rattle.std.specs.Cmp.Lexicographic.{same_text}
use Rattle.std.specs.List.{list_any, position, prefix_len}
use Rattle.std.specs.Option.{option_map_or}
use Rattle.std.proofs.lemmas.Bool.{and_parts, or_parts}
use Rattle.std.proofs.lemmas.Bool.Decides.{nat_tests}
use Rattle.std.proofs.lemmas.List.Quantifiers.{position-Some}
use Rattle.std.proofs.lemmas.Option.{slice_get-get_or}
use Rattle.std.proofs.lemmas.List.{length-map}
use Rattle.uni_base.specs.Fields.{same}
use Rattle.uni_schema.specs.Print.{vertical_name}
use Rattle.uni_schema.specs.Schema.{Declarations, IsSchema, is_vertical_name, are_fresh, vertical_names, type_names, vertical_no, type_no}
use Rattle.uni_schema.specs.declared.schema.VerticalDef.{VerticalDef}
use Rattle.uni_schema.specs.declared.schema.TypeDef.{TypeDef}
use Rattle.uni_schema.proofs.Kept.{passes_at}
use Rattle.uni_base.specs.Words.{is_name}
use Rattle.feed_reader.specs.Printing.{type_name}

untrue : (b : Bool) → not b ≡ true → b ≡ false
untrue true e = cc
untrue false e = refl

is_below : (a b : ℕ) → a < b → nat_lt a b ≡ true
is_below a b h = grind (arith, nat_tests)

first_place : {X : Type 0} (test : X → Bool) (before : List X) (y : X) (ys : List X) → list_any test before ≡ false → test y ≡ true
    → prefix_len (λ x. not (test x)) (before ++ y ∷ ys) ≡ length before
first_place test [] y ys h here = rw here refl
first_place test (x ∷ before) y ys h here =
    let parts = or_parts (test x) (list_any test before) h in
    let rest = first_place test before y ys parts.1 here in
    rw parts.0 (omega (arith, rest))

placed : {X : Type 0} (test : X → Bool) (before : List X) (y : X) (ys : List X) → list_any test before ≡ false → test y ≡ true
    → position test (before ++ y ∷ ys) ≡ Some (length before)
placed test before y ys h here =
    let inside : length before < length (before ++ y ∷ ys) = omega (arith, length-append before (y ∷ ys)) in
    ap (λ n. cond {A = Option ℕ} (nat_lt n (length (before ++ y ∷ ys))) (Some n) None) (first_place test before y ys h here)
    ∙ ap (λ b. cond {A = Option ℕ} b (Some (length before)) None) (is_below (length before) (length (before ++ y ∷ ys)) inside)

equal_self : (c : ℕ) → (c == c) ≡ true
equal_self c = grind (arith, nat_tests)

same_self : (xs : List ℕ) → same xs xs ≡ true
same_self [] = refl
same_self (c ∷ cs) = both_true (equal_self c) (same_self cs)

-- a name at a place is found there, where no name stands twice
placed_at : (before names : List (List ℕ)) (k : ℕ) (x : List ℕ) → are_fresh before names ≡ true → slice_get names k ≡ Some x → position (same x) (before ++ names) ≡ Some (length before + k)
placed_at before [] k x fresh at = cc
placed_at before (y ∷ ys) zero x fresh at =
    let one : y ≡ x = cc in
    let parts = and_parts (not (list_any (same y) before)) (are_fresh (before ++ y ∷ []) ys) fresh in
    subst (λ z. position (same z) (before ++ y ∷ ys) ≡ Some (length before + 0)) one
    (placed (same y) before y ys (untrue (list_any (same y) before) parts.0) (same_self y) ∙ ap Some (sym (add-zero (length before))))
placed_at before (y ∷ ys) (suc k) x fresh at =
    let parts = and_parts (not (list_any (same y) before)) (are_fresh (before ++ y ∷ []) ys) fresh in
    let count : length (before ++ y ∷ []) + k ≡ length before + suc k = omega (arith, length-append before (y ∷ [])) in
    ap (position (same x)) (sym (append_assoc before (y ∷ []) ys)) ∙ placed_at (before ++ y ∷ []) ys k x parts.1 at ∙ ap Some count

-- the name of a number, among the names of a list
entry : {X : Type 0} (name : X → List ℕ) (xs : List X) (k : ℕ) → k < length xs → slice_get (map name xs) k ≡ Some (option_map_or name (slice_get xs k) [])
entry name [] k h = absurd (omega arith)
entry name (x ∷ xs) zero h = refl
entry name (x ∷ xs) (suc k) h = entry name xs k (omega arith)

-- a name that is found at a number is that of the number
found_at : {X : Type 0} (name : X → List ℕ) (xs : List X) (text : List ℕ) (k : ℕ) → position (same text) (map name xs) ≡ Some k → option_map_or name (slice_get xs k) [] ≡ text
found_at name xs text k found =
    let at = position-Some (same text) (map name xs) k [] found in
    let inside : k < length xs = subst (λ n. k < n) (length-map xs name) at.0 in
    let here = slice_get-get_or (map name xs) k [] at.0 in
    let one : text ≡ get_or (map name xs) k [] = same_text text (get_or (map name xs) k []) (sym at.1) in
    let two = entry name xs k inside in
    let three : option_map_or name (slice_get xs k) [] ≡ get_or (map name xs) k [] = cc in
    three ∙ sym one

-- a vertical and a type are found by their names
pub vertical_found : (schema : Declarations) → IsSchema schema → (k : ℕ) → k < length schema.verticals
    → (vertical_no schema (vertical_name schema k) ≡ Some k) × (is_name (vertical_name schema k) ≡ true)
vertical_found schema kept k h =
    let at : slice_get (vertical_names schema) k ≡ Some (vertical_name schema k) = entry (λ (v : VerticalDef). v.name) schema.verticals k h in (
      placed_at [] (vertical_names schema) k (vertical_name schema k) kept.verticals_apart at ∙ ap Some (zero-add k),
      (and_parts (is_name (vertical_name schema k)) (not (same (vertical_name schema k) (codes "word"))) (passes_at is_vertical_name (vertical_names schema) k (vertical_name schema k) kept.verticals_named at)).0,
    )

pub type_found : (schema : Declarations) → IsSchema schema → (k : ℕ) → k < length schema.types
    → (type_no schema (type_name schema k) ≡ Some k) × (is_name (type_name schema k) ≡ true)
type_found schema kept k h =
    let at : slice_get (type_names schema) k ≡ Some (type_name schema k) = entry (λ (t : TypeDef). t.name) schema.types k h in (
      placed_at [] (type_names schema) k (type_name schema k) kept.types_apart at ∙ ap Some (zero-add k),
      passes_at is_name (type_names schema) k (type_name schema k) kept.types_named at,
    )

-- and they have the names that they were found by
pub vertical_has_name : (schema : Declarations) (name : List ℕ) (k : ℕ) → vertical_no schema name ≡ Some k → vertical_name schema k ≡ name
vertical_has_name schema name k found = found_at (λ (v : VerticalDef). v.name) schema.verticals name k found

pub type_has_name : (schema : Declarations) (name : List ℕ) (k : ℕ) → type_no schema name ≡ Some k → type_name schema k ≡ name
type_has_name schema name k found = found_at (λ (t : TypeDef). t.name) schema.types name k found
