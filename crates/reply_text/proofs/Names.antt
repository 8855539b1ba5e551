-- The names that a schema declares.
use Rattle.std.proofs.Common.{◌≡◌, ℕ, zero, suc, ◌<◌, ◌==◌, ◌&&◌, not, nat_le, Bool, true, false, List, [], ◌∷◌, ◌++◌, length, map, slice_get, refl, sym, subst, ap, ◌∙◌, arith}
use Rattle.std.proofs.lemmas.Bool.{and_parts, and_from, or_parts, not-true, eq-eqb}
use Rattle.std.proofs.lemmas.Bool.Decides.{nat_tests}
use Rattle.std.proofs.lemmas.List.Folds.{list_any-append}
use Rattle.std.specs.List.{list_all, list_any}
use Rattle.std.specs.Option.{option_map_or}
use Rattle.uni_base.specs.Fields.{same}
use Rattle.uni_base.proofs.LineLaws.{unbroken-name}
use Rattle.uni_base.specs.Words.{is_word, is_word_byte, is_name}
use Rattle.uni_schema.specs.Schema.{Declarations, IsSchema, is_vertical_name, are_fresh, vertical_names, type_names}
use Rattle.uni_schema.specs.Print.{vertical_name}
use Rattle.uni_schema.specs.declared.schema.VerticalDef.{VerticalDef}
use Rattle.uni_schema.specs.declared.schema.TypeDef.{TypeDef}
use Rattle.uni_base.specs.Lines.{has_lf}
use Rattle.reply_text.specs.Printed.{type_name}

-- a text without a space
abbrev pub is_solid : List ℕ → Bool
is_solid text = list_all (λ c. not (c == 32)) text

-- a weaker test of all elements
pub all_pass : {X : Type 0} (test weaker : X → Bool) → ((x : X) → test x ≡ true → weaker x ≡ true) → (xs : List X) → list_all test xs ≡ true → list_all weaker xs ≡ true
all_pass test weaker so [] all = refl
all_pass test weaker so (x ∷ xs) all =
    let parts = and_parts (test x) (list_all test xs) all in
    and_from (weaker x) (list_all weaker xs) (so x parts.0) (all_pass test weaker so xs parts.1)

solid_byte : (c : ℕ) → is_word_byte c ≡ true → not (c == 32) ≡ true
solid_byte c word = grind (arith, nat_tests)

bytes_of_name : (name : List ℕ) → is_name name ≡ true → list_all is_word_byte name ≡ true
bytes_of_name name named =
    let word = (and_parts (is_word name) _ named).0 in
    (and_parts (nat_le 1 (length name) && nat_le (length name) 32) (list_all is_word_byte name) word).1

solid_name : (name : List ℕ) → is_vertical_name name ≡ true → is_solid name ≡ true
solid_name name named = all_pass is_word_byte (λ c. not (c == 32)) solid_byte name (bytes_of_name name (and_parts (is_name name) _ named).0)

unbroken_name : (name : List ℕ) → is_name name ≡ true → not (has_lf name) ≡ true
unbroken_name name named = ap not (unbroken-name name named)

unbroken_vertical : (name : List ℕ) → is_vertical_name name ≡ true → not (has_lf name) ≡ true
unbroken_vertical name named = unbroken_name name (and_parts (is_name name) _ named).0

-- the name at a place passes what all names pass, and the empty text
named : {X : Type 0} (name : X → List ℕ) (test : List ℕ → Bool) → test [] ≡ true → (xs : List X) (place : ℕ) → list_all test (map name xs) ≡ true
    → test (option_map_or name (slice_get xs place) []) ≡ true
named name test none [] place all = none
named name test none (x ∷ xs) zero all = (and_parts (test (name x)) (list_all test (map name xs)) all).0
named name test none (x ∷ xs) (suc place) all = named name test none xs place (and_parts (test (name x)) (list_all test (map name xs)) all).1

pub solid-vertical : (schema : Declarations) → IsSchema schema → (number : ℕ) → is_solid (vertical_name schema number) ≡ true
solid-vertical schema is number =
    named (λ (v : VerticalDef). v.name) is_solid refl schema.verticals number
    (all_pass is_vertical_name is_solid solid_name (vertical_names schema) is.verticals_named)

pub unbroken-vertical : (schema : Declarations) → IsSchema schema → (number : ℕ) → has_lf (vertical_name schema number) ≡ false
unbroken-vertical schema is number =
    not-true _ (named (λ (v : VerticalDef). v.name) (λ text. not (has_lf text)) refl schema.verticals number
    (all_pass is_vertical_name (λ text. not (has_lf text)) unbroken_vertical (vertical_names schema) is.verticals_named))

pub unbroken-type : (schema : Declarations) → IsSchema schema → (number : ℕ) → has_lf (type_name schema number) ≡ false
unbroken-type schema is number =
    not-true _ (named (λ (t : TypeDef). t.name) (λ text. not (has_lf text)) refl schema.types number
    (all_pass is_name (λ text. not (has_lf text)) unbroken_name (type_names schema) is.types_named))

same_self : (text : List ℕ) → same text text ≡ true
same_self [] = refl
same_self (c ∷ text) = and_from (c == c) (same text text) (eq-eqb c c refl) (same_self text)

module _ {X : Type 0} (name : X → List ℕ) where
  abbrev name_at : List X → ℕ → List ℕ
  name_at xs place = option_map_or name (slice_get xs place) []

  -- no name is one of those before it
  new_name : (before : List (List ℕ)) (xs : List X) (place : ℕ) → are_fresh before (map name xs) ≡ true → place < length xs → list_any (same (name_at xs place)) before ≡ false
  new_name before [] place fresh within = absurd (omega arith)
  new_name before (x ∷ xs) zero fresh within = not-true _ (and_parts (not (list_any (same (name x)) before)) (are_fresh (before ++ name x ∷ []) (map name xs)) fresh).0
  new_name before (x ∷ xs) (suc place) fresh within =
      let later = new_name (before ++ name x ∷ []) xs place (and_parts (not (list_any (same (name x)) before)) (are_fresh (before ++ name x ∷ []) (map name xs)) fresh).1 (omega arith) in
      (or_parts (list_any (same (name_at xs place)) before) (list_any (same (name_at xs place)) (name x ∷ [])) (sym (list_any-append (same (name_at xs place)) before (name x ∷ [])) ∙ later)).0

  -- so the first name is none of the others
  not_again : (before : List (List ℕ)) (x : X) (xs : List X) (place : ℕ) → are_fresh before (map name (x ∷ xs)) ≡ true → place < length xs → name x ≡ name_at xs place → ⊥
  not_again before x xs place fresh within e =
      let later = new_name (before ++ name x ∷ []) xs place (and_parts (not (list_any (same (name x)) before)) (are_fresh (before ++ name x ∷ []) (map name xs)) fresh).1 within in
      let one = (or_parts (list_any (same (name_at xs place)) before) (list_any (same (name_at xs place)) (name x ∷ [])) (sym (list_any-append (same (name_at xs place)) before (name x ∷ [])) ∙ later)).1 in
      let none : same (name_at xs place) (name x) ≡ false = (or_parts (same (name_at xs place) (name x)) false one).0 in
      let some : same (name_at xs place) (name x) ≡ true = subst (λ text. same text (name x) ≡ true) e (same_self (name x)) in
      cc

  -- and a name tells its place
  pub place_told : (before : List (List ℕ)) (xs : List X) (place other : ℕ) → are_fresh before (map name xs) ≡ true → place < length xs → other < length xs
      → name_at xs place ≡ name_at xs other → place ≡ other
  place_told before [] place other fresh within also e = absurd (omega arith)
  place_told before (x ∷ xs) zero zero fresh within also e = refl
  place_told before (x ∷ xs) zero (suc other) fresh within also e = absurd (not_again before x xs other fresh (omega arith) e)
  place_told before (x ∷ xs) (suc place) zero fresh within also e = absurd (not_again before x xs place fresh (omega arith) (sym e))
  place_told before (x ∷ xs) (suc place) (suc other) fresh within also e =
      ap suc (place_told (before ++ name x ∷ []) xs place other (and_parts (not (list_any (same (name x)) before)) (are_fresh (before ++ name x ∷ []) (map name xs)) fresh).1 (omega arith) (omega arith) e)

pub vertical_told : (schema : Declarations) → IsSchema schema → (number other : ℕ) → number < length schema.verticals → other < length schema.verticals
    → vertical_name schema number ≡ vertical_name schema other → number ≡ other
vertical_told schema is number other within also e = place_told (λ (v : VerticalDef). v.name) [] schema.verticals number other is.verticals_apart within also e
