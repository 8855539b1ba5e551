-- What every schema keeps, as it grows.
use Rattle.std.proofs.Common.{◌≡◌, ℕ, suc, ◌+◌, ◌≤◌, ◌<◌, ◌&&◌, ◌||◌, not, nat_lt, Bool, true, false, cond, if◌then◌else◌, List, [], ◌∷◌, ◌++◌, length, map, None, Some, slice_get, refl, ap, length-append, ◌∙◌, sym, arith, zero-add, append_assoc, append-nil}
use Rattle.std.specs.List.{list_all, list_any, prefix_len, position}
use Rattle.std.proofs.lemmas.List.{map-append}
use Rattle.std.specs.Map.{keys_of, values_of}
use Rattle.std.proofs.lemmas.Bool.{and_parts}
use Rattle.std.proofs.lemmas.Bool.Decides.{nat_tests}
use Rattle.std.proofs.lemmas.List.Folds.{list_all-append}
use Rattle.std.proofs.lemmas.List.Sums.{sum_by-append}
use Rattle.indexmap.specs.IndexMap.{insert_entry}
use Rattle.uni_base.specs.Fields.{same}
use Rattle.uni_schema.specs.Schema.{Declarations, IsSchema, with_vertical, with_type, is_vertical, is_type, starts_below, starts_at_words, is_index, is_target_owner, denials, denied, denying, is_vertical_name, are_fresh, vertical_names, type_names}
use Rattle.uni_schema.specs.Rules.{may_deny}
use Rattle.uni_schema.specs.declared.schema.VerticalDef.{VerticalDef}
use Rattle.uni_schema.specs.declared.schema.TypeDef.{TypeDef}
use Rattle.uni_schema.specs.declared.schema.Origin.{Origin}
use Rattle.uni_base.specs.Words.{is_name}
use Rattle.uni_schema.specs.declared.schema.Origin.TheVariants.{Vertical, Words}

both : (a b : Bool) → a ≡ true → b ≡ true → (a && b) ≡ true
both true true p q = refl
both true false p q = cc
both false b p q = cc

-- a test of all elements, of one more
all_more : {X : Type 0} (test : X → Bool) (xs : List X) (x : X) → list_all test xs ≡ true → test x ≡ true → list_all test (xs ++ x ∷ []) ≡ true
all_more test xs x all one = list_all-append test xs (x ∷ []) ∙ both (list_all test xs) (list_all test (x ∷ [])) all (both (test x) true one refl)

starts_below-more : (count : ℕ) (origin : Origin) → starts_below count origin ≡ true → starts_below (count + 1) origin ≡ true
starts_below-more count (Vertical vertical) h = grind (arith, nat_tests)
starts_below-more count Words h = refl

below_more : (a b : ℕ) → nat_lt a b ≡ true → nat_lt a (b + 1) ≡ true
below_more a b h = grind (arith, nat_tests)

-- a type among more verticals
is_type-more : (count : ℕ) (t : TypeDef) → is_type count t ≡ true → is_type (count + 1) t ≡ true
is_type-more count t h =
    let last = and_parts (starts_below count t.origin && nat_lt t.target count && (not (starts_at_words t.origin) || (is_target_owner t.owner && is_index t.store))) (not t.deny || (is_index t.store && not (starts_at_words t.origin))) h in
    let third = and_parts (starts_below count t.origin && nat_lt t.target count) (not (starts_at_words t.origin) || (is_target_owner t.owner && is_index t.store)) last.0 in
    let first = and_parts (starts_below count t.origin) (nat_lt t.target count) third.0 in
    both _ _ (both _ _ (both _ _ (starts_below-more count t.origin first.0) (below_more t.target count first.1)) third.1) last.1

all_types-more : (count : ℕ) (ts : List TypeDef) → list_all (is_type count) ts ≡ true → list_all (is_type (count + 1)) ts ≡ true
all_types-more count [] h = refl
all_types-more count (t ∷ ts) h =
    let parts = and_parts (is_type count t) (list_all (is_type count) ts) h in
    both _ _ (is_type-more count t parts.0) (all_types-more count ts parts.1)

-- one name more, which is new, at the end
fresh_more : (before names : List (List ℕ)) (name : List ℕ) → are_fresh before names ≡ true → list_any (same name) (before ++ names) ≡ false → are_fresh before (names ++ name ∷ []) ≡ true
fresh_more before [] name fresh none = ap (λ b. not b && true) (ap (list_any (same name)) (sym (append-nil before)) ∙ none)
fresh_more before (x ∷ names) name fresh none =
    let parts = and_parts (not (list_any (same x) before)) (are_fresh (before ++ x ∷ []) names) fresh in
    both _ _ parts.0 (fresh_more (before ++ x ∷ []) names name parts.1 (ap (list_any (same name)) (append_assoc before (x ∷ []) names) ∙ none))

map_more : {X : Type 0} (name : X → List ℕ) (xs : List X) (x : X) → map name (xs ++ x ∷ []) ≡ map name xs ++ name x ∷ []
map_more name xs x = map-append name xs (x ∷ [])

pub with_vertical-kept : (s : Declarations) (v : VerticalDef) → IsSchema s → length s.verticals < 16 → is_vertical v ≡ true → is_vertical_name v.name ≡ true
    → list_any (same v.name) (vertical_names s) ≡ false → IsSchema (with_vertical s v)
with_vertical-kept s v kept room fits named fresh = record {
  format = kept.format;
  few_verticals = omega (arith, length-append s.verticals (v ∷ []));
  few_types = kept.few_types;
  few_denials = kept.few_denials;
  verticals = all_more is_vertical s.verticals v kept.verticals fits;
  types = rw (length-append s.verticals (v ∷ [])) (all_types-more (length s.verticals) s.types kept.types);
  verticals_named = ap (list_all is_vertical_name) (map_more (λ (d : VerticalDef). d.name) s.verticals v) ∙ all_more is_vertical_name (vertical_names s) v.name kept.verticals_named named;
  types_named = kept.types_named;
  verticals_apart = ap (are_fresh []) (map_more (λ (d : VerticalDef). d.name) s.verticals v) ∙ fresh_more [] (vertical_names s) v.name kept.verticals_apart fresh;
  types_apart = kept.types_apart;
}

denials-more : (ts : List TypeDef) (t : TypeDef) → t.deny ≡ false → denials (ts ++ t ∷ []) ≡ denials ts
denials-more ts t allows =
    let last : denials (t ∷ []) ≡ 0 = rw allows refl in
    omega (arith, sum_by-append (λ (d : TypeDef). cond d.deny 1 0) ts (t ∷ []), last)

pub denials-cons : (t : TypeDef) (ts : List TypeDef) → denials (t ∷ ts) ≡ cond t.deny 1 0 + denials ts
denials-cons t ts = sum_by-append (λ (d : TypeDef). cond d.deny 1 0) (t ∷ []) ts ∙ ap (λ n. n + denials ts) (zero-add (cond t.deny 1 0))

pub with_type-kept : (s : Declarations) (t : TypeDef) → IsSchema s → length s.types < 256 → is_type (length s.verticals) t ≡ true → t.deny ≡ false → is_name t.name ≡ true
    → list_any (same t.name) (type_names s) ≡ false → IsSchema (with_type s t)
with_type-kept s t kept room fits allows named fresh = record {
  format = kept.format;
  few_verticals = kept.few_verticals;
  few_types = omega (arith, length-append s.types (t ∷ []));
  few_denials = rw (denials-more s.types t allows) kept.few_denials;
  verticals = kept.verticals;
  types = all_more (is_type (length s.verticals)) s.types t kept.types fits;
  verticals_named = kept.verticals_named;
  types_named = ap (list_all is_name) (map_more (λ (d : TypeDef). d.name) s.types t) ∙ all_more is_name (type_names s) t.name kept.types_named named;
  verticals_apart = kept.verticals_apart;
  types_apart = ap (are_fresh []) (map_more (λ (d : TypeDef). d.name) s.types t) ∙ fresh_more [] (type_names s) t.name kept.types_apart fresh;
}

-- the place of the first that has the name
abbrev pub place : List ℕ → List (List ℕ) → ℕ
place name names = prefix_len (λ x. not (same name x)) names

pub place-position : (name : List ℕ) (names : List (List ℕ)) (i : ℕ) → position (same name) names ≡ Some i → place name names ≡ i
place-position name names i at = by (nat_lt (place name names) (length names)) at
  where
    by : (found : Bool) → cond found (Some (place name names)) None ≡ Some i → place name names ≡ i
    by true e = cc
    by false e = cc

denying-length : (name : List ℕ) (ts : List TypeDef) → length (denying name ts) ≡ length ts
denying-length name [] = refl
denying-length name (t ∷ ts) = by (same name t.name) (denying-length name ts)
  where
    by : (here : Bool) → length (denying name ts) ≡ length ts → length (if here then denied t ∷ ts else t ∷ denying name ts) ≡ suc (length ts)
    by true rest = refl
    by false rest = ap suc rest

denying-names : (name : List ℕ) (ts : List TypeDef) → map (λ (d : TypeDef). d.name) (denying name ts) ≡ map (λ (d : TypeDef). d.name) ts
denying-names name [] = refl
denying-names name (t ∷ ts) = by (same name t.name) (denying-names name ts)
  where
    by : (here : Bool) → map (λ (d : TypeDef). d.name) (denying name ts) ≡ map (λ (d : TypeDef). d.name) ts
        → map (λ (d : TypeDef). d.name) (if here then denied t ∷ ts else t ∷ denying name ts) ≡ t.name ∷ map (λ (d : TypeDef). d.name) ts
    by true rest = refl
    by false rest = ap (λ ns. t.name ∷ ns) rest

one_more : (deny : Bool) (n : ℕ) → 1 + n ≤ cond deny 1 0 + n + 1
one_more true n = omega arith
one_more false n = omega arith

denying-denials : (name : List ℕ) (ts : List TypeDef) → denials (denying name ts) ≤ denials ts + 1
denying-denials name [] = omega arith
denying-denials name (t ∷ ts) = by (same name t.name) (denying-denials name ts)
  where
    by : (here : Bool) → denials (denying name ts) ≤ denials ts + 1 → denials (if here then denied t ∷ ts else t ∷ denying name ts) ≤ denials (t ∷ ts) + 1
    by true rest = rw (denials-cons (denied t) ts, denials-cons t ts) (one_more t.deny (denials ts))
    by false rest = rw (denials-cons t (denying name ts), denials-cons t ts) (omega arith)

deny_tests : (a b w o i d : Bool) → (a && b && (not w || (o && i)) && (not d || (i && not w))) ≡ true → (i && not w && not d) ≡ true
    → (a && b && (not w || (o && i)) && (not true || (i && not w))) ≡ true
deny_tests a b true o i d h may = absurd (by i d may)
  where
    by : (i d : Bool) → (i && not true && not d) ≡ true → ⊥
    by true d e = cc
    by false d e = cc
deny_tests a b false o false d h may = cc
deny_tests a b false o true d h may =
    let front = and_parts (a && b && (not false || (o && true))) (not d || (true && not false)) h in
    both _ _ front.0 refl

is_type-denied : (count : ℕ) (t : TypeDef) → is_type count t ≡ true → may_deny t ≡ true → is_type count (denied t) ≡ true
is_type-denied count t h may = deny_tests (starts_below count t.origin) (nat_lt t.target count) (starts_at_words t.origin) (is_target_owner t.owner) (is_index t.store) t.deny h may

next_at : {X : Type 0} (x : X) (xs : List X) (n : ℕ) (t : X) → slice_get (x ∷ xs) (1 + n) ≡ Some t → slice_get xs n ≡ Some t
next_at x xs n t h = let one : 1 + n ≡ suc n = omega arith in sym (ap (slice_get (x ∷ xs)) one) ∙ h

-- the type at the place of a name denies
denying-types : (count : ℕ) (name : List ℕ) (ts : List TypeDef) (t : TypeDef) → list_all (is_type count) ts ≡ true
    → slice_get ts (place name (map (λ d. d.name) ts)) ≡ Some t → may_deny t ≡ true → list_all (is_type count) (denying name ts) ≡ true
denying-types count name [] t all at may = refl
denying-types count name (x ∷ ts) t all at may =
    let parts = and_parts (is_type count x) (list_all (is_type count) ts) all in
    by (same name x.name) parts.0 parts.1 (λ there. denying-types count name ts t parts.1 there may) at
  where
    by : (here : Bool) → is_type count x ≡ true → list_all (is_type count) ts ≡ true
        → (slice_get ts (place name (map (λ d. d.name) ts)) ≡ Some t → list_all (is_type count) (denying name ts) ≡ true)
        → slice_get (x ∷ ts) (cond (not here) (1 + place name (map (λ d. d.name) ts)) 0) ≡ Some t
        → list_all (is_type count) (if here then denied x ∷ ts else x ∷ denying name ts) ≡ true
    by true one rest later there = let same_type : x ≡ t = cc in both _ _ (is_type-denied count x one (ap may_deny same_type ∙ may)) rest
    by false one rest later there = both _ _ one (later (next_at x ts (place name (map (λ d. d.name) ts)) t there))

pub denying-kept : (s : Declarations) (name : List ℕ) (t : TypeDef) → IsSchema s → denials s.types < 8
    → slice_get s.types (place name (map (λ d. d.name) s.types)) ≡ Some t → may_deny t ≡ true → IsSchema (record s { types = denying name s.types })
denying-kept s name t kept room at may = record {
  format = kept.format;
  few_verticals = kept.few_verticals;
  few_types = rw (denying-length name s.types) kept.few_types;
  few_denials = omega (arith, denying-denials name s.types);
  verticals = kept.verticals;
  types = denying-types (length s.verticals) name s.types t kept.types at may;
  verticals_named = kept.verticals_named;
  types_named = ap (list_all is_name) (denying-names name s.types) ∙ kept.types_named;
  verticals_apart = kept.verticals_apart;
  types_apart = ap (are_fresh []) (denying-names name s.types) ∙ kept.types_apart;
}

-- the entries of types, of which one is put anew under its name, and denies
pub record IsDenied (name : List ℕ) (es fs : List (List ℕ × TypeDef)) : Type 0 where
  pub named : keys_of fs ≡ map (λ d. d.name) (values_of fs)
  pub values : values_of fs ≡ denying name (values_of es)

pub denied_entries : (name : List ℕ) (es : List (List ℕ × TypeDef)) (t : TypeDef) → keys_of es ≡ map (λ d. d.name) (values_of es)
    → slice_get (values_of es) (place name (map (λ d. d.name) (values_of es))) ≡ Some t → IsDenied name es (insert_entry same es name (denied t))
denied_entries name [] t named at = cc
denied_entries name (e ∷ es) t named at =
    let head : e.0 ≡ e.1.name = cc in
    let tail : keys_of es ≡ map (λ d. d.name) (values_of es) = cc in
    let parts = by (same name e.1.name) (same name e.0) (ap (same name) head) head tail (denied_entries name es t tail) at in record { named = parts.0; values = parts.1 }
  where
    by : (here there : Bool) → there ≡ here → e.0 ≡ e.1.name → keys_of es ≡ map (λ d. d.name) (values_of es)
        → (slice_get (values_of es) (place name (map (λ d. d.name) (values_of es))) ≡ Some t → IsDenied name es (insert_entry same es name (denied t)))
        → slice_get (e.1 ∷ values_of es) (cond (not here) (1 + place name (map (λ d. d.name) (values_of es))) 0) ≡ Some t
        → (keys_of (if there then (e.0, denied t) ∷ es else e ∷ insert_entry same es name (denied t)) ≡ map (λ d. d.name) (values_of (if there then (e.0, denied t) ∷ es else e ∷ insert_entry same es name (denied t))))
        × (values_of (if there then (e.0, denied t) ∷ es else e ∷ insert_entry same es name (denied t)) ≡ (if here then denied e.1 ∷ values_of es else e.1 ∷ denying name (values_of es)))
    by true true same_test head tail later at = let one : e.1 ≡ t = cc in (cc (head, tail, ap (λ d. d.name) one), cc (ap denied one))
    by true false same_test head tail later at = cc
    by false true same_test head tail later at = cc
    by false false same_test head tail later at =
        let rest = later (next_at e.1 (values_of es) (place name (map (λ d. d.name) (values_of es))) t at) in
        (cc (head, rest.named), ap (λ vs. e.1 ∷ vs) rest.values)
