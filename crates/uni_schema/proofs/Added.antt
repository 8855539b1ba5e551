-- A name that is new goes last, and one that is there keeps its place.
use Rattle.std.proofs.Common.{◌≡◌, ℕ, suc, ◌+◌, ◌≤◌, nat_lt, ◌||◌, not, Bool, true, false, cond, List, [], ◌∷◌, ◌++◌, length, map, None, Some, refl, ap, ◌∙◌, sym, arith}
use Rattle.std.specs.List.{list_any, position, prefix_len}
use Rattle.std.specs.Map.{keys_of, values_of}
use Rattle.std.proofs.lemmas.Bool.{or_parts, ltb-false}
use Rattle.std.proofs.lemmas.List.{map-append}
use Rattle.indexmap.specs.IndexMap.{insert_entry}
use Rattle.uni_base.specs.Fields.{same}

none_more : (passes : Bool) (count front : ℕ) (rest : Bool) → (count ≤ front → rest ≡ false) → suc count ≤ cond (not passes) (1 + front) 0 → (passes || rest) ≡ false
none_more true count front rest ih h = absurd (omega arith)
none_more false count front rest ih h = ih (omega arith)

none_passes : {X : Type 0} (test : X → Bool) (xs : List X) → length xs ≤ prefix_len (λ x. not (test x)) xs → list_any test xs ≡ false
none_passes test [] h = refl
none_passes test (x ∷ xs) h = none_more (test x) (length xs) (prefix_len (λ y. not (test y)) xs) (list_any test xs) (none_passes test xs) h

-- what has no position is not there
pub absent : {X : Type 0} (test : X → Bool) (xs : List X) → position test xs ≡ None → list_any test xs ≡ false
absent test xs none = none_passes test xs (by _ refl)
  where
    by : (found : Bool) → nat_lt (prefix_len (λ x. not (test x)) xs) (length xs) ≡ found → length xs ≤ prefix_len (λ x. not (test x)) xs
    by true e = let wrong : Some (prefix_len (λ x. not (test x)) xs) ≡ None = sym (ap (λ b. cond b (Some (prefix_len (λ x. not (test x)) xs)) None) e) ∙ none in cc
    by false e = ltb-false (prefix_len (λ x. not (test x)) xs) (length xs) e

module _ {V : Type 0} (name : V → List ℕ) (v : V) where
  -- where no name is the same, the entry goes last
  pub insert_entry-fresh : (es : List (List ℕ × V)) → list_any (same (name v)) (keys_of es) ≡ false → insert_entry same es (name v) v ≡ es ++ (name v, v) ∷ []
  insert_entry-fresh [] none = refl
  insert_entry-fresh (e ∷ es) none =
      let parts = or_parts (same (name v) e.0) (list_any (same (name v)) (keys_of es)) none in
      rw (parts.0, insert_entry-fresh es parts.1) refl

  -- the entries, with one more under its own name
  pub record IsAdded (es fs : List (List ℕ × V)) : Type 0 where
    pub named : keys_of fs ≡ map name (values_of fs)
    pub values : values_of fs ≡ values_of es ++ v ∷ []

  pub added : (es fs : List (List ℕ × V)) → keys_of es ≡ map name (values_of es) → position (same (name v)) (map name (values_of es)) ≡ None
      → fs ≡ insert_entry same es (name v) v → IsAdded es fs
  added es fs named none is =
      let last : fs ≡ es ++ (name v, v) ∷ [] = is ∙ insert_entry-fresh es (ap (list_any (same (name v))) named ∙ absent (same (name v)) (map name (values_of es)) none) in
      let values : values_of fs ≡ values_of es ++ v ∷ [] = ap values_of last ∙ map-append (λ (e : List ℕ × V). e.1) es ((name v, v) ∷ []) in
      record {
        named =
            ap keys_of last ∙ map-append (λ (e : List ℕ × V). e.0) es ((name v, v) ∷ [])
            ∙ ap (λ names. names ++ name v ∷ []) named
            ∙ sym (map-append name (values_of es) (v ∷ []))
            ∙ ap (map name) (sym values);
        values = values;
      }
