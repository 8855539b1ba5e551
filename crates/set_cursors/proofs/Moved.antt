-- Loops that move one operand after the other.
use Rattle.std.proofs.Common.{◌≡◌, ℕ, zero, suc, ◌+◌, ◌<◌, ◌⊎◌, inl, inr, Bool, false, List, [], ◌∷◌, ◌++◌, refl, sym, ◌∙◌, ap, arith, length, get_or, take, drop, set, slice_get, map}
use Rattle.std.proofs.lemmas.Bool.{cases_eq}
use Rattle.std.proofs.lemmas.List.{get_or-map, length-map, map-set, set-get_or}
use Rattle.std.proofs.lemmas.List.Edits.{map_over_more}

slice_get-set_other : {X : Type 0} (xs : List X) (i j : ℕ) (y : X) → (j ≡ i → ⊥) → slice_get (set xs i y) j ≡ slice_get xs j
slice_get-set_other [] zero j y apart = refl
slice_get-set_other [] (suc i) j y apart = refl
slice_get-set_other (x ∷ xs) zero zero y apart = absurd (apart refl)
slice_get-set_other (x ∷ xs) zero (suc j) y apart = refl
slice_get-set_other (x ∷ xs) (suc i) zero y apart = refl
slice_get-set_other (x ∷ xs) (suc i) (suc j) y apart = slice_get-set_other xs i j y (λ e. apart (ap suc e))

-- what such a loop has not come to yet is as it was
untouched : {X : Type 0} (f : X → X) (xs : List X) (i : ℕ) (d : X) → get_or (map f (take i xs) ++ drop i xs) i d ≡ get_or xs i d
untouched f [] zero d = refl
untouched f [] (suc i) d = refl
untouched f (x ∷ xs) zero d = refl
untouched f (x ∷ xs) (suc i) d = untouched f xs i d

pub length_moved : {X : Type 0} (f : X → X) (xs : List X) (i : ℕ) → length (map f (take i xs) ++ drop i xs) ≡ length xs
length_moved f [] zero = refl
length_moved f [] (suc i) = refl
length_moved f (x ∷ xs) zero = refl
length_moved f (x ∷ xs) (suc i) = ap suc (length_moved f xs i)

module _ {C X : Type 0} (view : C → X) (f : X → X) (olds nows : List C) (i : ℕ) (old : C) (within : i < length olds)
    (before : map view nows ≡ map f (take i (map view olds)) ++ drop i (map view olds)) (is : old ≡ get_or nows i old) where
  pub as_many_by : length nows ≡ length olds
  as_many_by = sym (length-map nows view) ∙ ap length before ∙ length_moved f (map view olds) i ∙ length-map olds view

  -- the operand that the loop is at
  pub at_old : (d : X) → view old ≡ get_or (map view olds) i d
  at_old d =
      let same = as_many_by in
      ap view is ∙ sym (get_or-map view nows i old d (omega arith)) ∙ ap (λ (ys : List X). get_or ys i d) before ∙ untouched f (map view olds) i d

  -- once it is moved
  pub moved_more : (new : C) → view new ≡ f (view old) → map view (set nows i new) ≡ map f (take (i + 1) (map view olds)) ++ drop (i + 1) (map view olds)
  moved_more new moves =
      let same = as_many_by in
      map-set view nows i new
      ∙ ap (λ (x : X). set (map view nows) i x) moves
      ∙ map_over_more f (map view olds) (map view nows) i (view old) (omega (arith, length-map olds view)) before
      (ap view is ∙ sym (get_or-map view nows i old (view old) (omega arith)))

  -- the operands that a test leaves out stay
  pub stays_more : (test : X → Bool) (new : C) → (test (view old) ≡ false → new ≡ old) → (d : X) → ((j : ℕ) → test (get_or (map view olds) j d) ≡ false → slice_get nows j ≡ slice_get olds j)
      → (j : ℕ) → test (get_or (map view olds) j d) ≡ false → slice_get (set nows i new) j ≡ slice_get olds j
  stays_more test new same d stays j fails = by (cases_eq j i)
    where
      by : (j ≡ i) ⊎ (j ≡ i → ⊥) → slice_get (set nows i new) j ≡ slice_get olds j
      by (inl e) =
          let here = ap test (at_old d) ∙ ap (λ (k : ℕ). test (get_or (map view olds) k d)) (sym e) ∙ fails in
          ap (λ (xs : List C). slice_get xs j) (ap (set nows i) (same here ∙ is) ∙ set-get_or nows i old) ∙ stays j fails
      by (inr apart) = slice_get-set_other nows i j new apart ∙ stays j fails
