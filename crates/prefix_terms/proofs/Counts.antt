-- Filters that leave an item out.
use Rattle.std.proofs.Common.{◌≡◌, ◌+◌, ◌≤◌, Bool, true, false, cond, ◌||◌, List, [], ◌∷◌, length, filter, refl, sym, ◌∙◌, arith}
use Rattle.std.specs.List.{list_any}

module _ {X : Type 0} (p q : X → Bool) (within : (x : X) → p x ≡ true → q x ≡ true) where
  -- a filter that passes less leaves no more
  pub filter-fewer : (xs : List X) → length (filter p xs) ≤ length (filter q xs)
  filter-fewer [] = omega arith
  filter-fewer (x ∷ xs) = by (p x) refl (q x) refl (filter-fewer xs)
    where
      by : (b : Bool) → p x ≡ b → (c : Bool) → q x ≡ c → length (filter p xs) ≤ length (filter q xs) → length (cond b (x ∷ filter p xs) (filter p xs)) ≤ length (cond c (x ∷ filter q xs) (filter q xs))
      by true e true f rest = omega arith
      by true e false f rest = let no : true ≡ false = sym (within x e) ∙ f in absurd cc
      by false e true f rest = omega arith
      by false e false f rest = rest

  -- and fewer where the list has an item that only the other passes; `same` finds it
  pub filter-less : (same : X → Bool) → ((x : X) → same x ≡ true → p x ≡ false) → ((x : X) → same x ≡ true → q x ≡ true) → (xs : List X) → list_any same xs ≡ true → length (filter p xs) + 1 ≤ length (filter q xs)
  filter-less same out in' [] has = cc
  filter-less same out in' (x ∷ xs) has = by (same x) refl (p x) refl (q x) refl has (filter-fewer xs) (filter-less same out in' xs)
    where
      by : (s : Bool) → same x ≡ s → (b : Bool) → p x ≡ b → (c : Bool) → q x ≡ c → (s || list_any same xs) ≡ true → length (filter p xs) ≤ length (filter q xs)
          → (list_any same xs ≡ true → length (filter p xs) + 1 ≤ length (filter q xs)) → length (cond b (x ∷ filter p xs) (filter p xs)) + 1 ≤ length (cond c (x ∷ filter q xs) (filter q xs))
      by true s true e c f h fewer rest = let no : true ≡ false = sym e ∙ out x s in absurd cc
      by true s false e true f h fewer rest = omega arith
      by true s false e false f h fewer rest = let no : true ≡ false = sym (in' x s) ∙ f in absurd cc
      by false s true e true f h fewer rest = let less = rest h in omega arith
      by false s true e false f h fewer rest = let no : true ≡ false = sym (within x e) ∙ f in absurd cc
      by false s false e true f h fewer rest = let less = rest h in omega arith
      by false s false e false f h fewer rest = rest h
