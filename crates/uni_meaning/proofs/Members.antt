-- What is among the items of lists that are made of others.
use Rattle.std.proofs.Common.{◌≡◌, ◌++◌, ◌⊎◌, inl, inr, Bool, true, false, List, [], ◌∷◌, cond, refl, sym, ◌∙◌, ap, subst, map, filter}
use Rattle.std.proofs.lemmas.List.Elements.{Contains-append_left, Contains-append_right, Contains-append_cases}
use Rattle.std.specs.List.{Contains, flat_map}
use Rattle.uni_table.proofs.Listed.{none_in_nil, first_or_later, first_is, later_is}

module _ {X Y : Type 0} (f : X → Y) where
  -- what f makes of an item
  pub made_of : (xs : List X) (y : Y) → Contains (map f xs) y → (x : X) × Contains xs x × (f x ≡ y)
  made_of [] y h = absurd (none_in_nil y h)
  made_of (x ∷ xs) y h = by (first_or_later (f x) (map f xs) y h) (made_of xs y)
    where
      later : (z : X) × Contains xs z × (f z ≡ y) → (z : X) × Contains (x ∷ xs) z × (f z ≡ y)
      later z = (z.0, later_is x xs z.0 z.1, z.2)

      by : (f x ≡ y) ⊎ Contains (map f xs) y → (Contains (map f xs) y → (z : X) × Contains xs z × (f z ≡ y)) → (z : X) × Contains (x ∷ xs) z × (f z ≡ y)
      by (inl same) rest = (x, first_is x xs, same)
      by (inr there) rest = later (rest there)

  pub is_made : (xs : List X) (x : X) → Contains xs x → Contains (map f xs) (f x)
  is_made [] x h = absurd (none_in_nil x h)
  is_made (z ∷ xs) x h = by (first_or_later z xs x h) (is_made xs x)
    where
      by : (z ≡ x) ⊎ Contains xs x → (Contains xs x → Contains (map f xs) (f x)) → Contains (f z ∷ map f xs) (f x)
      by (inl same) rest = subst (λ (x : X). Contains (f z ∷ map f xs) (f x)) same (first_is (f z) (map f xs))
      by (inr there) rest = later_is (f z) (map f xs) (f x) (rest there)

module _ {X Y : Type 0} (f : X → List Y) where
  -- what is in the list of an item
  pub listed_by : (xs : List X) (y : Y) → Contains (flat_map f xs) y → (x : X) × Contains xs x × Contains (f x) y
  listed_by [] y h = absurd (none_in_nil y h)
  listed_by (x ∷ xs) y h = by (Contains-append_cases (f x) (flat_map f xs) y h) (listed_by xs y)
    where
      later : (z : X) × Contains xs z × Contains (f z) y → (z : X) × Contains (x ∷ xs) z × Contains (f z) y
      later z = (z.0, later_is x xs z.0 z.1, z.2)

      by : Contains (f x) y ⊎ Contains (flat_map f xs) y → (Contains (flat_map f xs) y → (z : X) × Contains xs z × Contains (f z) y) → (z : X) × Contains (x ∷ xs) z × Contains (f z) y
      by (inl here) rest = (x, first_is x xs, here)
      by (inr there) rest = later (rest there)

  pub is_listed : (xs : List X) (x : X) (y : Y) → Contains xs x → Contains (f x) y → Contains (flat_map f xs) y
  is_listed [] x y h there = absurd (none_in_nil x h)
  is_listed (z ∷ xs) x y h there = by (first_or_later z xs x h) (λ later. is_listed xs x y later there)
    where
      by : (z ≡ x) ⊎ Contains xs x → (Contains xs x → Contains (flat_map f xs) y) → Contains (f z ++ flat_map f xs) y
      by (inl same) rest = Contains-append_left (f z) (flat_map f xs) y (subst (λ (x : X). Contains (f x) y) (sym same) there)
      by (inr later) rest = Contains-append_right (f z) (flat_map f xs) y (rest later)

module _ {X : Type 0} (p : X → Bool) where
  -- what a filter leaves
  pub left_by : (xs : List X) (x : X) → Contains (filter p xs) x → Contains xs x × (p x ≡ true)
  left_by [] x h = absurd (none_in_nil x h)
  left_by (z ∷ xs) x h = by (p z) refl h (left_by xs x)
    where
      at : (z ≡ x) ⊎ Contains (filter p xs) x → p z ≡ true → (Contains (filter p xs) x → Contains xs x × (p x ≡ true)) → Contains (z ∷ xs) x × (p x ≡ true)
      at (inl same) passes rest = (subst (Contains (z ∷ xs)) same (first_is z xs), ap p (sym same) ∙ passes)
      at (inr there) passes rest = (later_is z xs x (rest there).0, (rest there).1)

      by : (b : Bool) → p z ≡ b → Contains (cond b (z ∷ filter p xs) (filter p xs)) x → (Contains (filter p xs) x → Contains xs x × (p x ≡ true)) → Contains (z ∷ xs) x × (p x ≡ true)
      by true e h rest = at (first_or_later z (filter p xs) x h) e rest
      by false e h rest = (later_is z xs x (rest h).0, (rest h).1)

  pub is_left : (xs : List X) (x : X) → Contains xs x → p x ≡ true → Contains (filter p xs) x
  is_left [] x h e = absurd (none_in_nil x h)
  is_left (z ∷ xs) x h e = by (p z) refl (first_or_later z xs x h) (λ there. is_left xs x there e)
    where
      by : (b : Bool) → p z ≡ b → (z ≡ x) ⊎ Contains xs x → (Contains xs x → Contains (filter p xs) x) → Contains (cond b (z ∷ filter p xs) (filter p xs)) x
      by true f (inl same) rest = subst (Contains (z ∷ filter p xs)) same (first_is z (filter p xs))
      by true f (inr there) rest = later_is z (filter p xs) x (rest there)
      by false f (inl same) rest = let no_way : false ≡ true = sym f ∙ ap p same ∙ e in absurd cc
      by false f (inr there) rest = rest there

-- the one item of a list of one
pub only : {X : Type 0} (x y : X) → Contains (x ∷ []) y → x ≡ y
only x y h = by (first_or_later x [] y h)
  where
    by : (x ≡ y) ⊎ Contains [] y → x ≡ y
    by (inl same) = same
    by (inr none) = absurd (none_in_nil y none)
