-- What is among the items of a list, and what is given there.
use Rattle.std.proofs.Common.{◌≡◌, List, [], ◌∷◌, Option, None, Some, refl, sym, ◌∙◌, ap, subst, arith, ◌⊎◌, inl, inr}
use Rattle.std.specs.List.{Contains, filter_map, cons_option}
use Rattle.std.proofs.lemmas.List.Elements.{Contains-append_left, Contains-append_right, Contains-push, Contains-push_cases, Contains-append_cases}

-- no items have none
pub none_in_nil : {X : Type 0} (x : X) → Contains [] x → ⊥
-- no items have none
none_in_nil x h = omega (arith, h.1)

-- an item is the first one or a later one
pub first_or_later : {X : Type 0} (x : X) (xs : List X) (y : X) → Contains (x ∷ xs) y → (x ≡ y) ⊎ Contains xs y
first_or_later {X} x xs y h = by (Contains-append_cases (x ∷ []) xs y h)
  where
    first : Contains [] y ⊎ (x ≡ y) → (x ≡ y) ⊎ Contains xs y
    first (inl none) = absurd (none_in_nil y none)
    first (inr same) = inl same

    by : Contains (x ∷ []) y ⊎ Contains xs y → (x ≡ y) ⊎ Contains xs y
    by (inl one) = first (Contains-push_cases [] x y one)
    by (inr later) = inr later

-- the first item is one
pub first_is : {X : Type 0} (x : X) (xs : List X) → Contains (x ∷ xs) x
first_is x xs = Contains-append_left (x ∷ []) xs x (Contains-push [] x)

-- a later one is one
pub later_is : {X : Type 0} (x : X) (xs : List X) (y : X) → Contains xs y → Contains (x ∷ xs) y
later_is x xs y h = Contains-append_right (x ∷ []) xs y h

module _ {X Y : Type 0} (f : X → Option Y) where
  -- an item at which f gives a value
  abbrev pub GivenBy : List X → Y → Type 0
  GivenBy xs y = (x : X) × Contains xs x × (f x ≡ Some y)

  given_later : (x : X) (xs : List X) (y : Y) → GivenBy xs y → GivenBy (x ∷ xs) y
  given_later x xs y given = (given.0, later_is x xs given.0 given.1, given.2)

  -- what is given is given of an item
  pub given_by : (xs : List X) (y : Y) → Contains (filter_map f xs) y → GivenBy xs y
  given_by [] y h = absurd (none_in_nil y h)
  given_by (x ∷ xs) y h = by (f x) refl h (given_by xs y)
    where
      at : (z : Y) → f x ≡ Some z → (Contains (filter_map f xs) y → GivenBy xs y) → (z ≡ y) ⊎ Contains (filter_map f xs) y → GivenBy (x ∷ xs) y
      at z e later (inl same) = (x, first_is x xs, e ∙ ap Some same)
      at z e later (inr rest) = given_later x xs y (later rest)

      by : (o : Option Y) → f x ≡ o → Contains (cons_option o (filter_map f xs)) y → (Contains (filter_map f xs) y → GivenBy xs y) → GivenBy (x ∷ xs) y
      by None e h later = given_later x xs y (later h)
      by (Some z) e h later = at z e later (first_or_later z (filter_map f xs) y h)

  -- what f gives of an item is given
  pub is_given : (xs : List X) (x : X) (y : Y) → Contains xs x → f x ≡ Some y → Contains (filter_map f xs) y
  is_given [] x y h e = absurd (none_in_nil x h)
  is_given (z ∷ xs) x y h e = by (first_or_later z xs x h) (λ later. is_given xs x y later e)
    where
      by : (z ≡ x) ⊎ Contains xs x → (Contains xs x → Contains (filter_map f xs) y) → Contains (cons_option (f z) (filter_map f xs)) y
      by (inl same) rest = subst (λ o. Contains (cons_option o (filter_map f xs)) y) (sym (ap f same ∙ e)) (first_is y (filter_map f xs))
      by (inr later) rest =
          elim (f z) as (λ o. Contains (cons_option o (filter_map f xs)) y) [
            | None ↦ rest later
            | Some w ↦ later_is w (filter_map f xs) y (rest later)
          ]
