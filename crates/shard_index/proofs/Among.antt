-- Items of lists that pass a test.
use Rattle.std.proofs.Common.{◌≡◌, ◌||◌, ◌⊎◌, inl, inr, Bool, true, false, cond, List, [], ◌∷◌, map, filter, refl, ◌∙◌, ap}
use Rattle.std.specs.List.{Contains, list_any}
use Rattle.uni_table.proofs.Listed.{none_in_nil, first_or_later}

pub or_true : (a : Bool) → (a || true) ≡ true
or_true true = refl
or_true false = refl

-- an item that is left by one test, and passes another
pub any_left : {X : Type 0} (p test : X → Bool) (xs : List X) (x : X) → Contains xs x → p x ≡ true → test x ≡ true → list_any test (filter p xs) ≡ true
any_left p test [] x there t u = absurd (none_in_nil x there)
any_left {X} p test (y ∷ xs) x there t u = by (first_or_later y xs x there) (λ later. any_left p test xs x later t u)
  where
    by : (y ≡ x) ⊎ Contains xs x → (Contains xs x → list_any test (filter p xs) ≡ true) → list_any test (cond (p y) (y ∷ filter p xs) (filter p xs)) ≡ true
    by (inl same) rest = ap (λ b. list_any test (cond b (y ∷ filter p xs) (filter p xs))) (ap p same ∙ t) ∙ ap (λ b. b || list_any test (filter p xs)) (ap test same ∙ u)
    by (inr later) rest = next (p y) (rest later)
      where
        next : (b : Bool) → list_any test (filter p xs) ≡ true → list_any test (cond b (y ∷ filter p xs) (filter p xs)) ≡ true
        next true e = ap (λ c. test y || c) e ∙ or_true (test y)
        next false e = e

pub any-map : {X Y : Type 0} (test : Y → Bool) (f : X → Y) (xs : List X) → list_any test (map f xs) ≡ list_any (λ x. test (f x)) xs
any-map test f [] = refl
any-map test f (x ∷ xs) = ap (λ b. test (f x) || b) (any-map test f xs)
