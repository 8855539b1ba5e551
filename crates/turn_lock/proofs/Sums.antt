-- Sums over lists that are read by `get_elem?`.
use Rattle.std.proofs.Common.{◌≡◌, ◌≢◌, ℕ, zero, suc, ◌+◌, ◌≤◌, List, [], ◌∷◌, set, sum_by, sym, refl, ap, arith}
use Rattle.std.proofs.lemmas.List.Sums.{sum_by-cons}
use mathlib.Core.Option.{some, some-injective, some-ne-none}
use lib.ListN.{get_elem?}

module _ {A : Type 0} (f : A → ℕ) where
  pub sum_set : (xs : List A) (i : ℕ) (x y : A) → get_elem? xs i ≡ some x → sum_by f (set xs i y) + f x ≡ sum_by f xs + f y
  sum_set [] i x y at = absurd (some-ne-none x (sym at))
  sum_set (z ∷ zs) zero x y at = omega (arith, sum_by-cons f z zs, sum_by-cons f y zs, ap f (some-injective z x at))
  sum_set (z ∷ zs) (suc i) x y at = omega (arith, sum_by-cons f z zs, sum_by-cons f z (set zs i y), sum_set zs i x y at)

  -- one that is there is no more than the sum
  pub sum_some : (xs : List A) (i : ℕ) (x : A) → get_elem? xs i ≡ some x → f x ≤ sum_by f xs
  sum_some [] i x at = absurd (some-ne-none x (sym at))
  sum_some (z ∷ zs) zero x at = omega (arith, sum_by-cons f z zs, ap f (some-injective z x at))
  sum_some (z ∷ zs) (suc i) x at = omega (arith, sum_by-cons f z zs, sum_some zs i x at)

  pub sum_two : (xs : List A) (i j : ℕ) (x y : A) → get_elem? xs i ≡ some x → get_elem? xs j ≡ some y → j ≢ i → f x + f y ≤ sum_by f xs
  sum_two [] i j x y at there apart = absurd (some-ne-none x (sym at))
  sum_two (z ∷ zs) zero zero x y at there apart = absurd (apart refl)
  sum_two (z ∷ zs) zero (suc j) x y at there apart = omega (arith, sum_by-cons f z zs, ap f (some-injective z x at), sum_some zs j y there)
  sum_two (z ∷ zs) (suc i) zero x y at there apart = omega (arith, sum_by-cons f z zs, ap f (some-injective z y there), sum_some zs i x at)
  sum_two (z ∷ zs) (suc i) (suc j) x y at there apart = omega (arith, sum_by-cons f z zs, sum_two zs i j x y at there (λ e. apart (ap suc e)))

  pub sum_none : (xs : List A) → ((i : ℕ) (x : A) → get_elem? xs i ≡ some x → f x ≡ 0) → sum_by f xs ≡ 0
  sum_none [] none = refl
  sum_none (z ∷ zs) none = omega (arith, sum_by-cons f z zs, none 0 z refl, sum_none zs (λ i x at. none (suc i) x at))
