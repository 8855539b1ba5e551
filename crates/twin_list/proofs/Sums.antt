-- Sums over lists that are read by `get_elem?`.
use Rattle.std.proofs.Common.{◌≡◌, ◌≢◌, ℕ, zero, suc, ◌+◌, ◌≤◌, List, [], ◌∷◌, set, sum_by, refl, sym, ap, arith}
use Rattle.std.proofs.lemmas.List.Sums.{sum_by-cons}
use mathlib.Core.Option.{some, some-injective, some-ne-none}
use lib.ListN.{get_elem?}

module _ {A : Type 0} (f : A → ℕ) where
  pub sum_changed : (xs : List A) (i : ℕ) (x y : A) → get_elem? xs i ≡ some x → sum_by f (set xs i y) + f x ≡ sum_by f xs + f y
  sum_changed [] i x y at = absurd (some-ne-none x (sym at))
  sum_changed (z ∷ zs) zero x y at = omega (arith, sum_by-cons f z zs, sum_by-cons f y zs, ap f (some-injective z x at))
  sum_changed (z ∷ zs) (suc i) x y at = omega (arith, sum_by-cons f z zs, sum_by-cons f z (set zs i y), sum_changed zs i x y at)

  sum_one : (xs : List A) (i : ℕ) (x : A) → get_elem? xs i ≡ some x → f x ≤ sum_by f xs
  sum_one [] i x at = absurd (some-ne-none x (sym at))
  sum_one (z ∷ zs) zero x at = omega (arith, sum_by-cons f z zs, ap f (some-injective z x at))
  sum_one (z ∷ zs) (suc i) x at = omega (arith, sum_by-cons f z zs, sum_one zs i x at)

  -- two that are there are no more than the sum
  pub sum_pair : (xs : List A) (i j : ℕ) (x y : A) → get_elem? xs i ≡ some x → get_elem? xs j ≡ some y → j ≢ i → f x + f y ≤ sum_by f xs
  sum_pair [] i j x y at there apart = absurd (some-ne-none x (sym at))
  sum_pair (z ∷ zs) zero zero x y at there apart = absurd (apart refl)
  sum_pair (z ∷ zs) zero (suc j) x y at there apart = omega (arith, sum_by-cons f z zs, ap f (some-injective z x at), sum_one zs j y there)
  sum_pair (z ∷ zs) (suc i) zero x y at there apart = omega (arith, sum_by-cons f z zs, ap f (some-injective z y there), sum_one zs i x at)
  sum_pair (z ∷ zs) (suc i) (suc j) x y at there apart = omega (arith, sum_by-cons f z zs, sum_pair zs i j x y at there (λ e. apart (ap suc e)))
