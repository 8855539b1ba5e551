-- Parts of what is picked off a list of whose items each gives one.
use Rattle.std.proofs.Common.{◌≡◌, ◌≤◌, ℕ, zero, suc, List, [], ◌∷◌, Option, None, Some, refl, ◌∙◌, ap, length, take, drop, arith, length-drop}
use Rattle.std.specs.List.{filter_map, cons_option}

module _ {X Y : Type 0} (f : X → Option Y) where
  few-picked : (xs : List X) → length (filter_map f xs) ≤ length xs
  few-picked [] = omega arith
  few-picked (x ∷ xs) = by (f x) (few-picked xs)
    where
      by : (o : Option Y) → length (filter_map f xs) ≤ length xs → length (cons_option o (filter_map f xs)) ≤ suc (length xs)
      by None h = omega (arith, h)
      by (Some y) h = omega (arith, h)

  dropped : (n : ℕ) (xs : List X) → length (filter_map f xs) ≡ length xs → filter_map f (drop n xs) ≡ drop n (filter_map f xs)
  dropped zero xs each = refl
  dropped (suc n) [] each = refl
  dropped (suc n) (x ∷ xs) each = by (f x) each (dropped n xs)
    where
      by : (o : Option Y) → length (cons_option o (filter_map f xs)) ≡ suc (length xs) → (length (filter_map f xs) ≡ length xs → filter_map f (drop n xs) ≡ drop n (filter_map f xs))
          → filter_map f (drop n xs) ≡ drop (suc n) (cons_option o (filter_map f xs))
      by None h later = absurd (omega (arith, h, few-picked xs))
      by (Some y) h later = later (omega (arith, h))

  taken : (n : ℕ) (xs : List X) → length (filter_map f xs) ≡ length xs → filter_map f (take n xs) ≡ take n (filter_map f xs)
  taken zero xs each = refl
  taken (suc n) [] each = refl
  taken (suc n) (x ∷ xs) each = by (f x) each (taken n xs)
    where
      by : (o : Option Y) → length (cons_option o (filter_map f xs)) ≡ suc (length xs) → (length (filter_map f xs) ≡ length xs → filter_map f (take n xs) ≡ take n (filter_map f xs))
          → cons_option o (filter_map f (take n xs)) ≡ take (suc n) (cons_option o (filter_map f xs))
      by None h later = absurd (omega (arith, h, few-picked xs))
      by (Some y) h later = ap (λ ys. y ∷ ys) (later (omega (arith, h)))

  -- what is picked off a part is that part of what is picked
  pub part-picked : (from count : ℕ) (xs : List X) → length (filter_map f xs) ≡ length xs → filter_map f (take count (drop from xs)) ≡ take count (drop from (filter_map f xs))
  part-picked from count xs each =
      let rest = dropped from xs each in
      taken count (drop from xs) (omega (arith, ap length rest, length-drop from (filter_map f xs), length-drop from xs, each)) ∙ ap (take count) rest
