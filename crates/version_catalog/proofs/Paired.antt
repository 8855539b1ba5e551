-- Two lists place by place.
use Rattle.std.proofs.Common.{◌≡◌, ℕ, zero, suc, List, [], ◌∷◌, ◌++◌, map, length, take, drop, get_or, slice_get, Some, refl, ap, subst, arith}
use Rattle.std.specs.List.{AllZip}

module _ {A B : Type 0} (R : A → B → Type 0) where
  pub AllZip-append : (xs : List A) (ys : List B) (us : List A) (vs : List B) → AllZip R xs ys → AllZip R us vs → AllZip R (xs ++ us) (ys ++ vs)
  AllZip-append [] [] us vs p q = q
  AllZip-append [] (y ∷ ys) us vs p q = absurd p
  AllZip-append (x ∷ xs) [] us vs p q = absurd p
  AllZip-append (x ∷ xs) (y ∷ ys) us vs p q = (p.0, AllZip-append xs ys us vs p.1 q)

  -- the second list parts where the first does
  pub AllZip-parts : (xs us : List A) (ys : List B) → AllZip R (xs ++ us) ys → AllZip R xs (take (length xs) ys) × AllZip R us (drop (length xs) ys)
  AllZip-parts [] us ys p = (tt, p)
  AllZip-parts (x ∷ xs) us [] p = absurd p
  AllZip-parts (x ∷ xs) us (y ∷ ys) p = let rest = AllZip-parts xs us ys p.1 in ((p.0, rest.0), rest.1)

  pub AllZip-at : (xs : List A) (ys : List B) (i : ℕ) (x : A) (d : B) → AllZip R xs ys → slice_get xs i ≡ Some x → R x (get_or ys i d)
  AllZip-at [] ys i x d p at = absurd (cc (at))
  AllZip-at (y ∷ xs) [] i x d p at = absurd p
  AllZip-at (y ∷ xs) (z ∷ ys) zero x d p at = let same : y ≡ x = cc (at) in subst (λ w. R w z) same p.0
  AllZip-at (y ∷ xs) (z ∷ ys) (suc i) x d p at = AllZip-at xs ys i x d p.1 at

  pub AllZip-length : (xs : List A) (ys : List B) → AllZip R xs ys → length ys ≡ length xs
  AllZip-length [] [] p = refl
  AllZip-length [] (y ∷ ys) p = absurd p
  AllZip-length (x ∷ xs) [] p = absurd p
  AllZip-length (x ∷ xs) (y ∷ ys) p = ap suc (AllZip-length xs ys p.1)

-- two lists of the same length whose items are alike
pub maps_agree : {A B C : Type 0} (f : A → C) (g : B → C) (xs : List A) (ys : List B) (d : A) → length xs ≡ length ys → ((i : ℕ) (y : B) → slice_get ys i ≡ Some y → f (get_or xs i d) ≡ g y) → map f xs ≡ map g ys
maps_agree f g [] [] d long each = refl
maps_agree f g [] (y ∷ ys) d long each = absurd (omega (arith, long))
maps_agree f g (x ∷ xs) [] d long each = absurd (omega (arith, long))
maps_agree f g (x ∷ xs) (y ∷ ys) d long each = λ k. each 0 y refl k ∷ maps_agree f g xs ys d (omega (arith, long)) (λ i z at. each (suc i) z at) k
