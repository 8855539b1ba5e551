-- Items that differ.
use Rattle.std.proofs.Common.{◌≡◌, Bool, false, List, [], ◌∷◌, Option, None, Some, refl, map}
use Rattle.std.specs.List.{filter_map, cons_option, AllByRecursion, IsDistinct}
use Rattle.std.proofs.lemmas.Map.Keys.{IsDistinct-head, IsDistinct-tail, IsDistinct-cons}

-- no items differ
pub distinct_nil : {B : Type 0} (d : B → B → Bool) → IsDistinct d []
unfolding IsDistinct
distinct_nil d = tt

module _ {A K B : Type 0} (f : A → Option B) (key : A → K) (e : K → K → Bool) (d : B → B → Bool)
    (tied : (x y : A) (b c : B) → f x ≡ Some b → f y ≡ Some c → e (key x) (key y) ≡ false → d b c ≡ false) where
  far : (x : A) (b : B) → f x ≡ Some b → (xs : List A) → AllByRecursion (λ k. e (key x) k ≡ false) (map key xs) → AllByRecursion (λ c. d b c ≡ false) (filter_map f xs)
  far x b is [] all = tt
  far x b is (y ∷ ys) all = by (f y) refl (far x b is ys all.1)
    where
      by : (o : Option B) → f y ≡ o → AllByRecursion (λ c. d b c ≡ false) (filter_map f ys) → AllByRecursion (λ c. d b c ≡ false) (cons_option o (filter_map f ys))
      by None at rest = rest
      by (Some c) at rest = (tied x y b c is at all.0, rest)

  -- what is given at keys that differ differs
  pub distinct-filter_map : (xs : List A) → IsDistinct e (map key xs) → IsDistinct d (filter_map f xs)
  distinct-filter_map [] apart = distinct_nil d
  distinct-filter_map (x ∷ xs) apart = by (f x) refl (distinct-filter_map xs (IsDistinct-tail e (key x) (map key xs) apart))
    where
      by : (o : Option B) → f x ≡ o → IsDistinct d (filter_map f xs) → IsDistinct d (cons_option o (filter_map f xs))
      by None is rest = rest
      by (Some b) is rest = IsDistinct-cons d b (filter_map f xs) (far x b is xs (IsDistinct-head e (key x) (map key xs) apart)) rest
