-- What is picked off items in order stands in order too.
use Rattle.std.proofs.Common.{◌≡◌, ◌+◌, ◌<◌, ◌≤◌, ℕ, zero, suc, false, List, [], ◌∷◌, Option, None, Some, refl, sym, ◌∙◌, ap, subst, arith, length, get_or}
use Rattle.std.specs.Bool.{⊤}
use Rattle.std.proofs.lemmas.List.Sorted.{ranks_by, sorted_far}
use Rattle.std.specs.Cmp.{IsTotalOrder}
use Rattle.std.specs.declared.cmp.Ordering.{Ordering}
use Rattle.std.specs.List.{AllByRecursion, filter_map, cons_option}
use Rattle.std.specs.List.Sorted.{IsSortedByKey}
use Rattle.std.specs.Ordering.{is_lt}

module _ {X Y K : Type 0} (key : X → K) (name : Y → K) (f : X → Option Y) {cmp : K → K → Ordering} (o : IsTotalOrder cmp) where
  -- what is picked off an item has its key
  abbrev pub IsNamed : X → Type 0
  IsNamed x = (y : Y) → f x ≡ Some y → name y ≡ key x

  -- each item stands before all after it
  abbrev Rise : List X → Type 0
  Rise [] = ⊤
  Rise (x ∷ xs) = AllByRecursion (λ z. is_lt (cmp (key z) (key x)) ≡ false) xs × Rise xs

  abbrev Above : K → List Y → Type 0
  Above k ys = AllByRecursion (λ y. is_lt (cmp (name y) k) ≡ false) ys

  abbrev Picked : List Y → Type 0
  Picked [] = ⊤
  Picked (y ∷ ys) = Above (name y) ys × Picked ys

  after : (k : K) (xs : List X) → ((j : ℕ) (d : X) → j < length xs → is_lt (cmp (key (get_or xs j d)) k) ≡ false) → AllByRecursion (λ z. is_lt (cmp (key z) k) ≡ false) xs
  after k [] far = tt
  after k (x ∷ xs) far = (far 0 x (omega arith), after k xs (λ j d within. far (suc j) d (omega (arith, within))))

  rise : (xs : List X) → ((i j : ℕ) (d : X) → i ≤ j → j < length xs → is_lt (cmp (key (get_or xs j d)) (key (get_or xs i d))) ≡ false) → Rise xs
  rise [] far = tt
  rise (x ∷ xs) far = (
    after (key x) xs (λ j d within. far 0 (suc j) d (omega arith) (omega (arith, within))),
    rise xs (λ i j d less within. far (suc i) (suc j) d (omega (arith, less)) (omega (arith, within))),
  )

  above : ((x : X) → IsNamed x) → (k : K) (xs : List X) → AllByRecursion (λ x. is_lt (cmp (key x) k) ≡ false) xs → Above k (filter_map f xs)
  above named k [] all = tt
  above named k (x ∷ xs) all = by (f x) refl (above named k xs all.1)
    where
      by : (p : Option Y) → f x ≡ p → Above k (filter_map f xs) → Above k (cons_option p (filter_map f xs))
      by None is rest = rest
      by (Some y) is rest = (ap (λ q. is_lt (cmp q k)) (named x y is) ∙ all.0, rest)

  picked : ((x : X) → IsNamed x) → (xs : List X) → Rise xs → Picked (filter_map f xs)
  picked named [] up = tt
  picked named (x ∷ xs) up = by (f x) refl (picked named xs up.1)
    where
      by : (p : Option Y) → f x ≡ p → Picked (filter_map f xs) → Picked (cons_option p (filter_map f xs))
      by None is rest = rest
      by (Some y) is rest = (subst (λ k. Above k (filter_map f xs)) (sym (named x y is)) (above named (key x) xs up.0), rest)

  pairs : (ys : List Y) → Picked ys → (k : ℕ) (d : Y) → suc k < length ys → is_lt (cmp (name (get_or ys (suc k) d)) (name (get_or ys k d))) ≡ false
  pairs [] up k d high = absurd (omega (arith, high))
  pairs (y ∷ []) up k d high = absurd (omega (arith, high))
  pairs (y ∷ z ∷ zs) up zero d high = up.0.0
  pairs (y ∷ z ∷ zs) up (suc k) d high = pairs (z ∷ zs) up.1 k d (omega (arith, high))

  pub picked_in_order : ((x : X) → IsNamed x) → (xs : List X) → IsSortedByKey key cmp xs → IsSortedByKey name cmp (filter_map f xs)
  picked_in_order named xs sorted = λ k d low high.
      let next : suc k ≡ k + 1 = omega arith in
      subst (λ n. is_lt (cmp (name (get_or (filter_map f xs) n d)) (name (get_or (filter_map f xs) k d))) ≡ false) next
      (pairs (filter_map f xs) (picked named xs (rise xs (sorted_far (λ a b. is_lt (cmp (key a) (key b))) (ranks_by o key) xs sorted))) k d (omega (arith, high)))
