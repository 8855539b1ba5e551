-- What is read off the items of a list, item by item, is the same in another order where the items are in
-- another order.
use Rattle.std.proofs.Common.{◌≡◌, ◌<◌, ℕ, ◌++◌, Bool, true, false, List, [], ◌∷◌, Option, None, Some, cond, refl, ap, subst, arith, length, filter, get_or, zero, suc, set, append_assoc}
use Rattle.std.proofs.lemmas.List.Sorted.{IsPermutation-refl, IsPermutation-sym, IsPermutation-trans, IsPermutation-append_left, IsPermutation-append_right, IsPermutation-append_comm, IsPermutation-keeps}
use Rattle.std.specs.List.{flat_map, filter_map, cons_option, swap}
use Rattle.std.specs.List.Sorted.{IsPermutation}

module _ {X Y : Type 0} (f : X → List Y) where
  -- two parts before a third change places
  parts_swap : (a b c : List Y) → IsPermutation (a ++ (b ++ c)) (b ++ (a ++ c))
  parts_swap a b c =
      subst (λ (ys : List Y). IsPermutation ys (b ++ (a ++ c))) (append_assoc a b c)
      (subst (IsPermutation ((a ++ b) ++ c)) (append_assoc b a c) (IsPermutation-append_left c (a ++ b) (b ++ a) (IsPermutation-append_comm a b)))

  -- with another item in some place, what is read of the one is there in place of what is read of the other
  read-set : (xs : List X) (i : ℕ) (a d : X) → i < length xs → IsPermutation (f (get_or xs i d) ++ flat_map f (set xs i a)) (f a ++ flat_map f xs)
  read-set [] i a d within = absurd (omega (arith, within))
  read-set (x ∷ xs) zero a d within = parts_swap (f x) (f a) (flat_map f xs)
  read-set (x ∷ xs) (suc i) a d within =
      let later = read-set xs i a d (omega (arith, within)) in
      IsPermutation-trans (f (get_or xs i d) ++ (f x ++ flat_map f (set xs i a))) (f x ++ (f (get_or xs i d) ++ flat_map f (set xs i a))) (f a ++ (f x ++ flat_map f xs))
      (parts_swap (f (get_or xs i d)) (f x) (flat_map f (set xs i a)))
      (IsPermutation-trans (f x ++ (f (get_or xs i d) ++ flat_map f (set xs i a))) (f x ++ (f a ++ flat_map f xs)) (f a ++ (f x ++ flat_map f xs))
      (IsPermutation-append_right (f x) (f (get_or xs i d) ++ flat_map f (set xs i a)) (f a ++ flat_map f xs) later)
      (parts_swap (f x) (f a) (flat_map f xs)))

  -- two items in each other's place
  read-exchange : (xs : List X) (i j : ℕ) (d : X) → i < length xs → j < length xs → IsPermutation (flat_map f xs) (flat_map f (set (set xs i (get_or xs j d)) j (get_or xs i d)))
  read-exchange [] i j d p q = absurd (omega (arith, p))
  read-exchange (x ∷ xs) zero zero d p q = IsPermutation-refl (f x ++ flat_map f xs)
  read-exchange (x ∷ xs) zero (suc j) d p q =
      IsPermutation-sym (f (get_or xs j d) ++ flat_map f (set xs j x)) (f x ++ flat_map f xs) (read-set xs j x d (omega (arith, q)))
  read-exchange (x ∷ xs) (suc i) zero d p q =
      IsPermutation-sym (f (get_or xs i d) ++ flat_map f (set xs i x)) (f x ++ flat_map f xs) (read-set xs i x d (omega (arith, p)))
  read-exchange (x ∷ xs) (suc i) (suc j) d p q =
      IsPermutation-append_right (f x) (flat_map f xs) (flat_map f (set (set xs i (get_or xs j d)) j (get_or xs i d))) (read-exchange xs i j d (omega (arith, p)) (omega (arith, q)))

  read-swap : (xs : List X) (i j : ℕ) → i < length xs → j < length xs → IsPermutation (flat_map f xs) (flat_map f (swap xs i j))
  read-swap [] i j p q = IsPermutation-refl []
  read-swap (x ∷ xs) i j p q = read-exchange (x ∷ xs) i j x p q

  pub permuted-flat_map : (xs ys : List X) → IsPermutation xs ys → IsPermutation (flat_map f xs) (flat_map f ys)
  permuted-flat_map xs ys same =
      IsPermutation-keeps xs (λ zs. IsPermutation (flat_map f xs) (flat_map f zs)) (IsPermutation-refl (flat_map f xs))
      (λ l i j p q before. IsPermutation-trans (flat_map f xs) (flat_map f l) (flat_map f (swap l i j)) before (read-swap l i j p q)) ys same

module _ {X : Type 0} (p : X → Bool) where
  abbrev one : X → List X
  one x = cond (p x) (x ∷ []) []

  filter-reads : (xs : List X) → flat_map one xs ≡ filter p xs
  filter-reads [] = refl
  filter-reads (x ∷ xs) =
      elim (p x) as (λ b. cond b (x ∷ []) [] ++ flat_map one xs ≡ cond b (x ∷ filter p xs) (filter p xs)) [
        | true ↦ ap (λ (ys : List X). x ∷ ys) (filter-reads xs)
        | false ↦ filter-reads xs
      ]

  -- what passes a test
  pub permuted-filter : (xs ys : List X) → IsPermutation xs ys → IsPermutation (filter p xs) (filter p ys)
  permuted-filter xs ys same =
      subst (λ (zs : List X). IsPermutation zs (filter p ys)) (filter-reads xs) (subst (IsPermutation (flat_map one xs)) (filter-reads ys) (permuted-flat_map one xs ys same))

module _ {X Y : Type 0} (f : X → Option Y) where
  abbrev given : X → List Y
  given x = cons_option (f x) []

  given-reads : (xs : List X) → flat_map given xs ≡ filter_map f xs
  given-reads [] = refl
  given-reads (x ∷ xs) =
      elim (f x) as (λ o. cons_option o [] ++ flat_map given xs ≡ cons_option o (filter_map f xs)) [
        | None ↦ given-reads xs
        | Some y ↦ ap (λ (ys : List Y). y ∷ ys) (given-reads xs)
      ]

  -- what is given of the items
  pub permuted-filter_map : (xs ys : List X) → IsPermutation xs ys → IsPermutation (filter_map f xs) (filter_map f ys)
  permuted-filter_map xs ys same =
      subst (λ (zs : List Y). IsPermutation zs (filter_map f ys)) (given-reads xs) (subst (IsPermutation (flat_map given xs)) (given-reads ys) (permuted-flat_map given xs ys same))
