-- What comparisons tell, and keys in order.
use Rattle.std.proofs.Common.{◌≡◌, ℕ, ◌==◌, true, List, [], ◌∷◌, refl, ◌∙◌, ap, arith}
use Rattle.std.specs.Cmp.{IsTotalOrder}
use Rattle.std.specs.declared.cmp.Ordering.{Ordering}
use Rattle.std.specs.declared.cmp.Ordering.TheVariants.{Less, Equal, Greater}
use Rattle.std.specs.List.{AllByRecursion}
use Rattle.std.specs.List.Sorted.{IsStrictlySortedBy}
use Rattle.std.specs.Ordering.{nat_cmp, is_eq, ordering_reverse}
use Rattle.std.proofs.lemmas.Bool.Decides.{nat_tests}

pub is_eq-nat_cmp : (a b : ℕ) → is_eq (nat_cmp a b) ≡ (a == b)
is_eq-nat_cmp a b = grind (arith, nat_tests)

pub equal_from : (o : Ordering) → is_eq o ≡ true → o ≡ Equal
equal_from Less e = cc
equal_from Equal e = refl
equal_from Greater e = cc

turned : (o : Ordering) → is_eq (ordering_reverse o) ≡ is_eq o
turned Less = refl
turned Equal = refl
turned Greater = refl

-- two keys are equal whichever comes first
pub flip : {K : Type 0} {cmp : K → K → Ordering} → IsTotalOrder cmp → (x y : K) → is_eq (cmp x y) ≡ is_eq (cmp y x)
flip {K} {cmp} o x y = ap is_eq (o.antisymm x y) ∙ turned (cmp y x)

-- no keys are in order
pub sorted_nil : {K : Type 0} (cmp : K → K → Ordering) → IsStrictlySortedBy cmp []
unfolding IsStrictlySortedBy
sorted_nil cmp = tt

-- a key below all of keys in order stands before them
pub sorted_cons : {K : Type 0} (cmp : K → K → Ordering) (k : K) (ks : List K) → AllByRecursion (λ x. cmp k x ≡ Less) ks → IsStrictlySortedBy cmp ks → IsStrictlySortedBy cmp (k ∷ ks)
unfolding IsStrictlySortedBy
sorted_cons cmp k ks below sorted = (below, sorted)

-- what is so of each key under one fact is under a wider one
pub all_wider : {K : Type 0} (P Q : K → Type 0) → ((k : K) → P k → Q k) → (ks : List K) → AllByRecursion P ks → AllByRecursion Q ks
all_wider P Q wider [] all = tt
all_wider P Q wider (k ∷ ks) all = (wider k all.0, all_wider P Q wider ks all.1)
