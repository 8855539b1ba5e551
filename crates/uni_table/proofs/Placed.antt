-- Rank order: what is placed key by key ascends, and has the same keys.
use Rattle.std.proofs.Common.{◌≡◌, ◌||◌, Bool, true, false, List, [], ◌∷◌, refl, sym, ◌∙◌, ap, if◌then◌else◌, arith, ◌+◌, get_or}
use Rattle.std.specs.Cmp.{IsTotalOrder}
use Rattle.std.specs.declared.cmp.Ordering.{Ordering}
use Rattle.std.specs.declared.cmp.Ordering.TheVariants.{Less, Equal, Greater}
use Rattle.std.specs.Ordering.{is_lt, is_eq, eq_by_cmp, ordering_reverse}
use Rattle.std.specs.List.{list_any, AllByRecursion, IsDistinct}
use Rattle.std.specs.List.Sorted.{IsStrictlySortedBy, IsSorted}
use Rattle.std.proofs.lemmas.Map.Keys.{sorted_head, sorted_tail, IsDistinct-head, IsDistinct-tail, apart_from_distinct, sorted_from_all_adjacent}
use Rattle.uni_base.specs.declared.entity.DocKey.{DocKey}
use Rattle.uni_base.specs.RankOrder.{doc_cmp}
use Rattle.uni_table.specs.Ranked.{place, in_rank_order}
use Rattle.uni_table.proofs.Compared.{less_from}
use Rattle.uni_table.proofs.DocKeys.{doc_total}
use Rattle.uni_table.proofs.Filters.{or_swap}

-- no keys are in order
pub sorted_nil : {K : Type 0} (cmp : K → K → Ordering) → IsStrictlySortedBy cmp []
unfolding IsStrictlySortedBy
sorted_nil cmp = tt

-- a key below all of keys in order stands before them
pub sorted_cons : {K : Type 0} (cmp : K → K → Ordering) (k : K) (ks : List K) → AllByRecursion (λ x. cmp k x ≡ Less) ks → IsStrictlySortedBy cmp ks → IsStrictlySortedBy cmp (k ∷ ks)
unfolding IsStrictlySortedBy
sorted_cons cmp k ks below sorted = (below, sorted)

-- what is so of each key under one fact is under a wider one
pub all_wider : {K : Type 0} (P Q : K → Type 0) → ((k : K) → P k → Q k) → (ks : List K) → AllByRecursion P ks → AllByRecursion Q ks
all_wider P Q wider [] all = tt
all_wider P Q wider (k ∷ ks) all = (wider k all.0, all_wider P Q wider ks all.1)

-- keys in order that differ ascend
pub sorted_apart : {K : Type 0} {cmp : K → K → Ordering} (o : IsTotalOrder cmp) (ks : List K) → IsSorted cmp ks → IsDistinct (eq_by_cmp cmp) ks → IsStrictlySortedBy cmp ks
sorted_apart {K} {cmp} o [] sorted apart = sorted_nil cmp
sorted_apart {K} {cmp} o (x ∷ xs) sorted apart =
    sorted_from_all_adjacent o (x ∷ xs) x
    (λ k h. less_from o (get_or (x ∷ xs) k x) (get_or (x ∷ xs) (k + 1) x) (sorted k x (omega arith) h)
    (apart_from_distinct (eq_by_cmp cmp) (x ∷ xs) k (k + 1) x apart (omega arith) h))

list_any-place : (p : DocKey → Bool) (k : DocKey) (ks : List DocKey) → list_any p (place k ks) ≡ (p k || list_any p ks)
list_any-place p k [] = refl
list_any-place p k (x ∷ xs) =
    elim (is_lt (doc_cmp k x)) as (λ b. list_any p (if b then k ∷ x ∷ xs else x ∷ place k xs) ≡ (p k || (p x || list_any p xs))) [
      | true ↦ refl
      | false ↦ ap (λ b. p x || b) (list_any-place p k xs) ∙ or_swap (p x) (p k) (list_any p xs)
    ]

-- a test finds a key in rank order as before
pub list_any-in_rank_order : (p : DocKey → Bool) (ks : List DocKey) → list_any p (in_rank_order ks) ≡ list_any p ks
list_any-in_rank_order p [] = refl
list_any-in_rank_order p (k ∷ ks) = list_any-place p k (in_rank_order ks) ∙ ap (λ b. p k || b) (list_any-in_rank_order p ks)

all-place : (P : DocKey → Type 0) (k : DocKey) (ks : List DocKey) → P k → AllByRecursion P ks → AllByRecursion P (place k ks)
all-place P k [] here all = (here, tt)
all-place P k (x ∷ xs) here all =
    elim (is_lt (doc_cmp k x)) as (λ b. AllByRecursion P (if b then k ∷ x ∷ xs else x ∷ place k xs)) [
      | true ↦ (here, all)
      | false ↦ (all.0, all-place P k xs here all.1)
    ]

all-in_rank_order : (P : DocKey → Type 0) (ks : List DocKey) → AllByRecursion P ks → AllByRecursion P (in_rank_order ks)
all-in_rank_order P [] all = tt
all-in_rank_order P (k ∷ ks) all = all-place P k (in_rank_order ks) all.0 (all-in_rank_order P ks all.1)

sorted-place : (k : DocKey) (ks : List DocKey) → AllByRecursion (λ x. eq_by_cmp doc_cmp k x ≡ false) ks → IsStrictlySortedBy doc_cmp ks → IsStrictlySortedBy doc_cmp (place k ks)
sorted-place k [] apart sorted = sorted_cons doc_cmp k [] tt (sorted_nil doc_cmp)
sorted-place k (x ∷ xs) apart sorted = by (doc_cmp k x) refl (sorted-place k xs apart.1 (sorted_tail doc_cmp x xs sorted))
  where
    past : AllByRecursion (λ y. doc_cmp x y ≡ Less) xs
    past = sorted_head doc_cmp x xs sorted

    by : (o : Ordering) → doc_cmp k x ≡ o → IsStrictlySortedBy doc_cmp (place k xs) → IsStrictlySortedBy doc_cmp (if is_lt o then k ∷ x ∷ xs else x ∷ place k xs)
    by Less e later = sorted_cons doc_cmp k (x ∷ xs) (e, all_wider (λ y. doc_cmp x y ≡ Less) (λ y. doc_cmp k y ≡ Less) (λ y below. doc_total.trans k x y e below) xs past) sorted
    by Equal e later = let same : is_eq Equal ≡ false = ap is_eq (sym e) ∙ apart.0 in absurd cc
    by Greater e later = sorted_cons doc_cmp x (place k xs) (all-place (λ y. doc_cmp x y ≡ Less) k xs (doc_total.antisymm x k ∙ ap ordering_reverse e) past) later

-- keys that differ ascend once they are in rank order
pub sorted-in_rank_order : (ks : List DocKey) → IsDistinct (eq_by_cmp doc_cmp) ks → IsStrictlySortedBy doc_cmp (in_rank_order ks)
sorted-in_rank_order [] apart = sorted_nil doc_cmp
sorted-in_rank_order (k ∷ ks) apart =
    sorted-place k (in_rank_order ks)
    (all-in_rank_order (λ x. eq_by_cmp doc_cmp k x ≡ false) ks (IsDistinct-head (eq_by_cmp doc_cmp) k ks apart))
    (sorted-in_rank_order ks (IsDistinct-tail (eq_by_cmp doc_cmp) k ks apart))
