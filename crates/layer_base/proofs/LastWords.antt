-- A log that is turned round, sorted by its keys, and of which the first of each run is kept.
use Rattle.std.proofs.Common.{◌≡◌, ℕ, suc, ◌+◌, Bool, true, false, cond, not, ◌&&◌, List, [], ◌∷◌, length, get_or, reverse, Option, None, Some, refl, sym, ◌∙◌, ap, subst, arith, filter}
use Rattle.std.specs.Cmp.{Equal-is}
use Rattle.std.specs.Prelude.{T}
use Rattle.std.specs.Cmp.{IsTotalOrder}
use Rattle.std.specs.declared.cmp.Ordering.{Ordering}
use Rattle.std.specs.declared.cmp.Ordering.TheVariants.{Less, Equal, Greater}
use Rattle.std.specs.Ordering.{is_lt, is_eq, eq_by_cmp, ordering_reverse}
use Rattle.std.specs.List.{dedup, dedup_from}
use Rattle.std.specs.List.Sorted.{IsSortedByKey, ties}
use Rattle.std.specs.FinMap as map
use Rattle.std.specs.FinMap.Entries.{find, is_sorted, below_all, same_entries}
use Rattle.layer_base.specs.Layers.{from_log, TellsApart}
use Rattle.layer_base.proofs.Sorted.{both, lt_from}

module _ {K : Type 0} (R : K → K → Ordering) (o : IsTotalOrder R) where
  -- a key that is neither less than another nor at its place comes after it
  pub after : (x k : K) → is_lt (R x k) ≡ false → eq_by_cmp R x k ≡ false → R k x ≡ Less
  after x k not_less not_same = by (R x k) refl not_less not_same
    where
      by : (r : Ordering) → R x k ≡ r → is_lt r ≡ false → is_eq r ≡ false → R k x ≡ Less
      by Less e p q = cc
      by Equal e p q = cc
      by Greater e p q = o.antisymm k x ∙ ap ordering_reverse e

shadowed : {X : Type 0} (b : Bool) (v w r : Option X) → cond b v r ≡ cond b v (cond b w r)
shadowed true v w r = refl
shadowed false v w r = refl

module _ {K X : Type 0} (R : K → K → Ordering) (o : IsTotalOrder R) (apart : TellsApart R) where
  abbrev same : K × X → K × X → Bool
  same x y = eq_by_cmp R x.0 y.0

  -- no key of a list is less than the one before it
  abbrev NotDown : K × X → List (K × X) → Type 0
  NotDown k [] = Unit {0}
  NotDown k (x ∷ xs) = (is_lt (R x.0 k.0) ≡ false) × NotDown x xs

  NotDown-same : (k x : K × X) (xs : List (K × X)) → same x k ≡ true → NotDown x xs → NotDown k xs
  NotDown-same k x [] e down = tt
  NotDown-same k x (y ∷ ys) e down = (subst (λ (n : K). is_lt (R y.0 n) ≡ false) (apart x.0 k.0 ((Equal-is (R x.0 k.0)).0 e)) down.0, down.1)

  not_down : (k : K × X) (xs : List (K × X)) → IsSortedByKey (λ (e : K × X). e.0) R (k ∷ xs) → NotDown k xs
  not_down k [] sorted = tt
  not_down k (x ∷ xs) sorted = (
    sorted 0 k (omega arith) (omega arith),
    not_down x xs (λ n d low high.
        let next : suc n + 1 ≡ suc (n + 1) = omega arith in
        subst (λ (m : ℕ). is_lt (R (get_or (k ∷ x ∷ xs) m d).0 (get_or (x ∷ xs) n d).0) ≡ false) next (sorted (suc n) d (omega arith) (omega arith))),
  )

  below_dedup : (z : K) (k : K × X) (xs : List (K × X)) → R z k.0 ≡ Less → NotDown k xs → T (below_all R z (dedup_from same k xs))
  below_dedup z k [] less down = both _ _ (lt_from _ less) tt
  below_dedup z k (x ∷ xs) less down =
      elim (same x k) as (λ b. same x k ≡ b → T (below_all R z (cond b (dedup_from same k xs) (k ∷ dedup_from same x xs)))) [
        | true ↦ λ e. below_dedup z k xs less (NotDown-same k x xs e down.1)
        | false ↦ λ e. both _ _ (lt_from _ less) (below_dedup z x xs (o.trans z k.0 x.0 less (after R o x.0 k.0 down.0 e)) down.1)
      ] refl

  sorted_dedup : (k : K × X) (xs : List (K × X)) → NotDown k xs → T (is_sorted R (dedup_from same k xs))
  sorted_dedup k [] down = tt
  sorted_dedup k (x ∷ xs) down =
      elim (same x k) as (λ b. same x k ≡ b → T (is_sorted R (cond b (dedup_from same k xs) (k ∷ dedup_from same x xs)))) [
        | true ↦ λ e. sorted_dedup k xs (NotDown-same k x xs e down.1)
        | false ↦ λ e. both _ _ (below_dedup k.0 x xs (after R o x.0 k.0 down.0 e) down.1) (sorted_dedup x xs down.1)
      ] refl

  find_dedup : (q : K) (k : K × X) (xs : List (K × X)) → find R q (dedup_from same k xs) ≡ find R q (k ∷ xs)
  find_dedup q k [] = refl
  find_dedup q k (x ∷ xs) =
      elim (same x k) as (λ b. same x k ≡ b → find R q (cond b (dedup_from same k xs) (k ∷ dedup_from same x xs)) ≡ find R q (k ∷ x ∷ xs)) [
        | true ↦ λ e. find_dedup q k xs ∙ shadowed (eq_by_cmp R q k.0) (Some k.1) (Some x.1) (find R q xs)
            ∙ ap (λ (n : K). cond (eq_by_cmp R q k.0) (Some k.1) (cond (eq_by_cmp R q n) (Some x.1) (find R q xs))) (sym (apart x.0 k.0 ((Equal-is (R x.0 k.0)).0 e)))
        | false ↦ λ e. ap (cond (eq_by_cmp R q k.0) (Some k.1)) (find_dedup q x xs)
      ] refl

  -- the value of the first entry
  abbrev first_value : List (K × X) → Option X
  first_value [] = None
  first_value (e ∷ es) = Some e.1

  find_first : (q : K) (es : List (K × X)) → find R q es ≡ first_value (filter (λ e. eq_by_cmp R q e.0) es)
  find_first q [] = refl
  find_first q (e ∷ es) =
      elim (eq_by_cmp R q e.0) as (λ b. cond b (Some e.1) (find R q es) ≡ first_value (cond b (e ∷ filter (λ d. eq_by_cmp R q d.0) es) (filter (λ d. eq_by_cmp R q d.0) es))) [
        | true ↦ refl
        | false ↦ find_first q es
      ]

  abbrev less : K × X → K × X → Bool
  less x y = is_lt (R x.0 y.0)

  ties_is : (x y : K × X) → ties less x y ≡ eq_by_cmp R x.0 y.0
  ties_is x y = by (R x.0 y.0) refl (o.antisymm y.0 x.0)
    where
      by : (r : Ordering) → R x.0 y.0 ≡ r → R y.0 x.0 ≡ ordering_reverse (R x.0 y.0) → (not (is_lt r) && not (less y x)) ≡ is_eq r
      by Less e t = refl
      by Equal e t = ap (λ (s : Ordering). not (is_lt s)) (t ∙ ap ordering_reverse e)
      by Greater e t = ap (λ (s : Ordering). not (is_lt s)) (t ∙ ap ordering_reverse e)

  pub filter_ties : (q : K) (v : X) (es : List (K × X)) → filter (ties less (q, v)) es ≡ filter (λ e. eq_by_cmp R q e.0) es
  filter_ties q v es = ap (λ (p : K × X → Bool). filter p es) (λ i e. ties_is (q, v) e i)

  -- a sort that keeps the order of what ties finds at each key what was found before
  find_stable : (xs ys : List (K × X)) → length ys ≡ length xs → ((x : K × X) → filter (ties less x) ys ≡ filter (ties less x) xs) → (q : K) → find R q ys ≡ find R q xs
  find_stable [] [] long stable q = refl
  find_stable [] (y ∷ ys) long stable q = absurd (omega arith)
  find_stable (x ∷ xs) ys long stable q =
      find_first q ys ∙ ap first_value (sym (filter_ties q x.1 ys) ∙ stable (q, x.1) ∙ filter_ties q x.1 (x ∷ xs)) ∙ sym (find_first q (x ∷ xs))

  sorted_all : (ys : List (K × X)) → IsSortedByKey (λ (e : K × X). e.0) R ys → T (is_sorted R (dedup same ys))
  sorted_all [] sorted = tt
  sorted_all (y ∷ ys) sorted = sorted_dedup y ys (not_down y ys sorted)

  find_all : (q : K) (ys : List (K × X)) → find R q (dedup same ys) ≡ find R q ys
  find_all q [] = refl
  find_all q (y ∷ ys) = find_dedup q y ys

  pub last_words_are : (log ys : List (K × X)) → length ys ≡ length (reverse log) → IsSortedByKey (λ (e : K × X). e.0) R ys → ((x : K × X) → filter (ties less x) ys ≡ filter (ties less x) (reverse log))
      → dedup same ys ≡ map.entries (from_log {R = R} log)
  last_words_are log ys long sorted stable =
      same_entries R o apart (dedup same ys) (map.entries (from_log {R = R} log)) (sorted_all ys sorted) (map.entries_sorted (from_log {R = R} log))
      (λ q. find_all q ys ∙ find_stable (reverse log) ys long stable q ∙ sym (map.get-from_entries o (reverse log) q) ∙ map.get-entries (from_log {R = R} log) q)
