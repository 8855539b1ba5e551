-- What comparisons tell, and entries whose keys strictly rise.
use Rattle.std.proofs.Common.{◌≡◌, ℕ, zero, suc, ◌<◌, ◌≤◌, Bool, true, false, cond, ◌&&◌, List, [], ◌∷◌, ◌++◌, length, get_or, None, Some, refl, sym, ◌∙◌, ap, subst, arith, All, ◌⊎◌, inl, inr}
use Rattle.std.specs.Prelude.{T}
use Rattle.std.specs.declared.cmp.Ordering.{Ordering}
use Rattle.std.specs.declared.cmp.Ordering.TheVariants.{Less, Equal, Greater}
use Rattle.std.specs.Ordering.{is_lt, is_eq, ordering_then, ordering_reverse, ordering_index}
use Rattle.std.specs.FinMap.Entries.{find, is_sorted, below_all}
use Rattle.std.specs.Cmp.{IsTotalOrder}
use Rattle.std.specs.List.Sorted.{IsNonDecreasingBy, IsPartitionPoint}
use Rattle.std.proofs.lemmas.Bool.{cases_lt}
use Rattle.std.proofs.lemmas.List.Elements.{All-head, All-tail}

pub both : (a b : Bool) → T a → T b → T (a && b)
both true b p q = q
both false b p q = absurd p

pub first : (a b : Bool) → T (a && b) → T a
first true b p = tt
first false b p = p

pub second : (a b : Bool) → T (a && b) → T b
second true b p = p
second false b p = absurd p

pub less_from : (o : Ordering) → T (is_lt o) → o ≡ Less
less_from Less p = refl
less_from Equal p = absurd p
less_from Greater p = absurd p

pub lt_from : (o : Ordering) → o ≡ Less → T (is_lt o)
lt_from o e = subst (λ (r : Ordering). T (is_lt r)) (sym e) tt

-- ---- one comparison, and then another

pub is_eq-then : (a b : Ordering) → is_eq (ordering_then a b) ≡ (is_eq a && is_eq b)
is_eq-then Less b = refl
is_eq-then Equal b = refl
is_eq-then Greater b = refl

pub both_equal : (a b : Ordering) → ordering_then a b ≡ Equal → (a ≡ Equal) × (b ≡ Equal)
both_equal Less b e = cc
both_equal Equal b e = (refl, e)
both_equal Greater b e = cc

pub then_lt : (a b : Ordering) → is_eq a ≡ true → T (is_lt (ordering_then a b)) → T (is_lt b)
then_lt Less b e p = cc
then_lt Equal b e p = p
then_lt Greater b e p = cc

pub then_less : (a b : Ordering) → ordering_then a b ≡ Less → is_eq a ≡ false → a ≡ Less
then_less Less b e p = refl
then_less Equal b e p = cc
then_less Greater b e p = e

-- ---- entries

module _ {K X : Type 0} (R : K → K → Ordering) where
  pub find_below : (q : K) (es : List (K × X)) → T (below_all R q es) → find R q es ≡ None
  find_below q [] below = refl
  find_below q (e ∷ es) below = ap (λ r. cond (is_eq r) (Some e.1) (find R q es)) (less_from _ (first _ _ below)) ∙ find_below q es (second _ _ below)

  below_at : (x : K) (es : List (K × X)) (j : ℕ) (d : K × X) → T (below_all R x es) → j < length es → R x (get_or es j d).0 ≡ Less
  below_at x [] j d below fits = absurd (omega arith)
  below_at x (e ∷ es) zero d below fits = less_from _ (first _ _ below)
  below_at x (e ∷ es) (suc j) d below fits = below_at x es j d (second _ _ below) (omega arith)

  pub sorted_at : (es : List (K × X)) (i j : ℕ) (d : K × X) → T (is_sorted R es) → i < j → j < length es → R (get_or es i d).0 (get_or es j d).0 ≡ Less
  sorted_at [] i j d sorted less fits = absurd (omega arith)
  sorted_at (e ∷ es) i zero d sorted less fits = absurd (omega arith)
  sorted_at (e ∷ es) zero (suc j) d sorted less fits = below_at e.0 es j d (first _ _ sorted) (omega arith)
  sorted_at (e ∷ es) (suc i) (suc j) d sorted less fits = sorted_at es i j d (second _ _ sorted) (omega arith) (omega arith)

  below_push : (x : K) (es : List (K × X)) (k : K) (v : X) → T (below_all R x es) → R x k ≡ Less → T (below_all R x (es ++ (k, v) ∷ []))
  below_push x [] k v below less = both _ _ (lt_from _ less) tt
  below_push x (e ∷ es) k v below less = both _ _ (first _ _ below) (below_push x es k v (second _ _ below) less)

  pub sorted_push : (es : List (K × X)) (k : K) (v : X) → T (is_sorted R es) → All (λ e. R e.0 k ≡ Less) es → T (is_sorted R (es ++ (k, v) ∷ []))
  sorted_push [] k v sorted all = tt
  sorted_push (e ∷ es) k v sorted all =
      both _ _ (below_push e.0 es k v (first _ _ sorted) (All-head (λ (x : K × X). R x.0 k ≡ Less) e es all)) (sorted_push es k v (second _ _ sorted) (All-tail (λ (x : K × X). R x.0 k ≡ Less) e es all))

-- ---- one entry among all

module _ {K X : Type 0} (R : K → K → Ordering) (o : IsTotalOrder R) (q : K) where
  -- the entry at a place, at whose key nothing stands before it
  pub find_at : (es : List (K × X)) (i : ℕ) (d : K × X) → T (is_sorted R es) → i < length es → R (get_or es i d).0 q ≡ Equal → find R q es ≡ Some (get_or es i d).1
  find_at [] i d sorted fits same = absurd (omega arith)
  find_at (e ∷ es) zero d sorted fits same = ap (λ r. cond (is_eq r) (Some e.1) (find R q es)) (o.antisymm q e.0 ∙ ap ordering_reverse same)
  find_at (e ∷ es) (suc i) d sorted fits same =
      let below : R e.0 (get_or es i d).0 ≡ Less = below_at R e.0 es i d (first _ _ sorted) (omega arith) in
      let above : R q e.0 ≡ Greater = sym (o.congr (get_or es i d).0 q e.0 same) ∙ o.antisymm (get_or es i d).0 e.0 ∙ ap ordering_reverse below in
      ap (λ r. cond (is_eq r) (Some e.1) (find R q es)) above ∙ find_at es i d (second _ _ sorted) (omega arith) same

  -- nothing stands at the key
  pub find_none : (es : List (K × X)) → All (λ e. is_eq (R e.0 q) ≡ false) es → find R q es ≡ None
  find_none [] all = refl
  find_none (e ∷ es) all =
      ap (λ b. cond b (Some e.1) (find R q es)) (turned (R e.0 q) (o.antisymm q e.0) (All-head (λ (x : K × X). is_eq (R x.0 q) ≡ false) e es all)) ∙ find_none es (All-tail (λ (x : K × X). is_eq (R x.0 q) ≡ false) e es all)
    where
      turned : (r : Ordering) → R q e.0 ≡ ordering_reverse r → is_eq r ≡ false → is_eq (R q e.0) ≡ false
      turned Less t f = ap is_eq t
      turned Equal t f = cc
      turned Greater t f = ap is_eq t

-- ---- a list whose keys strictly rise, parted by a key

module _ {K E : Type 0} (R : K → K → Ordering) (o : IsTotalOrder R) (key : E → K) (q : K) where
  -- the places at which items come before the key, stand at it, and come after it
  pub rises_about : (es : List E) → ((i j : ℕ) (d : E) → i < j → j < length es → R (key (get_or es i d)) (key (get_or es j d)) ≡ Less) → IsNonDecreasingBy (λ e. ordering_index (R (key e) q)) es
  rises_about es rises i j d le fits = by (cases_lt i j)
    where
      below : (x y : K) → R x y ≡ Less → (r s : Ordering) → R x q ≡ r → R y q ≡ s → ordering_index r ≤ ordering_index s
      below x y step Less s e f = omega arith
      below x y step Equal Less f g = let lower : R x q ≡ Less = o.trans x y q step g in absurd cc
      below x y step Equal Equal f g = omega arith
      below x y step Equal Greater f g = omega arith
      below x y step Greater Less f g = let lower : R x q ≡ Less = o.trans x y q step g in absurd cc
      below x y step Greater Equal f g =
          let up : R q y ≡ Equal = o.antisymm q y ∙ ap ordering_reverse g in
          let low : R q x ≡ Less = o.antisymm q x ∙ ap ordering_reverse f in
          let turned : R y x ≡ Less = sym (o.congr q y x up) ∙ low in
          let back : R y x ≡ Greater = o.antisymm y x ∙ ap ordering_reverse step in
          absurd cc
      below x y step Greater Greater f g = omega arith

      by : (i < j) ⊎ (j ≤ i) → ordering_index (R (key (get_or es i d)) q) ≤ ordering_index (R (key (get_or es j d)) q)
      by (inl less) = below (key (get_or es i d)) (key (get_or es j d)) (rises i j d less fits) (R (key (get_or es i d)) q) (R (key (get_or es j d)) q) refl refl
      by (inr more) = let same : j ≡ i = omega arith in subst (λ (n : ℕ). ordering_index (R (key (get_or es i d)) q) ≤ ordering_index (R (key (get_or es n d)) q)) (sym same) (omega arith)

  -- no item of a list in two parts, before the key and after it, stands at the key
  pub parted : (es : List E) (i : ℕ) → IsPartitionPoint (λ e. R (key e) q ≡ Less) (λ e. R (key e) q ≡ Greater) es i → All (λ e. is_eq (R (key e) q) ≡ false) es
  parted es i parts k d fits = by (cases_lt k i)
    where
      by : (k < i) ⊎ (i ≤ k) → is_eq (R (key (get_or es k d)) q) ≡ false
      by (inl less) = ap is_eq (parts.0 k d (omega arith) less)
      by (inr more) = ap is_eq (parts.1 k d more fits)
