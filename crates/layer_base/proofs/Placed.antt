-- The place of a key among rows in the order of their keys.
use Rattle.std.proofs.Common.{◌≡◌, ℕ, zero, suc, ◌-◌, ◌<◌, ◌≤◌, Bool, true, false, not, ◌==◌, ◌&&◌, ◌||◌, List, [], ◌∷◌, length, get_or, slice_get, Option, None, Some, refl, sym, ◌∙◌, ap, subst, arith, ◌⊎◌, inl, inr}
use Rattle.std.specs.Prelude.{T}
use Rattle.std.specs.Cmp.{IsTotalOrder}
use Rattle.std.specs.declared.cmp.Ordering.{Ordering}
use Rattle.std.specs.declared.cmp.Ordering.TheVariants.{Less, Equal, Greater}
use Rattle.std.specs.FinMap.Entries.{find, is_sorted}
use Rattle.std.specs.List.Sorted.{IsPartitionedBy}
use Rattle.std.specs.Ordering.{is_lt, is_eq, ordering_reverse}
use Rattle.std.proofs.lemmas.Bool.{cases_lt, eqb-true}
use Rattle.std.proofs.lemmas.Option.{get_or_from_slice_get, slice_get_within}
use Rattle.layer_base.specs.Lookups.{comes_before, is_place, IsPlaceOf}
use Rattle.layer_base.proofs.Sorted.{sorted_at, find_at, find_none}

is_less : (o : Ordering) → is_lt o ≡ true → o ≡ Less
is_less Less e = refl
is_less Equal e = cc
is_less Greater e = cc

not_same : (o : Ordering) → is_lt o ≡ true → is_eq o ≡ false
not_same Less e = refl
not_same Equal e = cc
not_same Greater e = cc

is_greater : (o : Ordering) → is_lt o ≡ false → is_eq o ≡ false → o ≡ Greater
is_greater Less e f = cc
is_greater Equal e f = cc
is_greater Greater e f = refl

and_first : (a b : Bool) → (a && b) ≡ true → a ≡ true
and_first true b e = refl
and_first false b e = e

and_not : (a b : Bool) → (a && not b) ≡ true → b ≡ false
and_not true true e = sym e
and_not true false e = refl
and_not false true e = sym e
and_not false false e = refl

or_second : (a b : Bool) → (a ≡ true → ⊥) → (a || b) ≡ true → b ≡ true
or_second true b wrong e = absurd (wrong refl)
or_second false b wrong e = e

pub none_past : {X : Type 0} (xs : List X) (n : ℕ) → slice_get xs n ≡ None → length xs ≤ n
none_past [] n e = omega arith
none_past (x ∷ xs) zero e = cc
none_past (x ∷ xs) (suc n) e = omega (arith, none_past xs n e)

module _ {K X : Type 0} (R : K → K → Ordering) (o : IsTotalOrder R) (q : K) (es : List (K × X)) (sorted : T (is_sorted R es)) where
  pub partitioned : IsPartitionedBy (λ e. is_lt (R e.0 q)) es
  partitioned i j d le fits less = by (cases_lt i j)
    where
      by : (i < j) ⊎ (j ≤ i) → is_lt (R (get_or es i d).0 q) ≡ true
      by (inl before) = ap is_lt (o.trans (get_or es i d).0 (get_or es j d).0 q (sorted_at R es i j d sorted before fits) (is_less (R (get_or es j d).0 q) less))
      by (inr more) = let same : j ≡ i = omega arith in subst (λ (n : ℕ). is_lt (R (get_or es n d).0 q) ≡ true) same less

  -- what a look at a row tells
  looked : (i : ℕ) (d : K × X) → i < length es → comes_before R q (slice_get es i) ≡ is_lt (R (get_or es i d).0 q)
  looked i d fits = by (slice_get es i) refl
    where
      by : (r : Option (K × X)) → slice_get es i ≡ r → comes_before R q r ≡ is_lt (R (get_or es i d).0 q)
      by None e = let past = none_past es i e in absurd (omega arith)
      by (Some x) e = ap (λ (y : K × X). is_lt (R y.0 q)) (sym (get_or_from_slice_get es i x d e))

  -- a row that comes before the key is there
  there : (i : ℕ) → comes_before R q (slice_get es i) ≡ true → i < length es
  there i before = by (slice_get es i) refl before
    where
      by : (r : Option (K × X)) → slice_get es i ≡ r → comes_before R q r ≡ true → i < length es
      by None e b = cc
      by (Some x) e b = slice_get_within es i x e

  -- a place that is the first, or after a row that comes before the key, and at none that does
  pub placed : (i : ℕ) → is_place R q es i ≡ true → IsPlaceOf R q es i
  placed i is = (before, after)
    where
      behind : ((i == 0) || comes_before R q (slice_get es (i - 1))) ≡ true
      behind = and_first ((i == 0) || comes_before R q (slice_get es (i - 1))) (not (comes_before R q (slice_get es i))) is

      here : comes_before R q (slice_get es i) ≡ false
      here = and_not ((i == 0) || comes_before R q (slice_get es (i - 1))) (comes_before R q (slice_get es i)) is

      before : (k : ℕ) (d : K × X) → 0 ≤ k → k < i → is_lt (R (get_or es k d).0 q) ≡ true
      before k d low less =
          let last : comes_before R q (slice_get es (i - 1)) ≡ true = or_second (i == 0) (comes_before R q (slice_get es (i - 1))) (λ e. let none : i ≡ 0 = eqb-true i 0 e in absurd (omega arith)) behind in
          let fits = there (i - 1) last in
          partitioned k (i - 1) d (omega arith) fits (sym (looked (i - 1) d fits) ∙ last)

      after : (k : ℕ) (d : K × X) → i ≤ k → k < length es → is_lt (R (get_or es k d).0 q) ≡ false
      after k d more fits = by (is_lt (R (get_or es k d).0 q)) refl
        where
          by : (b : Bool) → is_lt (R (get_or es k d).0 q) ≡ b → is_lt (R (get_or es k d).0 q) ≡ false
          by true e = let no : true ≡ false = sym (partitioned i k d more fits e) ∙ sym (looked i d (omega arith)) ∙ here in absurd cc
          by false e = e

  -- nothing stands at the place
  pub nothing_placed : (i : ℕ) → IsPlaceOf R q es i → length es ≤ i → find R q es ≡ None
  nothing_placed i place past = find_none R o q es (λ k d fits. not_same (R (get_or es k d).0 q) (place.0 k d (omega arith) (omega (arith, past, fits))))

  pub same_placed : (i : ℕ) (e : K × X) → slice_get es i ≡ Some e → R e.0 q ≡ Equal → find R q es ≡ Some e.1
  same_placed i e at same =
      let read : get_or es i e ≡ e = get_or_from_slice_get es i e e at in
      find_at R o q es i e sorted (slice_get_within es i e at) (ap (λ (x : K × X). R x.0 q) read ∙ same) ∙ ap (λ (x : K × X). Some x.1) read

  -- another key stands there
  pub other_placed : (i : ℕ) (e : K × X) → IsPlaceOf R q es i → slice_get es i ≡ Some e → is_eq (R e.0 q) ≡ false → find R q es ≡ None
  other_placed i e place at other = find_none R o q es (λ k d fits. by k d fits (cases_lt k i))
    where
      fits_at : i < length es
      fits_at = slice_get_within es i e at

      read : (d : K × X) → get_or es i d ≡ e
      read d = get_or_from_slice_get es i e d at

      above : R e.0 q ≡ Greater
      above = is_greater (R e.0 q) (subst (λ (x : K × X). is_lt (R x.0 q) ≡ false) (read e) (place.1 i e (omega arith) fits_at)) other

      by : (k : ℕ) (d : K × X) → k < length es → (k < i) ⊎ (i ≤ k) → is_eq (R (get_or es k d).0 q) ≡ false
      by k d fits (inl less) = not_same (R (get_or es k d).0 q) (place.0 k d (omega arith) less)
      by k d fits (inr more) = further (cases_lt i k)
        where
          further : (i < k) ⊎ (k ≤ i) → is_eq (R (get_or es k d).0 q) ≡ false
          further (inl less) =
              let under : R q e.0 ≡ Less = o.antisymm q e.0 ∙ ap ordering_reverse above in
              let rises : R e.0 (get_or es k d).0 ≡ Less = subst (λ (x : K × X). R x.0 (get_or es k d).0 ≡ Less) (read d) (sorted_at R es i k d sorted less fits) in
              ap is_eq (o.antisymm (get_or es k d).0 q ∙ ap ordering_reverse (o.trans q e.0 (get_or es k d).0 under rises))
          further (inr less) =
              let same : k ≡ i = omega arith in
              ap (λ (x : K × X). is_eq (R x.0 q)) (ap (λ n. get_or es n d) same ∙ read d) ∙ other
