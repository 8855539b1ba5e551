-- Two lists of rows in order that answer each look-up alike are one.
use Rattle.std.proofs.Common.{◌≡◌, cond, List, [], ◌∷◌, Some, refl, sym, ◌∙◌, ap}
use Rattle.std.specs.Prelude.{T}
use Rattle.std.specs.BTreeMap.{is_at}
use Rattle.std.specs.Cmp.{IsTotalOrder}
use Rattle.std.specs.declared.cmp.Ordering.{Ordering}
use Rattle.std.specs.declared.cmp.Ordering.TheVariants.{Less}
use Rattle.std.specs.FinMap as finite
use Rattle.std.specs.FinMap.Entries.{find, is_sorted, below_all}
use Rattle.std.specs.List.{AllByRecursion}
use Rattle.std.specs.List.Sorted.{IsStrictlySortedBy}
use Rattle.std.specs.Map.{keys_of, lookup}
use Rattle.std.specs.Ordering.{is_lt}
use Rattle.layer_base.specs.Layers.{TellsApart}
use Rattle.layer_base.proofs.Sorted.{both, lt_from}

module _ {K X : Type 0} {R : K → K → Ordering} (o : IsTotalOrder R) (apart : TellsApart R) where
  below : (k : K) (es : List (K × X)) → AllByRecursion (λ y. R k y ≡ Less) (keys_of es) → T (below_all R k es)
  below k [] all = tt
  below k (e ∷ es) all = both (is_lt (R k e.0)) (below_all R k es) (lt_from (R k e.0) all.0) (below k es all.1)

  rows_sorted : (es : List (K × X)) → IsStrictlySortedBy R (keys_of es) → T (is_sorted R es)
  unfolding IsStrictlySortedBy
  rows_sorted [] sorted = tt
  rows_sorted (e ∷ es) sorted = both (below_all R e.0 es) (is_sorted R es) (below e.0 es sorted.0) (rows_sorted es sorted.1)

  found_so : (q : K) (es : List (K × X)) → find R q es ≡ lookup (is_at (R q)) es
  found_so q [] = refl
  found_so q (e ∷ es) = ap (cond (is_at (R q) e.0) (Some e.1)) (found_so q es)

  pub lists_same : (xs ys : List (K × X)) → IsStrictlySortedBy R (keys_of xs) → IsStrictlySortedBy R (keys_of ys) → ((q : K) → lookup (is_at (R q)) xs ≡ lookup (is_at (R q)) ys) → xs ≡ ys
  lists_same xs ys xs_sorted ys_sorted alike =
      let first = rows_sorted xs xs_sorted in let second = rows_sorted ys ys_sorted in
      sym (finite.entries-from_sorted R xs first)
      ∙ ap finite.entries (finite.same_map o apart (finite.from_sorted xs) (finite.from_sorted ys)
      (λ q. finite.get-from_sorted R xs q first ∙ found_so q xs ∙ alike q ∙ sym (found_so q ys) ∙ sym (finite.get-from_sorted R ys q second)))
      ∙ finite.entries-from_sorted R ys second
