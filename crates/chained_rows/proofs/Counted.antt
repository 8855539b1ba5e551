-- How many rows live.
use Rattle.std.proofs.Common.{◌≡◌, ℕ, zero, suc, ◌+◌, ◌≤◌, Bool, true, false, List, [], ◌∷◌, ◌++◌, Option, None, Some, refl, ◌∙◌, ap, map, length, slice_get, is_some, arith}
use Rattle.std.specs.Cmp.{IsTotalOrder}
use Rattle.std.specs.declared.cmp.Ordering.{Ordering}
use Rattle.std.specs.Ordering.{eq_by_cmp}
use Rattle.std.specs.List.{IsDistinct, filter_map, cons_option}
use Rattle.std.specs.Map.{keys_of}
use Rattle.std.specs.Option.{option_map}
use Rattle.std.proofs.lemmas.List.Sorted.{length_permutation}
use Rattle.indexmap.specs.Layout.{set_value_at}
use Rattle.chained_rows.specs.Ordered.{ordered, living}
use Rattle.chained_rows.specs.Counts.{count_of, one_if}
use Rattle.chained_rows.proofs.Picked.{IsPermutation-ordered}

module _ {K V : Type 0} (lives : V → Bool) where
  pub count-push : (es : List (K × V)) (k : K) (v : V) → count_of lives (es ++ (k, v) ∷ []) ≡ count_of lives es + one_if (lives v)
  count-push [] k v = omega arith
  count-push (e ∷ es) k v = omega (arith, count-push es k v)

  pub count-written : (es : List (K × V)) (i : ℕ) (k : K) (v w : V) → slice_get es i ≡ Some (k, v) → count_of lives (set_value_at es i w) + one_if (lives v) ≡ count_of lives es + one_if (lives w)
  count-written [] i k v w at = cc
  count-written (e ∷ es) zero k v w at = let same : one_if (lives e.1) ≡ one_if (lives v) = ap (λ x. one_if (lives x)) (let is : e.1 ≡ v = cc in is) in omega (arith, same)
  count-written (e ∷ es) (suc i) k v w at = omega (arith, count-written es i k v w at)

  pub count-le : (es : List (K × V)) → count_of lives es ≤ length es
  count-le [] = omega arith
  count-le (e ∷ es) = by (lives e.1) (count-le es)
    where
      by : (b : Bool) → count_of lives es ≤ length es → one_if b + count_of lives es ≤ suc (length es)
      by true h = omega arith
      by false h = omega arith

  -- the ordered entries are as many as the rows that live
  pub length-ordered : {N X : Type 0} {cmp : N → N → Ordering} → IsTotalOrder cmp → (name : K × V → N × Option X) → ((e : K × V) → is_some (name e).1 ≡ lives e.1) → (es : List (K × V)) → IsDistinct (eq_by_cmp cmp) (keys_of (map name es))
      → length (ordered cmp (map name es)) ≡ count_of lives es
  length-ordered {N} {X} {cmp} o name tells es d = length_permutation (filter_map living (map name es)) (ordered cmp (map name es)) (IsPermutation-ordered o (map name es) d) ∙ counted es
    where
      one : (r : Option (N × X)) (xs : List (N × X)) → length (cons_option r xs) ≡ one_if (is_some r) + length xs
      one None xs = omega arith
      one (Some x) xs = omega arith

      same : (k : N) (r : Option X) → is_some {T = N × X} (option_map (λ x. (k, x)) r) ≡ is_some r
      same k None = refl
      same k (Some x) = refl

      counted : (fs : List (K × V)) → length (filter_map living (map name fs)) ≡ count_of lives fs
      counted [] = refl
      counted (f ∷ fs) =
          one (living (name f)) (filter_map living (map name fs))
          ∙ ap (λ b. one_if b + length (filter_map living (map name fs))) (same (name f).0 (name f).1 ∙ tells f) ∙ ap (λ n. one_if (lives f.1) + n) (counted fs)
