-- Postings that are sorted by their keys, of which those at the key of the one before are left out.
use Rattle.std.proofs.Common.{◌≡◌, ◌||◌, Bool, true, List, [], ◌∷◌, refl, sym, ◌∙◌, ap}
use Rattle.std.proofs.lemmas.Cmp.{eq_by_cmp_equiv, on_total}
use Rattle.std.proofs.lemmas.List.Elements.{All-from_recursion}
use Rattle.std.proofs.lemmas.List.Folds.{list_any-from_Any}
use Rattle.std.proofs.lemmas.List.Kept.{Any-dedup, Contains-from_dedup, IsStrictlySortedBy-dedup}
use Rattle.std.proofs.lemmas.List.Sorted.{Contains-permutation, IsPermutation-sym}
use Rattle.std.specs.Cmp.{IsTotalOrder}
use Rattle.std.specs.declared.cmp.Ordering.{Ordering}
use Rattle.std.specs.declared.cmp.Ordering.TheVariants.{Less}
use Rattle.std.specs.List.{AllByRecursion, dedup, list_any}
use Rattle.std.specs.List.Sorted.{IsPermutation, IsSortedByKey, IsStrictlySortedBy}
use Rattle.std.specs.Ordering.{eq_by_cmp, on}
use Rattle.uni_base.specs.Cursors.{IsRanked, is_before, is_less}
use Rattle.uni_base.specs.KeySets.{has_key}
use Rattle.uni_base.specs.RankOrder.{doc_cmp}
use Rattle.uni_base.proofs.RankedLemmas.{doc_total, is_eq_swap}
use Rattle.posting_lists.specs.declared.posting.Posting.{Posting}
use Rattle.posting_lists.specs.Postings.{keys_of}
use Rattle.apply_extract.specs.Edges.{AreInOrder}

-- postings by their keys
abbrev order : Posting → Posting → Ordering
order = on (λ p. p.key) doc_cmp

abbrev pub is_same : Posting → Posting → Bool
is_same = eq_by_cmp order

order_total : IsTotalOrder order
order_total = on_total (λ p. p.key) doc_total

before_all : (p : Posting) (ps : List Posting) → AllByRecursion (λ x. order p x ≡ Less) ps → AllByRecursion (λ k. is_before p.key k ≡ true) (keys_of ps)
before_all p [] all = tt
before_all p (x ∷ ps) all = (ap is_less all.0, before_all p ps all.1)

keys_ranked : (ps : List Posting) → IsStrictlySortedBy order ps → IsRanked (keys_of ps)
unfolding IsStrictlySortedBy
keys_ranked [] sorted = tt
keys_ranked (p ∷ ps) sorted = (All-from_recursion (λ k. is_before p.key k ≡ true) (keys_of ps) (before_all p ps sorted.0), keys_ranked ps sorted.1)

same_key : (p : Posting) (ps : List Posting) → list_any (is_same p) ps ≡ has_key (keys_of ps) p.key
same_key p [] = refl
same_key p (x ∷ ps) = λ i. is_eq_swap p.key x.key i || same_key p ps i

-- what is left of sorted postings
pub left_in_order : (xs ys : List Posting) → IsPermutation xs ys → IsSortedByKey (λ p. p.key) doc_cmp ys → AreInOrder xs (dedup is_same ys)
left_in_order xs ys same up = record {
  ranked = keys_ranked (dedup is_same ys) (IsStrictlySortedBy-dedup order_total (λ x y. refl) ys up);
  among = λ p there. Contains-permutation ys xs p (IsPermutation-sym xs ys same) (Contains-from_dedup is_same ys p there);
  keys = λ p there. sym (same_key p (dedup is_same ys)) ∙ list_any-from_Any (is_same p) (dedup is_same ys) (Any-dedup (eq_by_cmp_equiv order_total) ys p (Contains-permutation xs ys p same there));
}
