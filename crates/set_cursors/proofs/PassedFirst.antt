-- Operands of which the first was moved before they leapt.
use Rattle.std.proofs.Common.{◌≡◌, Bool, not, List, [], ◌∷◌, Some, refl, sym, ◌∙◌, ap, drop, filter, map, slice_get}
use Rattle.std.specs.Ordering.{is_eq}
use Rattle.uni_base.specs.declared.entity.DocKey.{DocKey}
use Rattle.uni_base.specs.RankOrder.{doc_cmp}
use Rattle.uni_base.specs.Cursors.{is_before, keys_from}
use Rattle.uni_base.proofs.RankedLemmas.{keys_from-keys_from}
use Rattle.set_cursors.specs.Filters.{common}
use Rattle.set_cursors.specs.Leaps.{first_filtered}
use Rattle.set_cursors.specs.Passed.{HavePassed}
use Rattle.set_cursors.proofs.Passed.{from_without, later_head, sought_late}
use Rattle.set_cursors.proofs.Shared.{IsRanked-common}

first_same : (k : DocKey) (p : DocKey → Bool) (lists : List (List DocKey)) → ((ks : List DocKey) → keys_from k (filter p ks) ≡ keys_from k ks) → map (keys_from k) (first_filtered p lists) ≡ map (keys_from k) lists
first_same k p [] same = refl
first_same k p (ks ∷ lists) same = ap (λ (xs : List DocKey). xs ∷ map (keys_from k) lists) (same ks)

module _ {C : Type 0} (view : C → List DocKey) (olds was : List C) (is : was ≡ olds) (news mids : List (List DocKey)) (passed : HavePassed (common news) mids news) where
  both : (p : DocKey → Bool) → mids ≡ first_filtered p (map view was) → ((k : DocKey) → slice_get (common news) 0 ≡ Some k → (ks : List DocKey) → keys_from k (filter p ks) ≡ keys_from k ks)
      → HavePassed (common news) (map view olds) news
  both p moves same k e =
      passed k e ∙ ap (map (keys_from k)) moves ∙ first_same k p (map view was) (same k e) ∙ ap (λ (xs : List C). map (keys_from k) (map view xs)) is

  pub sought-common : (from : DocKey) → mids ≡ first_filtered (λ k. not (is_before k from)) (map view was) → common news ≡ keys_from from (common (map view olds)) → HavePassed (common news) (map view olds) news
  sought-common from moves after =
      both (λ k. not (is_before k from)) moves
      (λ k e ks. keys_from-keys_from from k ks (sought_late from k (common (map view olds)) (ap (λ (xs : List DocKey). slice_get xs 0) (sym after) ∙ e)))

  pub stepped-common : (key : DocKey) → Some key ≡ slice_get (common (map view was)) 0 → mids ≡ first_filtered (λ x. not (is_eq (doc_cmp key x))) (map view was)
      → common news ≡ drop 1 (common (map view olds)) → HavePassed (common news) (map view olds) news
  stepped-common key first moves after =
      both (λ x. not (is_eq (doc_cmp key x))) moves
      (λ k e ks. from_without key k ks
      (later_head (common (map view olds)) key k (IsRanked-common (map view olds)) (first ∙ ap (λ (xs : List C). slice_get (common (map view xs)) 0) is)
      (ap (λ (xs : List DocKey). slice_get xs 0) (sym after) ∙ e)))
