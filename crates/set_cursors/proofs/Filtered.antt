-- Operands of which each has passed the keys that fail a test.
use Rattle.std.proofs.Common.{◌≡◌, Bool, List, [], ◌∷◌, Option, Some, refl, sym, ◌∙◌, ap, subst, not, drop, filter, map, slice_get}
use Rattle.std.specs.Ordering.{is_eq}
use Rattle.uni_base.specs.declared.entity.DocKey.{DocKey}
use Rattle.uni_base.specs.RankOrder.{doc_cmp}
use Rattle.uni_base.specs.Cursors.{is_before, IsRanked, keys_from}
use Rattle.uni_base.specs.KeySets.{united, without, KeepsKeys}
use Rattle.uni_base.proofs.UnitedLemmas.{united-filter, without-head, IsRanked-united, KeepsKeys-filter}

module _ {C : Type 0} (view : C → List DocKey) (news olds was : List C) (is : was ≡ olds) where
  module _ (p : DocKey → Bool) (moves : map view news ≡ map (filter p) (map view was)) where
    moved : map view news ≡ map (filter p) (map view olds)
    moved = moves ∙ ap (λ (xs : List C). map (filter p) (map view xs)) is

    all_moved : united (map view news) ≡ filter p (united (map view olds))
    all_moved = ap united moved ∙ united-filter p (map view olds)

    keeps : KeepsKeys (united (map view news)) (map view olds) (map view news)
    keeps = subst (λ (lists : List (List DocKey)). KeepsKeys (united lists) (map view olds) lists) (sym moved) (KeepsKeys-filter p (map view olds))

  -- after a seek
  pub united-sought : (from : DocKey) → map view news ≡ map (keys_from from) (map view was) → united (map view news) ≡ keys_from from (united (map view olds))
  united-sought from moves = all_moved (λ k. not (is_before k from)) moves

  pub KeepsKeys-sought : (from : DocKey) → map view news ≡ map (keys_from from) (map view was) → KeepsKeys (united (map view news)) (map view olds) (map view news)
  KeepsKeys-sought from moves = keeps (λ k. not (is_before k from)) moves

  -- after the first of all keys is passed
  pub united-passed : (k : DocKey) → slice_get (united (map view olds)) 0 ≡ Some k → map view news ≡ map (without k) (map view was) → united (map view news) ≡ drop 1 (united (map view olds))
  united-passed k first moves = all_moved (λ x. not (is_eq (doc_cmp k x))) moves ∙ by (united (map view olds)) first (IsRanked-united (map view olds))
    where
      by : (ks : List DocKey) → slice_get ks 0 ≡ Some k → IsRanked ks → without k ks ≡ drop 1 ks
      by [] e ranked = refl
      by (x ∷ xs) e ranked = let s : x ≡ k = cc in subst (λ (y : DocKey). without y (x ∷ xs) ≡ xs) s (without-head x xs ranked)

  pub KeepsKeys-passed : (k : DocKey) → map view news ≡ map (without k) (map view was) → KeepsKeys (united (map view news)) (map view olds) (map view news)
  KeepsKeys-passed k moves = keeps (λ x. not (is_eq (doc_cmp k x))) moves

  -- the first of all keys, as it was
  pub first_was : (o : Option DocKey) → o ≡ slice_get (united (map view was)) 0 → o ≡ slice_get (united (map view olds)) 0
  first_was o e = e ∙ ap (λ (xs : List C). slice_get (united (map view xs)) 0) is
