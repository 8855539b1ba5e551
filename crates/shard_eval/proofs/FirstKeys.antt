-- The first keys of a list, as many as a limit says.
use Rattle.std.proofs.Common.{◌≡◌, ℕ, true, List, [], ◌∷◌, ◌++◌, Option, None, Some, length, map, take, slice_get, refl, sym, ◌∙◌, ap, arith, append-nil}
use Rattle.std.proofs.lemmas.Bool.{leb-true}
use Rattle.std.proofs.lemmas.List.{length-map, take_all}
use Rattle.std.proofs.Math.Seq.{take-append_seam}
use Rattle.uni_base.specs.declared.entity.DocKey.{DocKey}
use Rattle.posting_lists.specs.declared.posting.Posting.{Posting}
use Rattle.lineage_tree.specs.declared.lineage.RawHit.{RawHit}
use Rattle.shard_eval.specs.declared.leaf.Leaf.{Leaf}
use Rattle.shard_eval.specs.Found.{Found, found_all, found_of, found_posting}
use Rattle.shard_eval.specs.Kept.{is_full, up_to, IsWithin}

none_left : (ks : List DocKey) → ((k : DocKey) → slice_get ks 0 ≡ Some k → ⊥) → ks ≡ []
none_left [] none = refl
none_left (k ∷ ks) none = absurd (none k refl)

all_there : (keys rest all : List DocKey) → keys ++ rest ≡ all → ((k : DocKey) → slice_get rest 0 ≡ Some k → ⊥) → keys ≡ all
all_there keys rest all whole none = sym (append-nil keys) ∙ ap (λ (ks : List DocKey). keys ++ ks) (sym (none_left rest none)) ∙ whole

-- where nothing is left, all are kept
pub all_kept : (limit : Option ℕ) (keys rest all : List DocKey) → keys ++ rest ≡ all → IsWithin (length keys) limit → ((k : DocKey) → slice_get rest 0 ≡ Some k → ⊥) → keys ≡ up_to limit all
all_kept None keys rest all whole within none = all_there keys rest all whole none
all_kept (Some n) keys rest all whole within none =
    let same = all_there keys rest all whole none in
    same ∙ sym (take_all n all (omega (arith, within, ap length same)))

-- where the limit is reached, they are as many as it says
pub enough_kept : (limit : Option ℕ) (keys rest all : List DocKey) → keys ++ rest ≡ all → IsWithin (length keys) limit → is_full (length keys) limit ≡ true → keys ≡ up_to limit all
enough_kept None keys rest all whole within full = cc
enough_kept (Some n) keys rest all whole within full =
    let exact : length keys ≡ n = omega (arith, within, leb-true n (length keys) full) in
    sym (ap (λ k. take k all) (sym exact) ∙ ap (take (length keys)) (sym whole) ∙ take-append_seam keys rest)

-- the same of hits, by what is found
none_posted : (ps : List Posting) → ((p : Posting) → slice_get ps 0 ≡ Some p → ⊥) → ps ≡ []
none_posted [] none = refl
none_posted (p ∷ ps) none = absurd (none p refl)

pub all_hit : (limit : Option ℕ) (hits : List RawHit) (leaf : Leaf) (ps : List Posting) (all : List Found) → found_all hits ++ map (found_posting leaf) ps ≡ all → IsWithin (length hits) limit
    → ((p : Posting) → slice_get ps 0 ≡ Some p → ⊥) → found_all hits ≡ up_to limit all
all_hit limit hits leaf ps all whole within none = over limit within
  where
    same : found_all hits ≡ all
    same = sym (append-nil (found_all hits)) ∙ ap (λ (qs : List Posting). found_all hits ++ map (found_posting leaf) qs) (sym (none_posted ps none)) ∙ whole

    over : (limit : Option ℕ) → IsWithin (length hits) limit → found_all hits ≡ up_to limit all
    over None within = same
    over (Some n) within = same ∙ sym (take_all n all (omega (arith, within, ap length same, length-map hits found_of)))

pub enough_hit : (limit : Option ℕ) (hits : List RawHit) (rest all : List Found) → found_all hits ++ rest ≡ all → IsWithin (length hits) limit → is_full (length hits) limit ≡ true → found_all hits ≡ up_to limit all
enough_hit None hits rest all whole within full = cc
enough_hit (Some n) hits rest all whole within full =
    let exact : length (found_all hits) ≡ n = omega (arith, within, leb-true n (length hits) full, length-map hits found_of) in
    sym (ap (λ k. take k all) (sym exact) ∙ ap (take (length (found_all hits))) (sym whole) ∙ take-append_seam (found_all hits) rest)

pub no_more_hits : (limit : Option ℕ) (hits : List RawHit) (all : List Found) → found_all hits ++ [] ≡ all → IsWithin (length hits) limit → found_all hits ≡ up_to limit all
no_more_hits limit hits all whole within = over limit within
  where
    same : found_all hits ≡ all
    same = sym (append-nil (found_all hits)) ∙ whole

    over : (limit : Option ℕ) → IsWithin (length hits) limit → found_all hits ≡ up_to limit all
    over None within = same
    over (Some n) within = same ∙ sym (take_all n all (omega (arith, within, ap length same, length-map hits found_of)))
