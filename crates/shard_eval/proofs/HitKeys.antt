-- Hits in rank order, and those of them that come before a key.
use Rattle.std.proofs.Common.{◌≡◌, ℕ, ◌≤◌, true, false, List, [], ◌∷◌, zero, suc, length, drop, get_or, arith, refl, ◌∙◌, subst, inl, inr}
use Rattle.std.proofs.lemmas.Bool.{cases_lt}
use Rattle.std.proofs.lemmas.List.{length-map}
use Rattle.std.proofs.Math.ListN.{get_or-map}
use Rattle.std.specs.List.Sorted.{IsPartitionedBy, IsPartitionPoint}
use Rattle.uni_base.specs.Cursors.{IsRanked, is_before, keys_from}
use Rattle.uni_base.specs.declared.entity.DocKey.{DocKey}
use Rattle.uni_base.proofs.RankedLemmas.{is_before_trans, keys_from-before, keys_from-here}
use Rattle.posting_lists.proofs.Sections.{ranked_at}
use Rattle.lineage_tree.specs.declared.lineage.RawHit.{RawHit}
use Rattle.shard_eval.specs.Found.{hit_keys}

-- the key of the hit at a place
pub key_at : (hits : List RawHit) (i : ℕ) (d : RawHit) → get_or (hit_keys hits) i d.key ≡ (get_or hits i d).key
key_at hits i d = get_or-map (λ (hit : RawHit). hit.key) hits i d

pub count : (hits : List RawHit) → length (hit_keys hits) ≡ length hits
count hits = length-map hits (λ (hit : RawHit). hit.key)

-- those that come before a key stand first
pub hits_parted : (hits : List RawHit) (from : DocKey) → IsRanked (hit_keys hits) → IsPartitionedBy (λ (hit : RawHit). is_before hit.key from) hits
hits_parted hits from ranked i j d le here before =
    elim (cases_lt i j) [
      | inl lt ↦
          let rises = ranked_at (hit_keys hits) i j d.key ranked lt (omega (arith, here, count hits)) in
          is_before_trans _ _ from (subst (λ k. is_before k (get_or hits j d).key ≡ true) (key_at hits i d) (subst (λ k. is_before (get_or (hit_keys hits) i d.key) k ≡ true) (key_at hits j d) rises)) before
      | inr ge ↦ subst (λ k. is_before (get_or hits k d).key from ≡ true) (let e : j ≡ i = omega (arith, le, ge) in e) before
    ]

-- and what stands behind them is what does not come before it
pub parted_from : (hits : List RawHit) (from : DocKey) (n : ℕ) → IsRanked (hit_keys hits) → n ≤ length hits
    → IsPartitionPoint (λ (hit : RawHit). is_before hit.key from ≡ true) (λ (hit : RawHit). is_before hit.key from ≡ false) hits n
    → keys_from from (hit_keys hits) ≡ drop n (hit_keys hits)
parted_from [] from zero ranked within parts = refl
parted_from [] from (suc n) ranked within parts = refl
parted_from (hit ∷ hits) from zero ranked within parts = keys_from-here from hit.key (hit_keys hits) ranked (parts.1 0 hit (omega arith) (omega arith))
parted_from (hit ∷ hits) from (suc n) ranked within parts =
    keys_from-before from hit.key (hit_keys hits) (parts.0 0 hit (omega arith) (omega arith))
    ∙ parted_from hits from n ranked.1 (omega (arith, within)) ((λ k d low high. parts.0 (suc k) d (omega arith) (omega (arith, high))), (λ k d low high. parts.1 (suc k) d (omega (arith, low)) (omega (arith, high))))
