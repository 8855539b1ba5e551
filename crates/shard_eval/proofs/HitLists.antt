-- Hits as what is found.
use Rattle.std.proofs.Common.{◌≡◌, ◌<◌, true, false, cond, List, [], ◌∷◌, None, Some, length, get_or, refl, sym, ◌∙◌, ap, subst, arith, is_ge}
use Rattle.std.specs.declared.cmp.Ordering.{Ordering}
use Rattle.std.specs.declared.cmp.Ordering.TheVariants.{Less, Equal, Greater}
use Rattle.uni_base.specs.declared.entity.DocKey.{DocKey}
use Rattle.uni_base.specs.Cursors.{is_before, is_less, IsRanked}
use Rattle.uni_base.specs.RankOrder.{doc_cmp}
use Rattle.lineage_tree.specs.declared.lineage.RawHit.{RawHit}
use Rattle.shard_eval.specs.Found.{Found, first_at, found_all, found_from, found_keys, found_of, hit_keys, is_at, tree_at, KeepsLater}
use Rattle.shard_eval.proofs.FoundLists.{all_stay, keeps_from, not_at_before}

pub keys_all : (hits : List RawHit) → found_keys (found_all hits) ≡ hit_keys hits
keys_all [] = refl
keys_all (hit ∷ hits) = ap (λ (ks : List DocKey). hit.key ∷ ks) (keys_all hits)

not_less : (o : Ordering) → is_ge o ≡ true → is_less o ≡ false
not_less Less e = cc
not_less Equal e = refl
not_less Greater e = refl

-- a key that is not less does not come before
pub from_ge : (a b : DocKey) → is_ge (doc_cmp a b) ≡ true → is_before a b ≡ false
from_ge a b e = not_less (doc_cmp a b) e

-- where the first hit does not come before a key, none does
pub hits_stay : (hits : List RawHit) (key : DocKey) (hit : RawHit) → 0 < length hits → hit ≡ get_or hits 0 hit → IsRanked (hit_keys hits) → is_before hit.key key ≡ false → found_from key (found_all hits) ≡ found_all hits
hits_stay [] key hit some first ranked here = absurd (omega (arith, some))
hits_stay (h ∷ hits) key hit some first ranked here =
    all_stay key (found_of h) (found_all hits) (subst IsRanked (sym (keys_all (h ∷ hits))) ranked) (subst (λ (x : RawHit). is_before x.key key ≡ false) first here)

-- the tree of the first hit, if it is at a key
pub first_hit : (hits : List RawHit) (key : DocKey) (hit : RawHit) → 0 < length hits → hit ≡ get_or hits 0 hit → first_at key (found_all hits) ≡ cond (is_at key (found_of hit)) (Some (found_of hit).tree) None
first_hit [] key hit some first = absurd (omega (arith, some))
first_hit (h ∷ hits) key hit some first = ap (λ (x : RawHit). cond (is_at key (found_of x)) (Some (found_of x).tree) None) (sym first)

pub no_hit : (hits : List RawHit) (key : DocKey) → length hits ≡ 0 → first_at key (found_all hits) ≡ None
no_hit [] key none = refl
no_hit (h ∷ hits) key none = absurd (omega (arith, none))

-- without the first of what is found from a key on, what comes after the key is read as before
pub keeps_rest : (key : DocKey) (fs : List Found) (f : Found) (rest : List Found) → IsRanked (found_keys fs) → found_from key fs ≡ f ∷ rest → is_at key f ≡ true → KeepsLater key fs rest
keeps_rest key fs f rest ranked whole at =
    let keeps = subst (KeepsLater key fs) whole (keeps_from key fs ranked) in
    record {
      ranked = keeps.ranked.1;
      later = λ k lt. ap (λ b. cond b (Some f.tree) (tree_at rest k)) (sym (not_at_before f key k at lt)) ∙ keeps.later k lt;
    }
