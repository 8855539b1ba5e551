-- The hits of several parts in rank order.
use Rattle.std.specs.Prelude.{◌≡◌, false, List, [], ◌∷◌, ◌++◌, if◌then◌else◌, map}
use Rattle.std.specs.List.{AllByRecursion, list_any}
use Rattle.std.specs.Ordering.{is_lt}
use Rattle.uni_base.specs.KeySets.{has_key}
use Rattle.uni_base.specs.RankOrder.{doc_cmp}
use Rattle.uni_base.specs.declared.entity.DocKey.{DocKey}
use Rattle.lineage_tree.specs.declared.lineage.RawHit.{RawHit}

abbrev pub keys_of : List RawHit → List DocKey
keys_of hits = map (λ hit. hit.key) hits

-- the hits of all parts, part by part
abbrev pub all_hits : List (List RawHit) → List RawHit
all_hits [] = []
all_hits (part ∷ parts) = part ++ all_hits parts

-- a hit among hits in rank order, before the first that comes after it
abbrev pub place_hit : RawHit → List RawHit → List RawHit
place_hit h [] = h ∷ []
place_hit h (x ∷ xs) = if is_lt (doc_cmp h.key x.key) then h ∷ x ∷ xs else x ∷ place_hit h xs

-- hits in rank order, each with its tree
abbrev pub hits_in_rank_order : List RawHit → List RawHit
hits_in_rank_order [] = []
hits_in_rank_order (h ∷ hs) = place_hit h (hits_in_rank_order hs)

-- no key is in two of the lists
abbrev pub AreApart : List (List DocKey) → Type 0
AreApart [] = Unit {0}
AreApart (keys ∷ lists) = AllByRecursion (λ k. list_any (λ others. has_key others k) lists ≡ false) keys × AreApart lists
