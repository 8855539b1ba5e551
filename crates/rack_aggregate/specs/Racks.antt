-- What a job gives for neighbouring shards, and the first hits of all of them.
use Rattle.std.specs.Prelude.{◌≡◌, true, false, ℕ, ◌+◌, ◌-◌, ◌*◌, ◌≤◌, ◌<◌, List, IfOk, length, min, take}
use Rattle.std.specs.List.{flat_map}
use Rattle.std.specs.declared.result.Result.{Result}
use Rattle.std.specs.declared.result.Result.TheVariants.{Ok}
use Rattle.uni_base.specs.declared.entity.DocKey.{DocKey}
use Rattle.uni_base.specs.Cursors.{IsRanked}
use Rattle.uni_base.specs.KeySets.{has_key}
use Rattle.uni_table.specs.Ranked.{in_rank_order}
use Rattle.lineage_tree.specs.declared.lineage.RawHit.{RawHit}
use Rattle.rack_aggregate.specs.Merged.{all_hits, hits_in_rank_order, keys_of}
use Rattle.rack_aggregate.specs.Runs.{GivesRun}

-- no key is in both lists
abbrev pub ShareNone : List DocKey → List DocKey → Type 0
ShareNone xs ys = (k : DocKey) → has_key xs k ≡ true → has_key ys k ≡ false

-- what a job gives for so many shards from a number on can be merged: the hits of each are in rank order, and
-- no key is in two of them
pub record CanMerge {E : Type 0} (post : ℕ → Result (List RawHit) E → Type 0) (from count : ℕ) : Type 0 where
  pub ranked : (i : ℕ) (hits : List RawHit) → from ≤ i → i < from + count → post i (Ok hits) → IsRanked (keys_of hits)
  pub apart : (i j : ℕ) (xs ys : List RawHit) → from ≤ i → i < j → j < from + count → post i (Ok xs) → post j (Ok ys) → ShareNone (keys_of xs) (keys_of ys)

-- hits are the first in rank order, as many as a limit says, of all that a job gives for so many shards from a
-- number on
pub record AreFirstOf {E : Type 0} (post : ℕ → Result (List RawHit) E → Type 0) (from count limit : ℕ) (hits : List RawHit) : Type 0 where
  pub parts : List (List RawHit)
  pub all : length parts ≡ count
  pub given : GivesRun post from parts
  pub first : hits ≡ take limit (hits_in_rank_order (all_hits parts))
  pub keys : keys_of hits ≡ take limit (in_rank_order (flat_map keys_of parts))

-- so many racks hold so many shards, eight in each but the last, and none is empty
pub record AreRacks (shards racks : ℕ) : Type 0 where
  pub hold : shards ≤ racks * 8
  pub full : racks * 8 < shards + 8

-- how many of so many shards a rack has by its number: eight, or what is left
abbrev pub rack_size : ℕ → ℕ → ℕ
rack_size shards rack = min 8 (shards - rack * 8)

-- the hits of a rack are the first of those of its shards
abbrev pub GivesRack : {E : Type 0} → (ℕ → Result (List RawHit) E → Type 0) → ℕ → ℕ → ℕ → Result (List RawHit) E → Type 0
GivesRack post shards limit rack result = IfOk result (AreFirstOf post (rack * 8) (rack_size shards rack) limit)
