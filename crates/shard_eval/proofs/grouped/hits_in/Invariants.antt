-- the hits so far, and those of what is left
use Rattle.std.proofs.Common.{◌≡◌, ◌++◌, ◌≤◌, ◌-◌, drop, length, map}
use Rattle.shard_eval.specs.Found.{found_all}
use Rattle.shard_eval.specs.Grouped.{grouped, Rises}
use Rattle.shard_eval.specs.Kept.{IsWithin}
use Rattle.shard_eval.specs.Reached.{found_place}
use Rattle.shard_eval.proofs.grouped.hits_in.Given as goal

abbrev pub invariant-loop-from : goal.invariant-loop-from
invariant-loop-from l = record {
  fits : l.from ≤ length l.places;
  whole : found_all l.hits ++ grouped (map found_place (drop l.from l.places)) ≡ grouped (map found_place l.places);
  rises : Rises (map found_place (drop l.from l.places));
  within : IsWithin (length l.hits) l.limit;
}

abbrev pub decreases-loop-from : goal.decreases-loop-from
decreases-loop-from l = length l.places - l.from
