use Rattle.std.proofs.Common.{◌≡◌, map, take}
use Rattle.shard_eval.specs.Reached.{found_listed}
use Rattle.shard_eval.specs.Resolution.{found_listing, listing_of}
use Rattle.shard_eval.proofs.joins.listed_lists.Given as goal

abbrev pub invariant-loop-listed : goal.invariant-loop-listed
invariant-loop-listed l = map found_listed l.lists ≡ map (found_listing l.type_no) (map listing_of (take l.listed-index l.inner))
