use Rattle.std.proofs.Common.{◌≡◌, map, take}
use Rattle.shard_eval.specs.Reached.{found_place, found_reached}
use Rattle.shard_eval.proofs.grouped.places_of.Given as goal

abbrev pub invariant-loop-reached : goal.invariant-loop-reached
invariant-loop-reached l = map found_place l.places ≡ map found_reached (take l.reached-index l.rows)
