use Rattle.std.proofs.Common.{◌≡◌, map, take}
use Rattle.shard_eval.specs.Grouped.{firsts}
use Rattle.shard_eval.specs.Reached.{found_listed, found_reached}
use Rattle.shard_eval.proofs.reached.reached_in.Given as goal

abbrev pub invariant-loop-list : goal.invariant-loop-list
invariant-loop-list l = map found_reached l.reached ≡ firsts l.limit (map found_listed (take l.list-index l.lists))
