use Rattle.std.proofs.Common.{◌≡◌, ◌++◌, map, take}
use Rattle.shard_eval.specs.Found.{found_posting}
use Rattle.shard_eval.specs.Reached.{found_reached}
use Rattle.shard_eval.proofs.reached.read_list.Given as goal

abbrev pub invariant-loop-posting : goal.invariant-loop-posting
invariant-loop-posting l = map found_reached l.reached ≡ map found_reached l.initial.reached ++ map (found_posting l.leaf) (take l.posting-index l.rows)
