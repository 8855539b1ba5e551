-- what was passed is of the key
use Rattle.std.proofs.Common.{◌≡◌, ◌+◌, drop, map}
use Rattle.shard_eval.specs.Grouped.{run_length}
use Rattle.shard_eval.specs.Reached.{found_place}
use Rattle.shard_eval.proofs.grouped.run_length.Given as goal

abbrev pub invariant-loop-i : goal.invariant-loop-i
invariant-loop-i l = run_length l.key (map found_place l.places) ≡ l.i + run_length l.key (map found_place (drop l.i l.places))
