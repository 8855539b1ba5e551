-- what was read, and what is left
use Rattle.std.proofs.Common.{◌≡◌, length, map}
use Rattle.layer_base.specs.Layers.{stack_table}
use Rattle.shard_eval.specs.Found.{found_posting, found_term}
use Rattle.shard_eval.specs.Reached.{found_reached}
use Rattle.shard_eval.proofs.ReachedLists.{HasRead}
use Rattle.shard_eval.proofs.reached.read_term.Given as goal

abbrev pub invariant-loop-posting : goal.invariant-loop-posting
invariant-loop-posting l = record {
  before : l.before ≡ length l.initial.reached;
  read : HasRead (map found_reached l.initial.reached) l.limit (map found_reached l.reached) (map (found_posting l.leaf) l.cursor) (found_term (stack_table l.stack.0) l.leaf);
}

abbrev pub decreases-loop-posting : goal.decreases-loop-posting
decreases-loop-posting l = length l.cursor
