use Rattle.std.proofs.Common.{◌≡◌, ◌++◌, map, length}
use Rattle.layer_base.specs.Layers.{stack_table}
use Rattle.shard_eval.specs.Found.{found_all, found_posting, found_term}
use Rattle.shard_eval.specs.Kept.{IsWithin}
use Rattle.shard_eval.proofs.terms.term_hits.Given as goal

abbrev pub invariant-loop-posting : goal.invariant-loop-posting
invariant-loop-posting l = (found_all l.hits ++ map (found_posting l.leaf) l.cursor ≡ found_term (stack_table l.stack.0) l.leaf) × IsWithin (length l.hits) l.limit

abbrev pub decreases-loop-posting : goal.decreases-loop-posting
decreases-loop-posting l = length l.cursor
