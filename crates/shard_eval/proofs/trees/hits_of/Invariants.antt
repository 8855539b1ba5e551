use Rattle.std.proofs.Common.{◌≡◌, map}
use Rattle.shard_eval.specs.Found.{found_all}
use Rattle.shard_eval.specs.Rows.{found_rows, row_of}
use Rattle.shard_eval.proofs.trees.hits_of.Given as goal

abbrev pub invariant-loop-row : goal.invariant-loop-row
invariant-loop-row l = found_all l.hits ≡ found_rows l.kind (map row_of l.yielded)
