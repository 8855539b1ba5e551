use Rattle.std.proofs.Common.{◌≡◌, map, take}
use Rattle.shard_eval.specs.Rows.{row_of, rows_of}
use Rattle.shard_eval.proofs.trees.bare_rows.Given as goal

abbrev pub invariant-loop-key : goal.invariant-loop-key
invariant-loop-key l = map row_of l.rows.items ≡ rows_of (take l.key-index l.keys)
