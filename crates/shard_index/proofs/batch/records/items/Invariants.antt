use Rattle.std.proofs.Common.{◌≡◌, take, map}
use Rattle.shard_index.specs.ChangedRows.{row_item}
use Rattle.shard_index.proofs.batch.records.items.Given as goal

abbrev pub invariant-loop-target : goal.invariant-loop-target
invariant-loop-target l = l.items ≡ map row_item (take l.target-index l.rows)
