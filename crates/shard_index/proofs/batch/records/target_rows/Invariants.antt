use Rattle.std.proofs.Common.{◌≡◌, take, map}
use Rattle.shard_index.specs.ChangedRows.{target_row}
use Rattle.shard_index.proofs.batch.records.target_rows.Given as goal

abbrev pub invariant-loop-edge : goal.invariant-loop-edge
invariant-loop-edge l = l.rows.items ≡ map target_row (take l.edge-index l.held)
