use Rattle.std.proofs.Common.{◌≡◌, map, take}
use Rattle.shard_index.specs.Places.{places_from}
use Rattle.shard_index.specs.Rows.{stack_rows}
use Rattle.shard_index.specs.Versions.{layers_of, rows_at}
use Rattle.shard_index.proofs.stacks.table_stacks.Given as goal

abbrev pub invariant-loop-vertical : goal.invariant-loop-vertical
invariant-loop-vertical l = map stack_rows (layers_of l.stacks.items) ≡ map (rows_at l.table.schema l.table.contents) (places_from 0 (take l.vertical l.table.schema.verticals))
