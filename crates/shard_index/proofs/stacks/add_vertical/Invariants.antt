use Rattle.std.proofs.Common.{◌≡◌, ◌++◌, map}
use Rattle.std.specs.List.{flat_map, range_with_len}
use Rattle.shard_index.specs.Places.{shard_places}
use Rattle.shard_index.specs.Rows.{stack_rows}
use Rattle.shard_index.specs.Versions.{layers_of, rows_at}
use Rattle.shard_index.proofs.stacks.add_vertical.Given as goal

abbrev pub invariant-loop-shard : goal.invariant-loop-shard
invariant-loop-shard l = map stack_rows (layers_of l.stacks.items) ≡ map stack_rows (layers_of l.initial.stacks.items) ++ map (rows_at l.table.schema l.table.contents) (flat_map (shard_places l.vertical l.declared.replicas) (range_with_len 0 l.shard))
