use Rattle.std.specs.List.{All}
use Rattle.shard_index.specs.BatchEdges.{AreBlank}
use Rattle.shard_index.proofs.batch.halves.spare_notes.Given as goal

abbrev pub invariant-loop : goal.invariant-loop
invariant-loop l = All (AreBlank l.table) l.spare.items
