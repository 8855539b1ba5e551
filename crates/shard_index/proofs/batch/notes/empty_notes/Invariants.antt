use Rattle.std.proofs.Common.{◌≡◌, replicate}
use Rattle.shard_index.specs.Notes.{no_notes}
use Rattle.shard_index.proofs.batch.notes.empty_notes.Given as goal

abbrev pub invariant-loop : goal.invariant-loop
invariant-loop l = l.notes.items ≡ replicate l.counter no_notes
