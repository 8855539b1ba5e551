use Rattle.std.proofs.Common.{◌≡◌, length}
use Rattle.shard_index.specs.FullEdges.{NotesSources}
use Rattle.shard_index.proofs.batch.sources.note_sources.Given as goal

abbrev pub invariant-loop-at : goal.invariant-loop-at
invariant-loop-at l = record {
  count : length l.notes ≡ length l.initial.notes;
  read : NotesSources l.table l.sources.sources l.from l.at l.initial.notes l.notes;
}
