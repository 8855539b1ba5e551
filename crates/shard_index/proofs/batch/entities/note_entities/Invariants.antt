use Rattle.std.proofs.Common.{◌≡◌, take, length}
use Rattle.shard_index.specs.Notes.{NotesEntities}
use Rattle.shard_index.proofs.batch.entities.note_entities.Given as goal

abbrev pub invariant-loop-change : goal.invariant-loop-change
invariant-loop-change l = (length l.notes ≡ length l.initial.notes) × NotesEntities l.table (take l.change-index l.changes) l.initial.notes l.notes
