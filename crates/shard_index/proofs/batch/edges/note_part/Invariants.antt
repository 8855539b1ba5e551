use Rattle.std.proofs.Common.{◌≡◌, take, length}
use Rattle.shard_index.specs.Notes.{NotesEdges}
use Rattle.shard_index.proofs.batch.edges.note_part.Given as goal

abbrev pub invariant-loop-change : goal.invariant-loop-change
invariant-loop-change l = (length l.notes ≡ length l.initial.notes) × NotesEdges l.table (take l.change-index l.changes) l.initial.notes l.notes
