use Rattle.std.proofs.Common.{◌≡◌, length, map, take}
use Rattle.shard_index.specs.FullEdges.{change_to}
use Rattle.shard_index.specs.Notes.{NotesEdges}
use Rattle.shard_index.proofs.batch.sources.note_source.Given as goal

abbrev pub invariant-loop-target : goal.invariant-loop-target
invariant-loop-target l = (length l.notes ≡ length l.initial.notes) × NotesEdges l.table (map (change_to l.table.contents l.source) (take l.target-index l.targets)) l.initial.notes l.notes
