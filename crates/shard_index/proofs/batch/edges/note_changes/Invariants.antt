use Rattle.std.proofs.Common.{◌≡◌, ◌≤◌, ◌-◌, take, drop, length}
use Rattle.shard_index.specs.Notes.{NotesEdges}
use Rattle.shard_index.proofs.batch.edges.note_changes.Given as goal

abbrev pub invariant-loop-at : goal.invariant-loop-at
invariant-loop-at l = record {
  fits : (l.from ≤ l.at) × (l.at ≤ l.to);
  count : length l.notes ≡ length l.initial.notes;
  noted : NotesEdges l.table (take (l.at - l.from) (drop l.from l.changes)) l.initial.notes l.notes;
}

abbrev pub decreases-loop-at : goal.decreases-loop-at
decreases-loop-at l = l.to - l.at
