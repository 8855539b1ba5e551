-- The edges that a batch changed, which are noted a run at a time.
use Rattle.std.specs.Prelude.{◌≡◌, ℕ, ◌-◌, List, [], length, replicate, take, drop}
use Rattle.std.proofs.Common.{Vec, Global}
use Rattle.uni_table.specs.Changes.{AreEdgeChanges, AreEntityChanges}
use Rattle.uni_table.specs.Contents.{Contents, empty}
use Rattle.uni_table.specs.Sources.{AreSources}
use Rattle.uni_table.specs.TableState.{IsKept, TableState}
use Rattle.uni_table.specs.declared.change.EntityChange.{EntityChange}
use Rattle.shard_index.specs.Batches.{all_shards}
use Rattle.shard_index.specs.FullEdges.{NotesSources}
use Rattle.shard_index.specs.Notes.{AreNoted, NotesEdges, no_notes}
use Rattle.shard_index.specs.declared.batch.batch_edges.BatchEdges.{BatchEdges}
use Rattle.shard_index.specs.declared.batch.batch_edges.BatchEdges.TheVariants.{Whole, Changed}
use Rattle.shard_index.specs.declared.batch.notes.ShardNotes.{ShardNotes}

-- how many there are: types and keys, or changes
abbrev pub run_length : BatchEdges → ℕ
run_length (Whole sources) = length sources.sources
run_length (Changed changes) = length changes

-- they are those that a table's last batch changed: all edges, by type and key, where it held nothing before
abbrev pub AreOfBatch : TableState → BatchEdges → Type 0
AreOfBatch table (Whole sources) = (table.published ≡ empty) × AreSources (length table.schema.types) table.contents sources
AreOfBatch table (Changed changes) = AreEdgeChanges table.published table.contents changes

-- the edges from one place up to another are noted
abbrev pub NotesRun : TableState → BatchEdges → ℕ → ℕ → List ShardNotes → List ShardNotes → Type 0
NotesRun table (Whole sources) from to old new = NotesSources table sources.sources from to old new
NotesRun table (Changed changes) from to old new = NotesEdges table (take (to - from) (drop from changes)) old new

-- the entities that differ between what there was and a table are noted, and no edge
abbrev pub HasEntities : Contents → TableState → List ShardNotes → Type 0
HasEntities old table notes = (entities : List EntityChange) × AreEntityChanges old table.contents entities × AreNoted table entities entities [] notes

-- a table is as all tables are, and was so as its last batch ended
abbrev pub IsKeptThroughout : TableState → Type 0
IsKeptThroughout table = IsKept table.schema table.limits table.contents × IsKept table.schema table.limits table.published

-- nothing is noted of any shard
abbrev pub AreBlank : TableState → Vec ShardNotes Global → Type 0
AreBlank table notes = notes.items ≡ replicate (length (all_shards table.schema)) no_notes
