-- What is noted of each shard as the changes of a batch are gone through.
use Rattle.std.specs.Prelude.{◌≡◌, ℕ, true, ◌==◌, ◌&&◌, if◌then◌else◌, List, [], ◌∷◌, ◌++◌, Option, None, Some}
use Rattle.std.specs.FinMap as finite
use Rattle.std.specs.List.{AllZip}
use Rattle.uni_base.specs.declared.entity.Rank.{Rank}
use Rattle.uni_schema.specs.declared.schema.Store.{Store}
use Rattle.uni_schema.specs.declared.schema.Store.TheVariants.{Index, Forward}
use Rattle.uni_table.specs.Contents.{Contents}
use Rattle.uni_table.specs.TableState.{TableState}
use Rattle.uni_table.specs.declared.change.EdgeChange.{EdgeChange}
use Rattle.uni_table.specs.declared.change.EntityChange.{EntityChange}
use Rattle.uni_table.specs.declared.command.EntityRow.{EntityRow}
use Rattle.layer_base.specs.Layers.{put_all}
use Rattle.layer_base.specs.Lookups.{either}
use Rattle.layer_stack.specs.Postings.{joined, no_changes}
use Rattle.forward_data.specs.declared.record.RecordKey.{RecordKey}
use Rattle.shard_index.specs.declared.batch.notes.ShardNotes.{ShardNotes}
use Rattle.shard_index.specs.Batches.{ShardPlace, all_shards}
use Rattle.shard_index.specs.ChangedRows.{same_rank, shard_entities, with_change, shard_postings, is_among, changed_key, replacing_new, latest, AreBatchRecords}
use Rattle.shard_index.specs.Entities.{no_entities, removing, ranking}
use Rattle.shard_index.specs.Rows.{ShardChanges, layer_of}

abbrev pub no_notes : ShardNotes
no_notes = record { entities = no_entities; postings = no_changes; records = finite.empty; last = None }

-- with one more entity removed, and with one more put
abbrev pub with_removal : ShardNotes → ℕ → ShardNotes
with_removal notes id = record notes { entities = removing notes.entities id }

abbrev pub with_put : ShardNotes → ℕ → Rank → ShardNotes
with_put notes id rank = record notes { entities = ranking notes.entities id rank }

-- with the change of one more edge, which the shard keeps in an index or in a record
abbrev pub with_edge : Contents → Store → EdgeChange → ShardNotes → ShardNotes
with_edge table Index change notes = record notes { postings = with_change notes.postings change }
with_edge table Forward change notes = record notes { records = replacing_new table notes.records notes.last (changed_key change); last = latest notes.last (changed_key change) }

-- notes, and what was noted of edges alone after them
abbrev pub with_notes : ShardNotes → ShardNotes → ShardNotes
with_notes old later = record {
  entities = old.entities;
  postings = joined old.postings later.postings;
  records = put_all (finite.entries later.records) old.records;
  last = either later.last old.last;
}

-- the same of each shard
abbrev pub with_all : List ShardNotes → List ShardNotes → List ShardNotes
with_all [] later = []
with_all (n ∷ old) [] = n ∷ old
with_all (n ∷ old) (m ∷ later) = with_notes n m ∷ with_all old later

-- the layer of what was noted
abbrev pub noted_layer : ShardNotes → ShardChanges
noted_layer notes = layer_of notes.entities notes.postings notes.records

-- the row that an entity had, where it is none of that vertical now
abbrev pub row_left : Option EntityRow → Option EntityRow → Option EntityRow
row_left None now = None
row_left (Some was) None = Some was
row_left (Some was) (Some now) = if was.vertical == now.vertical then None else Some was

-- the row that an entity has, where it was none of that vertical with that rank
abbrev pub row_taken : Option EntityRow → Option EntityRow → Option EntityRow
row_taken was None = None
row_taken None (Some now) = Some now
row_taken (Some was) (Some now) = if was.vertical == now.vertical && same_rank was.rank now.rank then None else Some now

-- the parts of a shard's layer are those of some changes: the removals of some entities, the puts of some, and
-- the edges; and the record that was replaced last is among those that change
pub record IsNoted (table : TableState) (removed placed : List EntityChange) (edges : List EdgeChange) (place : ShardPlace) (notes : ShardNotes) : Type 0 where
  pub removals : notes.entities.deletes ≡ (shard_entities table.schema place.vertical place.shard removed).deletes
  pub puts : notes.entities.puts ≡ (shard_entities table.schema place.vertical place.shard placed).puts
  pub postings : notes.postings ≡ shard_postings table.schema place.vertical place.shard edges
  pub records : AreBatchRecords table place.vertical place.shard edges notes.records
  pub last : (key : RecordKey) → notes.last ≡ Some key → is_among table.schema place.vertical place.shard edges key ≡ true

-- the same of all shards
abbrev pub AreNoted : TableState → List EntityChange → List EntityChange → List EdgeChange → List ShardNotes → Type 0
AreNoted table removed placed edges notes = AllZip (IsNoted table removed placed edges) (all_shards table.schema) notes

-- more changes are noted of all shards: removals of entities, puts of entities, both, and changes of edges
abbrev pub NotesRemovals : TableState → List EntityChange → List ShardNotes → List ShardNotes → Type 0
NotesRemovals table more old new =
    (removed placed : List EntityChange) (edges : List EdgeChange) → AreNoted table removed placed edges old → AreNoted table (removed ++ more) placed edges new

abbrev pub NotesPuts : TableState → List EntityChange → List ShardNotes → List ShardNotes → Type 0
NotesPuts table more old new =
    (removed placed : List EntityChange) (edges : List EdgeChange) → AreNoted table removed placed edges old → AreNoted table removed (placed ++ more) edges new

abbrev pub NotesEntities : TableState → List EntityChange → List ShardNotes → List ShardNotes → Type 0
NotesEntities table more old new =
    (removed placed : List EntityChange) (edges : List EdgeChange) → AreNoted table removed placed edges old → AreNoted table (removed ++ more) (placed ++ more) edges new

abbrev pub NotesEdges : TableState → List EdgeChange → List ShardNotes → List ShardNotes → Type 0
NotesEdges table more old new =
    (removed placed : List EntityChange) (edges : List EdgeChange) → AreNoted table removed placed edges old → AreNoted table removed placed (edges ++ more) new
