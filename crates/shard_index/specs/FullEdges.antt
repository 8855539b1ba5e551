-- All edges of a table, as changes of what holds none.
use Rattle.std.specs.Prelude.{◌≡◌, ℕ, ◌≤◌, ◌<◌, List, Some, None, get_or}
use Rattle.std.specs.List.{Contains}
use Rattle.uni_table.specs.Changes.{IsEdgeChange}
use Rattle.uni_table.specs.Contents.{Contents, audience_at, edge_at, empty}
use Rattle.uni_table.specs.Ranked.{doc_at}
use Rattle.uni_table.specs.Sources.{source_from}
use Rattle.uni_table.specs.TableState.{TableState}
use Rattle.uni_table.specs.declared.change.EdgeChange.{EdgeChange}
use Rattle.uni_table.specs.declared.graph.numbers.Source.{Source}
use Rattle.uni_table.specs.declared.table.reached.Target.{Target}
use Rattle.shard_index.specs.Batches.{AreAllChanges}
use Rattle.shard_index.specs.Laws.{edge_to}
use Rattle.shard_index.specs.Notes.{NotesEdges}
use Rattle.shard_index.specs.declared.batch.notes.ShardNotes.{ShardNotes}

-- what a table has of an edge of a type and key, where it leads to a target
pub record IsTargetOf (table : Contents) (source : Source) (target : Target) : Type 0 where
  pub audience : audience_at table (edge_to source.type_no source.key target.doc.id) ≡ Some target.audience
  pub doc : doc_at table target.doc.id ≡ Some target.doc

-- the edge of a type and key to a target, as a change of one that was none
abbrev pub change_to : Contents → Source → Target → EdgeChange
change_to table source target = record {
  edge = edge_to source.type_no source.key target.doc.id;
  before = None;
  after = edge_at table (edge_to source.type_no source.key target.doc.id);
  rank_before = None;
  rank_after = Some target.doc.rank;
}

-- the edges of the types and keys from one place up to another are noted, as changes of what holds none
pub record NotesSources (table : TableState) (sources : List Source) (from to : ℕ) (old new : List ShardNotes) : Type 0 where
  pub edges : List EdgeChange
  pub noted : NotesEdges table edges old new
  pub sound : (c : EdgeChange) → Contains edges c → IsEdgeChange empty table.contents c
  pub whole : (c : EdgeChange) (i : ℕ) → IsEdgeChange empty table.contents c → from ≤ i → i < to → get_or sources i (source_from c.edge) ≡ source_from c.edge → Contains edges c

-- all edges of a table are noted of all shards, as changes of what holds none
abbrev pub NotesAll : TableState → List ShardNotes → List ShardNotes → Type 0
NotesAll table old new = (edges : List EdgeChange) × AreAllChanges empty table.contents edges × NotesEdges table edges old new
