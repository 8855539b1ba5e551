-- The rows of a shard, and what a stack of layers stands for.
use Rattle.std.specs.Prelude.{ℕ, Bool, false, ◌+◌, List, [], ◌∷◌, map, take, drop, is_some}
use Rattle.std.specs.Option.{unwrap_or, option_map_or}
use Rattle.std.specs.FinMap as finite
use Rattle.uni_base.specs.declared.edge.EdgeRef.{EdgeRef}
use Rattle.layer_base.specs.Layers.{layer_over as table_over, stack_table}
use Rattle.posting_lists.specs.declared.posting.Posting.{Posting}
use Rattle.layer_stack.specs.declared.place.TermKey.{TermKey}
use Rattle.layer_stack.specs.Places.{term_of}
use Rattle.layer_stack.specs.Postings.{PostingTable, PostingChanges, no_changes as no_postings, place_of, postings_of, entries_of as posting_entries}
use Rattle.forward_data.specs.declared.record.ForwardItem.{ForwardItem}
use Rattle.forward_data.specs.declared.record.RecordKey.{RecordKey}
use Rattle.forward_data.specs.Records.{Records, records_over}
use Rattle.shard_index.specs.Entities.{EntityTable, EntityChanges, no_entities, entity_entries}

-- the rows of a shard: its entities with their ranks, the postings of its index edges, and its forward
-- records
pub record ShardRows : Type 0 where
  pub entities : EntityTable
  pub postings : PostingTable
  pub records : Records

-- what a layer changes of each
pub record ShardChanges : Type 0 where
  pub entities : EntityChanges
  pub postings : PostingChanges
  pub records : Records

-- a layer of three parts
abbrev pub layer_of : EntityChanges → PostingChanges → Records → ShardChanges
layer_of entities postings records = record { entities = entities; postings = postings; records = records }

-- no rows
abbrev pub no_rows : ShardRows
no_rows = record { entities = finite.empty; postings = finite.empty; records = finite.empty }

-- the layer that changes nothing
abbrev pub empty_layer : ShardChanges
empty_layer = record { entities = no_entities; postings = no_postings; records = finite.empty }

-- rows with a layer over them
unfoldable pub layer_over : ShardRows → ShardChanges → ShardRows
layer_over rows layer = record {
  entities = table_over rows.entities layer.entities;
  postings = table_over rows.postings layer.postings;
  records = records_over rows.records layer.records;
}

-- rows with layers over them, from the oldest to the newest
abbrev pub stack_over : ShardRows → List ShardChanges → ShardRows
stack_over rows [] = rows
stack_over rows (layer ∷ layers) = stack_over (layer_over rows layer) layers

-- the rows that a stack of layers stands for
abbrev pub stack_rows : List ShardChanges → ShardRows
stack_rows = stack_over no_rows

-- the layers of each part
abbrev pub entity_layers : List ShardChanges → List EntityChanges
entity_layers layers = map (λ layer. layer.entities) layers

abbrev pub posting_layers : List ShardChanges → List PostingChanges
posting_layers layers = map (λ layer. layer.postings) layers

abbrev pub record_layers : List ShardChanges → List Records
record_layers layers = map (λ layer. layer.records) layers

-- the entities that the first layers stand for, and those of a stack whose first layers one replaces
abbrev pub front_entities : ℕ → List ShardChanges → EntityTable
front_entities count layers = stack_table (take count (entity_layers layers))

abbrev pub entities_behind : EntityChanges → ℕ → List ShardChanges → EntityTable
entities_behind front count layers = stack_table (front ∷ drop count (entity_layers layers))

-- the number of entries of a layer: removals and puts of entities and of postings, and records
abbrev pub entries : ShardChanges → ℕ
entries layer = entity_entries layer.entities + posting_entries layer.postings + finite.len layer.records

-- ---- what is read of rows

-- the postings of a term, in rank order
abbrev pub term_postings : ShardRows → TermKey → List Posting
term_postings rows term = postings_of term rows.postings

-- the record at a key, empty where there is none
abbrev pub record_at : ShardRows → RecordKey → List ForwardItem
record_at rows key = unwrap_or (finite.get rows.records key) []

-- whether there is the posting of an index edge: under its type and key, at the place of its target in
-- rank order
abbrev pub has_edge : ShardRows → EdgeRef → Bool
has_edge rows edge =
    option_map_or (λ rank. is_some (finite.get rows.postings (place_of (term_of edge.type_no edge.key) (record { rank = rank; id = edge.target })))) (finite.get rows.entities edge.target) false
