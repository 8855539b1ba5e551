-- The rows of a shard of a table.
use Rattle.std.specs.Prelude.{ℕ, if◌then◌else◌, List, Option, None, map, filter}
use Rattle.std.specs.List.{filter_map}
use Rattle.std.specs.Option.{option_map}
use Rattle.uni_base.specs.declared.edge.Audience.{Audience}
use Rattle.uni_base.specs.declared.edge.Held.{Held}
use Rattle.uni_base.specs.declared.edge.Key.TheVariants.{Id}
use Rattle.uni_base.specs.declared.entity.DocKey.{DocKey}
use Rattle.uni_base.specs.declared.entity.Rank.{Rank}
use Rattle.uni_schema.specs.Schema.{Declarations, source_of}
use Rattle.uni_table.specs.Contents.{Contents, starts_at}
use Rattle.uni_table.specs.Lists.{shard_edges}
use Rattle.uni_table.specs.Ranked.{ranked, doc_at}
use Rattle.uni_table.specs.Shards.{is_indexed}
use Rattle.uni_table.specs.TableState.{TableState}
use Rattle.layer_base.specs.Layers.{from_log}
use Rattle.posting_lists.specs.declared.posting.Posting.{Posting}
use Rattle.layer_stack.specs.declared.place.Place.{Place}
use Rattle.layer_stack.specs.declared.place.TermKey.{TermKey}
use Rattle.layer_stack.specs.Places.{term_of}
use Rattle.layer_stack.specs.Postings.{PostingTable, place_of}
use Rattle.forward_data.specs.declared.record.ForwardItem.{ForwardItem}
use Rattle.forward_data.specs.declared.record.RecordKey.{RecordKey}
use Rattle.forward_data.specs.Records.{record_key}
use Rattle.shard_index.specs.Rows.{ShardRows}

-- an entity with its rank
abbrev pub entity_row : DocKey → ℕ × Rank
entity_row doc = (doc.id, doc.rank)

-- the posting of an index edge: under its type and key, at the place of its target in rank order
abbrev pub posting_row : Declarations → Contents → Held → Option (Place × Audience)
posting_row schema table held =
    if is_indexed schema held then option_map (λ doc. (place_of (term_of held.edge.type_no held.edge.key) doc, held.audience)) (doc_at table held.edge.target) else None

-- a posting under a term, as a row
abbrev pub row_of : TermKey × Posting → Place × Audience
row_of p = (place_of p.0 p.1.key, p.1.audience)

-- an edge as an item of its record
abbrev pub item_of : Held → ForwardItem
item_of held = record { target = held.edge.target; audience = held.audience }

-- the edges of a type that start at an entity, among some edges
abbrev pub items_from : List Held → RecordKey → List ForwardItem
items_from held key = map item_of (filter (λ h. starts_at key.type_no (Id key.id) h.edge) held)

-- which record a forward edge is in: that of its type and of the entity that it starts at
abbrev pub record_of_edge : Declarations → Held → Option RecordKey
record_of_edge schema held = if is_indexed schema held then None else option_map (λ id. record_key held.edge.type_no id) (source_of held.edge.key)

-- that record, among some edges
abbrev pub record_row : Declarations → List Held → Held → Option (RecordKey × List ForwardItem)
record_row schema all held = option_map (λ key. (key, items_from all key)) (record_of_edge schema held)

-- the rows of a shard of a vertical: its entities, each with its rank; of the edges that the shard keeps,
-- the index edges as postings, and the forward edges in their records, by target
unfoldable pub shard_rows : Declarations → Contents → ℕ → ℕ → ShardRows
shard_rows schema table vertical shard =
    let held = shard_edges schema table vertical shard in
    record {
      entities = from_log (map entity_row (ranked schema table vertical shard));
      postings = from_log (filter_map (posting_row schema table) held);
      records = from_log (filter_map (record_row schema held) held);
    }

-- the same of a table with its schema
abbrev pub table_rows : TableState → ℕ → ℕ → ShardRows
table_rows table vertical shard = shard_rows table.schema table.contents vertical shard

-- the postings of the index edges among some edges of a table
abbrev pub table_postings : TableState → List Held → PostingTable
table_postings table held = from_log (filter_map (posting_row table.schema table.contents) held)
