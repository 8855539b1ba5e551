-- The rows of a shard that an entity or an edge has, by what a table holds of it.
use Rattle.std.specs.Prelude.{◌≡◌, ℕ, Bool, true, false, ◌==◌, ◌&&◌, not, if◌then◌else◌, List, Option, None, Some, map, filter}
use Rattle.std.specs.FinMap as finite
use Rattle.std.specs.List.{list_any}
use Rattle.std.specs.Option.{option_and_then, option_map, option_map_or}
use Rattle.std.specs.Ordering.{nat_cmp, eq_by_cmp}
use Rattle.uni_base.specs.declared.edge.Audience.{Audience}
use Rattle.uni_base.specs.declared.edge.Audience.TheVariants.{Public, Only, Circle}
use Rattle.uni_base.specs.declared.edge.EdgeRef.{EdgeRef}
use Rattle.uni_base.specs.declared.edge.Held.{Held}
use Rattle.uni_base.specs.declared.edge.Key.TheVariants.{Id}
use Rattle.uni_base.specs.declared.entity.Rank.{Rank}
use Rattle.uni_base.specs.EdgeOrder.{key_cmp}
use Rattle.uni_schema.specs.Schema.{Declarations, type_at, source_of, is_index}
use Rattle.uni_schema.specs.declared.schema.TypeDef.{TypeDef}
use Rattle.uni_table.specs.declared.change.EdgeChange.{EdgeChange}
use Rattle.uni_table.specs.declared.change.EntityChange.{EntityChange}
use Rattle.uni_table.specs.declared.command.EdgeRow.{EdgeRow}
use Rattle.uni_table.specs.declared.command.EntityRow.{EntityRow}
use Rattle.uni_table.specs.Contents.{Contents, starts_at}
use Rattle.uni_table.specs.Lists.{held_of, keeps_target, keeps_source}
use Rattle.uni_table.specs.Ranked.{is_of_shard}
use Rattle.uni_table.specs.TableState.{TableState}
use Rattle.layer_stack.specs.declared.place.Place.{Place}
use Rattle.layer_stack.specs.Places.{term_of, place_cmp}
use Rattle.layer_stack.specs.Postings.{PostingChanges, place_of}
use Rattle.forward_data.specs.declared.record.ForwardItem.{ForwardItem}
use Rattle.forward_data.specs.declared.record.RecordKey.{RecordKey}
use Rattle.forward_data.specs.Records.{Records, record_key, record_cmp}
use Rattle.shard_index.specs.Differences.{noting, dropped, added, layer_from}
use Rattle.shard_index.specs.Entities.{EntityChanges}
use Rattle.shard_index.specs.Shards.{item_of}

-- ---- sameness

abbrev pub same_rank : Rank → Rank → Bool
same_rank a b = a.0 == b.0

abbrev pub same_audience : Audience → Audience → Bool
same_audience Public Public = true
same_audience Public Only = false
same_audience Public (Circle n k) = false
same_audience Only Public = false
same_audience Only Only = true
same_audience Only (Circle n k) = false
same_audience (Circle m j) Public = false
same_audience (Circle m j) Only = false
same_audience (Circle m j) (Circle n k) = m == n && eq_by_cmp key_cmp j k

-- ---- entities

-- the rank of an entity with a row, where the row is of a shard of a vertical
abbrev pub rank_within : Declarations → ℕ → ℕ → ℕ → Option EntityRow → Option Rank
rank_within schema vertical shard id row = option_and_then (λ (r : EntityRow). if is_of_shard schema vertical shard (id, r) then Some r.rank else None) row

-- an id with its rank
abbrev pub ranked_row : ℕ → Option Rank → Option (ℕ × Rank)
ranked_row id rank = option_map (λ r. (id, r)) rank

-- changes with what became of the rank of an id
abbrev pub moving : EntityChanges → ℕ → Option Rank → Option Rank → EntityChanges
moving changes id was now = noting changes (dropped nat_cmp same_rank (ranked_row id was) (ranked_row id now)) (added nat_cmp same_rank (ranked_row id was) (ranked_row id now))

-- the layer of the entities of a shard among some changes
abbrev pub shard_entities : Declarations → ℕ → ℕ → List EntityChange → EntityChanges
shard_entities schema vertical shard = layer_from nat_cmp same_rank (λ c. ranked_row c.id (rank_within schema vertical shard c.id c.before)) (λ c. ranked_row c.id (rank_within schema vertical shard c.id c.after))

-- ---- postings

-- changes with what became of a posting
abbrev pub turning : PostingChanges → Option (Place × Audience) → Option (Place × Audience) → PostingChanges
turning changes was now = noting changes (dropped place_cmp same_audience was now) (added place_cmp same_audience was now)

-- whether an edge is an index edge into a shard of a vertical
abbrev pub is_posted : Declarations → ℕ → ℕ → EdgeRef → Bool
is_posted schema vertical shard edge = option_map_or (λ (type_def : TypeDef). is_index type_def.store && keeps_target schema vertical shard type_def edge.target) (type_at schema edge.type_no) false

-- the posting of an edge with a row, at the rank of its target
abbrev pub posting_for : EdgeRef → Option Rank → Option EdgeRow → Option (Place × Audience)
posting_for edge rank row = option_and_then (λ (r : EdgeRow). option_map (λ k. (place_of (term_of edge.type_no edge.key) (record { rank = k; id = edge.target }), r.audience)) rank) row

-- the posting of an edge that changed, before and now
abbrev pub posting_before : EdgeChange → Option (Place × Audience)
posting_before change = posting_for change.edge change.rank_before change.before

abbrev pub posting_now : EdgeChange → Option (Place × Audience)
posting_now change = posting_for change.edge change.rank_after change.after

-- a posting, where an edge is an index edge into a shard of a vertical
abbrev pub if_posted : Declarations → ℕ → ℕ → EdgeRef → Option (Place × Audience) → Option (Place × Audience)
if_posted schema vertical shard edge posting = if is_posted schema vertical shard edge then posting else None

-- the layer of the postings of a shard among some changes, and changes with what became of one more edge
abbrev pub shard_postings : Declarations → ℕ → ℕ → List EdgeChange → PostingChanges
shard_postings schema vertical shard =
    layer_from place_cmp same_audience (λ c. if_posted schema vertical shard c.edge (posting_before c)) (λ c. if_posted schema vertical shard c.edge (posting_now c))

abbrev pub with_change : PostingChanges → EdgeChange → PostingChanges
with_change changes change = turning changes (posting_before change) (posting_now change)

-- ---- records

abbrev pub same_audiences : Option Audience → Option Audience → Bool
same_audiences None None = true
same_audiences None (Some b) = false
same_audiences (Some a) None = false
same_audiences (Some a) (Some b) = same_audience a b

abbrev pub audience_of : Option EdgeRow → Option Audience
audience_of row = option_map (λ (r : EdgeRow). r.audience) row

-- the record of a forward edge from an id, where it is kept in a shard of a vertical
abbrev pub record_from : Declarations → ℕ → ℕ → ℕ → TypeDef → ℕ → Option RecordKey
record_from schema vertical shard number type_def id = if not (is_index type_def.store) && keeps_source schema vertical shard type_def id then Some (record_key number id) else None

-- the record that an edge is in, where it is a forward edge that a shard of a vertical keeps
abbrev pub record_within : Declarations → ℕ → ℕ → EdgeRef → Option RecordKey
record_within schema vertical shard edge =
    option_and_then (λ (type_def : TypeDef). option_and_then (record_from schema vertical shard edge.type_no type_def) (source_of edge.key)) (type_at schema edge.type_no)

-- the record that changes with an edge
abbrev pub changed_record : Declarations → ℕ → ℕ → EdgeChange → Option RecordKey
changed_record schema vertical shard change =
    if same_audiences (audience_of change.before) (audience_of change.after) then None else record_within schema vertical shard change.edge

-- the same of a forward edge that the shard keeps
abbrev pub changed_key : EdgeChange → Option RecordKey
changed_key change =
    if same_audiences (audience_of change.before) (audience_of change.after) then None else option_map (λ id. record_key change.edge.type_no id) (source_of change.edge.key)

-- whether a key is that of a record
abbrev pub is_record : RecordKey → Option RecordKey → Bool
is_record key None = false
is_record key (Some other) = eq_by_cmp record_cmp key other

-- whether a record changes with some edge
abbrev pub is_among : Declarations → ℕ → ℕ → List EdgeChange → RecordKey → Bool
is_among schema vertical shard changes key = list_any (λ c. is_record key (changed_record schema vertical shard c)) changes

-- the edges that a table has of a record
abbrev pub items_of : Contents → RecordKey → List ForwardItem
items_of table key = map item_of (map held_of (filter (λ e. starts_at key.type_no (Id key.id) e.0) table.edges))

-- an edge by its target, with its audience, and what it is in a record
abbrev pub target_row : Held → ℕ × Audience
target_row held = (held.edge.target, held.audience)

abbrev pub row_item : ℕ × Audience → ForwardItem
row_item row = record { target = row.0; audience = row.1 }

-- records with one more as a table has it, if there is one and it is not the last one
abbrev pub replacing_new : Contents → Records → Option RecordKey → Option RecordKey → Records
replacing_new table records last None = records
replacing_new table records last (Some key) = if is_record key last then records else finite.insert records key (items_of table key)

-- the later of two records, if there is one
abbrev pub latest : Option RecordKey → Option RecordKey → Option RecordKey
latest last None = last
latest last (Some key) = if is_record key last then last else Some key

-- the records that change with some edges, each as a table has it, and no others
abbrev pub AreShardRecords : Declarations → ℕ → ℕ → Contents → List EdgeChange → Records → Type 0
AreShardRecords schema vertical shard table changes records =
    (key : RecordKey) → finite.get records key ≡ (if is_among schema vertical shard changes key then Some (items_of table key) else None)

-- those of a table
abbrev pub AreBatchRecords : TableState → ℕ → ℕ → List EdgeChange → Records → Type 0
AreBatchRecords table vertical shard = AreShardRecords table.schema vertical shard table.contents
