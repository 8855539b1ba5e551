-- What the rows of a shard have, one by one, of a table that keeps what tables keep.
use Rattle.std.specs.Prelude.{◌≡◌, ◌==◌, ◌&&◌, ℕ, Bool, true, false, if◌then◌else◌, List, Option, Some, None, map, filter, [], ◌∷◌, ◌++◌, take, drop}
use Rattle.std.specs.List.{filter_map}
use Rattle.std.specs.Option.{option_and_then, option_map, option_map_or}
use Rattle.std.specs.FinMap as finite
use Rattle.uni_base.specs.declared.edge.EdgeRef.{EdgeRef}
use Rattle.uni_base.specs.declared.edge.Key.{Key}
use Rattle.uni_base.specs.declared.edge.Key.TheVariants.{Id}
use Rattle.uni_base.specs.declared.entity.DocKey.{DocKey}
use Rattle.uni_base.specs.declared.entity.Rank.{Rank}
use Rattle.uni_base.specs.declared.limits.Limits.{Limits}
use Rattle.std.specs.Ordering.{eq_by_cmp}
use Rattle.uni_base.specs.declared.edge.Audience.{Audience}
use Rattle.uni_schema.specs.Schema.{Declarations, type_at, shard_of, is_index}
use Rattle.uni_table.specs.Changes.{rank_at}
use Rattle.uni_table.specs.declared.command.EntityRow.{EntityRow}
use Rattle.uni_table.specs.Contents.{Contents, empty, entity_at, edge_at, audience_at, starts_at, has_edge as table_has_edge}
use Rattle.uni_table.specs.Lists.{held_of}
use Rattle.uni_table.specs.Ranked.{is_of_shard, ranked}
use Rattle.uni_table.specs.Shards.{is_forward_type}
use Rattle.uni_table.specs.TableState.{IsKept}
use Rattle.posting_lists.specs.declared.posting.Posting.{Posting}
use Rattle.layer_stack.specs.declared.place.Place.{Place}
use Rattle.layer_stack.specs.Places.{term_of, place_cmp}
use Rattle.forward_data.specs.declared.record.ForwardItem.{ForwardItem}
use Rattle.forward_data.specs.declared.record.RecordKey.{RecordKey}
use Rattle.forward_data.specs.Records.{record_key, left_by}
use Rattle.shard_index.specs.ChangedRows.{if_posted, posting_for, items_of}
use Rattle.shard_index.specs.Rows.{ShardRows, ShardChanges, no_rows, empty_layer, layer_over, stack_over, stack_rows, has_edge, term_postings, record_at}
use Rattle.shard_index.specs.Shards.{item_of, shard_rows}

-- the rank of an id, where it is that of an entity of the shard
abbrev pub rank_in_shard : Declarations → Contents → ℕ → ℕ → ℕ → Option Rank
rank_in_shard schema table vertical shard id = option_and_then (λ (row : EntityRow). if is_of_shard schema vertical shard (id, row) then Some row.rank else None) (entity_at table id)

-- the edge of a type and key to a target
abbrev pub edge_to : ℕ → Key → ℕ → EdgeRef
edge_to number key target = record { type_no = number; key = key; target = target }

-- whether a type is an index type whose edges lead to a vertical
abbrev pub leads_to : Declarations → ℕ → ℕ → Bool
leads_to schema vertical number = option_map_or (λ type_def. is_index type_def.store && type_def.target == vertical) (type_at schema number) false

-- the posting of an entity under a type and key, where the table has the edge to it
abbrev pub posting_to : Contents → ℕ → Key → DocKey → Option Posting
posting_to table number key doc = option_map (λ audience. record { key = doc; audience = audience }) (audience_at table (edge_to number key doc.id))

-- a posting at a place, if it is the one that stands there
abbrev pub audience_there : Place → Option (Place × Audience) → Option Audience
audience_there place posting = option_and_then (λ (p : Place × Audience). if eq_by_cmp place_cmp place p.0 then Some p.1 else None) posting

-- the audience at a place: that of the edge of its type and key to its id, where that is an index edge into the shard
-- and the place has the rank of its target
abbrev pub audience_in_shard : Declarations → Contents → ℕ → ℕ → Place → Option Audience
audience_in_shard schema table vertical shard place =
    let edge = edge_to place.term.type_no place.term.key place.key.id in
    audience_there place (if_posted schema vertical shard edge (posting_for edge (rank_at table edge.target) (edge_at table edge)))

-- the record at a key: the edges of its type that start at its entity, where there are any, the type is a forward type
-- from the vertical, and the entity is of the shard
abbrev pub record_in_shard : Declarations → Contents → ℕ → ℕ → RecordKey → Option (List ForwardItem)
record_in_shard schema table vertical shard key =
    if is_forward_type schema vertical key.type_no && (shard_of schema vertical key.id == shard) then left_by (items_of table key) else None

-- each entity of the shard has its rank, and no other id has one; of the index edges into the shard there
-- are those that the table has; the postings of a term are the entities of the shard to which the table has
-- the edge, in rank order, each with its audience; and the record of a type and an entity of the shard has
-- exactly the edges of that type that start there, in the order of their targets. And whatever place or key is asked
-- for, there is nothing else: no posting of an edge that is none of the shard's, and no other record
pub record RowsAreExact : Type 0 where
  pub ranks : (schema : Declarations) (limits : Limits) (table : Contents) (vertical shard id : ℕ) → IsKept schema limits table
      → finite.get (shard_rows schema table vertical shard).entities id ≡ rank_in_shard schema table vertical shard id
  pub edges : (schema : Declarations) (limits : Limits) (table : Contents) (vertical shard number : ℕ) (key : Key) (target : ℕ) → IsKept schema limits table → leads_to schema vertical number ≡ true → shard_of schema vertical target ≡ shard
      → has_edge (shard_rows schema table vertical shard) (edge_to number key target) ≡ table_has_edge table (edge_to number key target)
  pub postings : (schema : Declarations) (limits : Limits) (table : Contents) (vertical shard number : ℕ) (key : Key) → IsKept schema limits table → leads_to schema vertical number ≡ true
      → term_postings (shard_rows schema table vertical shard) (term_of number key) ≡ filter_map (posting_to table number key) (ranked schema table vertical shard)
  pub records : (schema : Declarations) (table : Contents) (vertical shard number id : ℕ) → is_forward_type schema vertical number ≡ true → shard_of schema vertical id ≡ shard
      → record_at (shard_rows schema table vertical shard) (record_key number id) ≡ map item_of (map held_of (filter (λ e. starts_at number (Id id) e.0) table.edges))
  pub places : (schema : Declarations) (limits : Limits) (table : Contents) (vertical shard : ℕ) (place : Place) → IsKept schema limits table
      → finite.get (shard_rows schema table vertical shard).postings place ≡ audience_in_shard schema table vertical shard place
  pub keys : (schema : Declarations) (table : Contents) (vertical shard : ℕ) (key : RecordKey) → finite.get (shard_rows schema table vertical shard).records key ≡ record_in_shard schema table vertical shard key

-- the empty layer changes nothing; stacks put together stand for what the newer one makes of the older; a
-- layer above all others lies over what is below; a layer that by itself stands for the first layers may
-- stand in their place; a layer that takes the rows of a shard of one table to those of another, above a stack that
-- stands for the one, stands with it for the other; and the empty table has no rows
pub record StacksAddUp : Type 0 where
  pub unchanged : (rows : ShardRows) → layer_over rows empty_layer ≡ rows
  pub together : (rows : ShardRows) (older newer : List ShardChanges) → stack_over rows (older ++ newer) ≡ stack_over (stack_over rows older) newer
  pub above : (rows : ShardRows) (layers : List ShardChanges) (layer : ShardChanges) → stack_over rows (layers ++ layer ∷ []) ≡ layer_over (stack_over rows layers) layer
  pub front : (layers : List ShardChanges) (n : ℕ) (layer : ShardChanges) → layer_over no_rows layer ≡ stack_rows (take n layers) → stack_rows (layer ∷ drop n layers) ≡ stack_rows layers
  pub next : (schema : Declarations) (old new : Contents) (vertical shard : ℕ) (layers : List ShardChanges) (layer : ShardChanges) → stack_rows layers ≡ shard_rows schema old vertical shard
      → layer_over (shard_rows schema old vertical shard) layer ≡ shard_rows schema new vertical shard → stack_rows (layers ++ layer ∷ []) ≡ shard_rows schema new vertical shard
  pub start : (schema : Declarations) (vertical shard : ℕ) → shard_rows schema empty vertical shard ≡ no_rows
