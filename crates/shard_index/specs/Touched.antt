-- How many rows of a shard differ between two tables.
use Rattle.std.specs.Prelude.{ℕ, ◌+◌, Bool, true, false, not, ◌&&◌, List, [], ◌∷◌, ◌++◌, Option, None, Some, filter, length}
use Rattle.std.specs.declared.cmp.Ordering.{Ordering}
use Rattle.std.specs.FinMap as finite
use Rattle.std.specs.Map.{keys_of}
use Rattle.std.specs.Ordering.{nat_cmp, eq_by_cmp}
use Rattle.std.specs.Set.{is_member}
use Rattle.uni_base.specs.declared.edge.Audience.{Audience}
use Rattle.uni_base.specs.declared.edge.EdgeRef.{EdgeRef}
use Rattle.uni_base.specs.EdgeOrder.{edge_cmp}
use Rattle.uni_schema.specs.Schema.{Declarations}
use Rattle.uni_table.specs.Changes.{rank_at}
use Rattle.uni_table.specs.Contents.{Contents, edge_at}
use Rattle.layer_stack.specs.declared.place.Place.{Place}
use Rattle.layer_stack.specs.Places.{place_cmp}
use Rattle.forward_data.specs.declared.record.ForwardItem.{ForwardItem}
use Rattle.forward_data.specs.declared.record.RecordKey.{RecordKey}
use Rattle.forward_data.specs.Records.{record_cmp}
use Rattle.shard_index.specs.ChangedRows.{same_rank, same_audience, posting_for, if_posted}
use Rattle.shard_index.specs.Laws.{rank_in_shard}
use Rattle.shard_index.specs.Rows.{record_at}
use Rattle.shard_index.specs.Shards.{shard_rows}

-- the keys of either list: those of the first, and those of the second that it lacks
abbrev pub either_keys : {K : Type 0} → (K → K → Ordering) → List K → List K → List K
either_keys R xs ys = xs ++ filter (λ k. not (is_member (eq_by_cmp R) xs k)) ys

-- whether two answers are the same
abbrev pub same_rows : {X : Type 0} → (X → X → Bool) → Option X → Option X → Bool
same_rows same None None = true
same_rows same None (Some y) = false
same_rows same (Some x) None = false
same_rows same (Some x) (Some y) = same x y

-- the entities whose rank in a shard differs, or that only one of the tables has there
abbrev pub moved_entities : Declarations → Contents → Contents → ℕ → ℕ → List ℕ
moved_entities schema old new vertical shard =
    filter (λ id. not (same_rows same_rank (rank_in_shard schema old vertical shard id) (rank_in_shard schema new vertical shard id))) (either_keys nat_cmp (keys_of old.entities) (keys_of new.entities))

-- the posting that a table has of an index edge in a shard: its audience, at the place of its target
abbrev pub edge_posting : Declarations → Contents → ℕ → ℕ → EdgeRef → Option (Place × Audience)
edge_posting schema table vertical shard edge = if_posted schema vertical shard edge (posting_for edge (rank_at table edge.target) (edge_at table edge))

abbrev pub same_posting : Place × Audience → Place × Audience → Bool
same_posting x y = eq_by_cmp place_cmp x.0 y.0 && same_audience x.1 y.1

-- the index edges of a shard whose audience differs, or whose target's rank does, or that only one of the
-- tables has
abbrev pub moved_edges : Declarations → Contents → Contents → ℕ → ℕ → List EdgeRef
moved_edges schema old new vertical shard =
    filter (λ edge. not (same_rows same_posting (edge_posting schema old vertical shard edge) (edge_posting schema new vertical shard edge))) (either_keys edge_cmp (keys_of old.edges) (keys_of new.edges))

abbrev pub same_items : List ForwardItem → List ForwardItem → Bool
same_items [] [] = true
same_items [] (y ∷ ys) = false
same_items (x ∷ xs) [] = false
same_items (x ∷ xs) (y ∷ ys) = eq_by_cmp nat_cmp x.target y.target && (same_audience x.audience y.audience && same_items xs ys)

-- the forward records of a shard that differ
abbrev pub moved_records : Declarations → Contents → Contents → ℕ → ℕ → List RecordKey
moved_records schema old new vertical shard =
    filter (λ key. not (same_items (record_at (shard_rows schema old vertical shard) key) (record_at (shard_rows schema new vertical shard) key)))
    (either_keys record_cmp (finite.keys (shard_rows schema old vertical shard).records) (finite.keys (shard_rows schema new vertical shard).records))

-- how many rows of a shard differ: entities, index edges, and forward records
abbrev pub touched : Declarations → Contents → Contents → ℕ → ℕ → ℕ
touched schema old new vertical shard = length (moved_entities schema old new vertical shard) + length (moved_edges schema old new vertical shard) + length (moved_records schema old new vertical shard)
