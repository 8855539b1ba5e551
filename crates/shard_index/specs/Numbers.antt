-- The shards of entities and of edges, and the numbers of shards among those of all verticals.
use Rattle.std.specs.Prelude.{◌≡◌, ℕ, ◌+◌, if◌then◌else◌, List, length, map, take, sum_by, Option, None}
use Rattle.std.specs.List.{range_with_len}
use Rattle.std.specs.Option.{option_map, option_and_then}
use Rattle.uni_base.specs.declared.edge.EdgeRef.{EdgeRef}
use Rattle.uni_schema.specs.declared.schema.Origin.{Origin}
use Rattle.uni_schema.specs.declared.schema.Origin.TheVariants.{Vertical, Words}
use Rattle.uni_schema.specs.declared.schema.TypeDef.{TypeDef}
use Rattle.uni_schema.specs.declared.schema.VerticalDef.{VerticalDef}
use Rattle.uni_schema.specs.Schema.{Declarations, vertical_at, shard_of, source_of, is_index}
use Rattle.shard_index.specs.Batches.{ShardPlace, shard_place}

-- the shard of an id in a vertical, if there is such a vertical
abbrev pub shard_for : Declarations → ℕ → ℕ → Option ShardPlace
shard_for schema vertical id = option_map (λ (declared : VerticalDef). shard_place vertical (shard_of schema vertical id)) (vertical_at schema vertical)

-- the same of a vertical that edges start at, if they do
abbrev pub shard_at_origin : Declarations → Origin → ℕ → Option ShardPlace
shard_at_origin schema (Vertical vertical) id = shard_for schema vertical id
shard_at_origin schema Words id = None

-- the shard that keeps an edge of a type: an index edge its target's, and a forward edge its source's
abbrev pub shard_keeping : Declarations → TypeDef → EdgeRef → Option ShardPlace
shard_keeping schema type_def edge =
    if is_index type_def.store then shard_for schema type_def.target edge.target
    else option_and_then (shard_at_origin schema type_def.origin) (source_of edge.key)

-- how many shards the verticals before a number have
abbrev pub shards_before : Declarations → ℕ → ℕ
shards_before schema vertical = sum_by (λ (declared : VerticalDef). declared.shards) (take vertical schema.verticals)

-- the number of the first shard of each vertical, and at the end how many shards there are
abbrev pub AreFirsts : Declarations → List ℕ → Type 0
AreFirsts schema firsts = firsts ≡ map (shards_before schema) (range_with_len 0 (length schema.verticals + 1))
