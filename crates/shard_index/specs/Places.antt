-- The stacks of all shards, in order of vertical, shard and replica.
use Rattle.std.specs.Prelude.{ℕ, ◌+◌, ◌*◌, ◌<◌, List, [], ◌∷◌, ◌++◌, length, map, take, sum_by}
use Rattle.std.specs.List.{flat_map, range_with_len}
use Rattle.std.specs.Option.{option_map_or}
use Rattle.uni_schema.specs.declared.schema.VerticalDef.{VerticalDef}
use Rattle.uni_schema.specs.Schema.{Declarations, vertical_at}

-- where a stack stands
pub record StackPlace : Type 0 where
  pub vertical : ℕ
  pub shard : ℕ
  pub replica : ℕ

abbrev pub stack_place : ℕ → ℕ → ℕ → StackPlace
stack_place vertical shard replica = record { vertical = vertical; shard = shard; replica = replica }

-- the places of a shard's replicas, of a vertical's shards, and of all verticals from a number on
abbrev pub shard_places : ℕ → ℕ → ℕ → List StackPlace
shard_places vertical replicas shard = map (stack_place vertical shard) (range_with_len 0 replicas)

abbrev pub vertical_places : ℕ → VerticalDef → List StackPlace
vertical_places vertical declared = flat_map (shard_places vertical declared.replicas) (range_with_len 0 declared.shards)

abbrev pub places_from : ℕ → List VerticalDef → List StackPlace
places_from vertical [] = []
places_from vertical (declared ∷ verticals) = vertical_places vertical declared ++ places_from (vertical + 1) verticals

abbrev pub stack_places : Declarations → List StackPlace
stack_places schema = places_from 0 schema.verticals

-- the numbers of a vertical's shards, and of their replicas each
abbrev pub shards_in : Declarations → ℕ → ℕ
shards_in schema vertical = option_map_or (λ declared. declared.shards) (vertical_at schema vertical) 0

abbrev pub replicas_in : Declarations → ℕ → ℕ
replicas_in schema vertical = option_map_or (λ declared. declared.replicas) (vertical_at schema vertical) 0

-- the places of the stacks of a vertical of a schema
abbrev pub places_in : Declarations → ℕ → List StackPlace
places_in schema vertical = option_map_or (vertical_places vertical) (vertical_at schema vertical) []

-- a schema has a vertical with such a shard and replica
pub record IsStack (schema : Declarations) (v s r : ℕ) : Type 0 where
  pub vertical : v < length schema.verticals
  pub shard : s < shards_in schema v
  pub replica : r < replicas_in schema v

-- the number of a vertical's stacks
abbrev pub stacks_of : VerticalDef → ℕ
stacks_of declared = declared.shards * declared.replicas

-- how many stacks the verticals before a number have
abbrev pub stacks_before : Declarations → ℕ → ℕ
stacks_before schema vertical = sum_by stacks_of (take vertical schema.verticals)

-- how many stacks there are
abbrev pub stack_count : Declarations → ℕ
stack_count schema = sum_by stacks_of schema.verticals

-- the number of a stack
abbrev pub stack_no : Declarations → ℕ → ℕ → ℕ → ℕ
stack_no schema vertical shard replica = stacks_before schema vertical + shard * replicas_in schema vertical + replica
