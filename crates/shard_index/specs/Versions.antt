-- Versions: the stacks of all shards after some publishes.
use Rattle.std.specs.Prelude.{◌≡◌, ℕ, List, [], ◌∷◌, Some, length, replicate, map, get_or, slice_get}
use Rattle.uni_schema.specs.Schema.{Declarations}
use Rattle.uni_table.specs.Contents.{Contents}
use Rattle.uni_table.specs.TableState.{TableState}
use Rattle.shard_index.specs.Places.{StackPlace, stack_places, stack_count}
use Rattle.shard_index.specs.Rows.{ShardRows, ShardChanges, empty_layer, stack_rows}
use Rattle.shard_index.specs.Shards.{shard_rows}

-- a version: its schema, the number of its publishes, and the layers of each stack, in order of vertical,
-- shard and replica
pub record VersionState : Type 0 where
  pub schema : Declarations
  pub publishes : ℕ
  pub stacks : List (List ShardChanges)

-- the layers of indexes
abbrev pub layers_of : List (List ShardChanges × ℕ) → List (List ShardChanges)
layers_of indexes = map (λ index. index.0) indexes

-- the version of a schema with some indexes
abbrev pub version_of : Declarations → ℕ → List (List ShardChanges × ℕ) → VersionState
version_of schema publishes indexes = record { schema = schema; publishes = publishes; stacks = layers_of indexes }

-- so many stacks of one layer
abbrev pub stacks_on : ℕ → ShardChanges → List (List ShardChanges)
stacks_on count layer = replicate count (layer ∷ [])

-- the version without publishes
abbrev pub first_version : Declarations → VersionState
first_version schema = record { schema = schema; publishes = 0; stacks = stacks_on (stack_count schema) empty_layer }

-- the rows that indexes stand for
abbrev pub rows_of : List (List ShardChanges × ℕ) → List ShardRows
rows_of indexes = map stack_rows (layers_of indexes)

-- the rows of the shard of a stack
abbrev pub rows_at : Declarations → Contents → StackPlace → ShardRows
rows_at schema table place = shard_rows schema table place.vertical place.shard

-- those of a table at some places
abbrev pub rows_at_all : TableState → List StackPlace → List ShardRows
rows_at_all table places = map (rows_at table.schema table.contents) places

-- each stack stands for the rows of its shard of a table
pub record Stands (version : VersionState) (table : Contents) : Type 0 where
  pub rows : map stack_rows version.stacks ≡ map (rows_at version.schema table) (stack_places version.schema)

-- there is one stack for each replica of each shard, and those of one shard stand for the same rows
pub record AreStacks (schema : Declarations) (stacks : List (List ShardChanges)) : Type 0 where
  pub count : length stacks ≡ stack_count schema
  pub alike : (i j : ℕ) (p q : StackPlace) → slice_get (stack_places schema) i ≡ Some p → slice_get (stack_places schema) j ≡ Some q → p.vertical ≡ q.vertical → p.shard ≡ q.shard
      → stack_rows (get_or stacks i []) ≡ stack_rows (get_or stacks j [])

-- a stack stands for the rows of a shard of whatever table the version stands for
abbrev pub StandsAt : VersionState → List ShardChanges → ℕ → ℕ → Type 0
StandsAt version layers vertical shard = (table : Contents) → Stands version table → stack_rows layers ≡ shard_rows version.schema table vertical shard
