-- One layer for each stack, from one for each shard.
use Rattle.std.specs.Prelude.{List, [], ◌∷◌, ◌++◌, take, drop, replicate}
use Rattle.std.specs.List.{flat_map}
use Rattle.uni_schema.specs.declared.schema.VerticalDef.{VerticalDef}
use Rattle.uni_schema.specs.Schema.{Declarations}
use Rattle.shard_index.specs.Rows.{ShardChanges}

-- the layers of the shards of some verticals, each once for every replica of its shard
abbrev pub spread_over : List VerticalDef → List ShardChanges → List ShardChanges
spread_over [] layers = []
spread_over (declared ∷ verticals) layers = flat_map (replicate declared.replicas) (take declared.shards layers) ++ spread_over verticals (drop declared.shards layers)

abbrev pub spread : Declarations → List ShardChanges → List ShardChanges
spread schema layers = spread_over schema.verticals layers

-- stacks with one layer more each
abbrev pub with_layers : List (List ShardChanges) → List ShardChanges → List (List ShardChanges)
with_layers [] layers = []
with_layers (stack ∷ stacks) [] = []
with_layers (stack ∷ stacks) (layer ∷ layers) = (stack ++ layer ∷ []) ∷ with_layers stacks layers
