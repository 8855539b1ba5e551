-- Stacks by their numbers, and layers that by themselves stand for shards.
use Rattle.std.specs.Prelude.{ℕ, ◌≡◌, ◌≤◌, ◌&&◌, ◌==◌, Bool, List, [], ◌∷◌, length, IfSome}
use Rattle.uni_schema.specs.Schema.{Declarations}
use Rattle.uni_table.specs.declared.command.Command.{Command}
use Rattle.shard_index.specs.Places.{IsStack}
use Rattle.shard_index.specs.Rows.{ShardChanges, no_rows, layer_over}
use Rattle.shard_index.specs.Shards.{shard_rows}
use Rattle.shard_index.specs.Versions.{VersionState, StandsAt}
use Rattle.version_catalog.specs.Stacks.{table_at}
use Rattle.version_catalog.specs.declared.bases.ShardBase.{ShardBase}
use Rattle.version_catalog.specs.declared.stack_id.StackId.{StackId}

-- a schema has the stack of these numbers
abbrev pub IsStackId : Declarations → StackId → Type 0
IsStackId schema id = IsStack schema id.vertical id.shard id.replica

-- the stack is one of the shard of a base
abbrev pub is_of_shard : StackId → ShardBase → Bool
is_of_shard id base = base.vertical == id.vertical && base.shard == id.shard

-- the layer of a base, where it has one, stands for the base's shard of a version
abbrev pub IsWhole : VersionState → ShardBase → Type 0
IsWhole version base = IfSome base.layer (λ layer. StandsAt version (layer ∷ []) base.vertical base.shard)

-- a layer by itself stands for the rows of a shard after the first batches of a journal
pub record StandsAfter (schema : Declarations) (journal : List (List Command)) (covers v s : ℕ) (layer : ShardChanges) : Type 0 where
  pub within : covers ≤ length journal
  pub rows : layer_over no_rows layer ≡ shard_rows schema (table_at schema journal covers) v s

-- that of a base does, where it has one
abbrev pub IsBaseAfter : Declarations → List (List Command) → ℕ → ShardBase → Type 0
IsBaseAfter schema journal covers base = IfSome base.layer (StandsAfter schema journal covers base.vertical base.shard)
