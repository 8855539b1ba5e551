-- The stacks that a schema has.
use Rattle.std.specs.Prelude.{◌≤◌, Bool, false, List, length, nat_lt, slice_get}
use Rattle.std.specs.List.{AllByRecursion}
use Rattle.std.specs.Option.{option_map_or}
use Rattle.uni_schema.specs.Schema.{Declarations}
use Rattle.shard_index.specs.Places.{IsStack, stack_no}
use Rattle.shard_index.specs.Versions.{VersionState}
use Rattle.unicorn_round.specs.declared.stacks.StackCover.{StackCover}

-- a schema has the stack
abbrev pub IsStackOf : Declarations → StackCover → Type 0
IsStackOf schema cover = IsStack schema cover.vertical cover.shard cover.replica

-- the stacks are those of a schema, and no more than there can be
pub record AreStacks (schema : Declarations) (covers : List StackCover) : Type 0 where
  pub each : AllByRecursion (IsStackOf schema) covers
  pub few : length covers ≤ 4096

-- whether a stack has more than one layer in a version
abbrev pub is_layered : VersionState → StackCover → Bool
is_layered version cover =
    option_map_or (λ layers. nat_lt 1 (length layers)) (slice_get version.stacks (stack_no version.schema cover.vertical cover.shard cover.replica)) false
