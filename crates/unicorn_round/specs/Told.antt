-- What the installs of a compactor tell of the stacks, and what their layers in a version do.
use Rattle.std.specs.Prelude.{ℕ, ◌≡◌, ◌≤◌, ◌-◌, List, [], get_or, length, map}
use Rattle.std.specs.List.{AllByRecursion}
use Rattle.uni_schema.specs.Schema.{Declarations}
use Rattle.shard_index.specs.Places.{stack_no}
use Rattle.shard_index.specs.Versions.{VersionState}
use Rattle.version_catalog.specs.Installs.{covers_of}
use Rattle.version_catalog.specs.declared.install.Install.{Install}
use Rattle.version_catalog.specs.declared.stack_id.StackId.{StackId}
use Rattle.reply_text.specs.declared.answer.Answer.{Answer}
use Rattle.unicorn_round.specs.Ending.{IsTidied}
use Rattle.unicorn_round.specs.Stacks.{opening_stacks}
use Rattle.unicorn_round.specs.declared.stacks.StackCover.{StackCover}

-- a stack covers what installs say
abbrev pub IsTold : List Install → StackCover → Type 0
IsTold installs cover = cover.covers ≡ covers_of installs cover.vertical cover.shard cover.replica

-- and so does each of some
abbrev pub AreTold : List Install → List StackCover → Type 0
AreTold installs covers = AllByRecursion (IsTold installs) covers

-- no install covers more publishes than so many
abbrev pub AreWithin : ℕ → List Install → Type 0
AreWithin most installs = (vertical shard replica : ℕ) → covers_of installs vertical shard replica ≤ most

-- a stack, which covers what installs say
abbrev pub told_by : List Install → StackCover → StackCover
told_by installs cover = record cover { covers = covers_of installs cover.vertical cover.shard cover.replica }

-- the stacks of a schema, each of which covers what installs say
abbrev pub stacks_told : Declarations → List Install → List StackCover
stacks_told schema installs = map (told_by installs) (opening_stacks schema)

-- a stack as its layers stand in a version: the oldest covers the publishes that none of the others is of
abbrev pub read_in : VersionState → StackCover → StackCover
read_in version cover =
    record cover { covers = version.publishes - (length (get_or version.stacks (stack_no version.schema cover.vertical cover.shard cover.replica) []) - 1) }

-- all stacks as they stand in a version
abbrev pub stacks_of : VersionState → List StackCover
stacks_of version = map (read_in version) (opening_stacks version.schema)

-- a stack by its numbers
abbrev pub id_of : StackCover → StackId
id_of cover = record { vertical = cover.vertical; shard = cover.shard; replica = cover.replica }

-- The stacks of a schema were tidied after so many publishes: what installs told of them before that and tell then, all
-- stacks then, and what was answered.
pub record HasTidied (schema : Declarations) (made : ℕ) (old new : List Install) (covers : List StackCover) (told : List Answer) : Type 0 where
  pub tidied : IsTidied made (stacks_told schema old) covers told
  pub stacks : covers ≡ stacks_told schema new
  pub within : AreWithin made old → AreWithin made new
