-- What a turn does to the value under a catalogue's lock.
use Rattle.std.specs.Prelude.{◌≡◌, ℕ, ◌+◌, ◌-◌, ◌<◌, ◌≤◌, true, List, [], ◌∷◌, ◌++◌, length, get_or, set, drop}
use Rattle.std.specs.List.{AllZip}
use Rattle.uni_schema.specs.Schema.{Declarations}
use Rattle.uni_table.specs.Journals.{fold_of, accepts_commands}
use Rattle.uni_table.specs.declared.command.Command.{Command}
use Rattle.shard_index.specs.Batches.{TakesOver, all_shards}
use Rattle.shard_index.specs.Places.{IsStack, stack_no}
use Rattle.shard_index.specs.Rows.{ShardChanges, no_rows, layer_over}
use Rattle.shard_index.specs.Shards.{shard_rows}
use Rattle.version_catalog.specs.Settings.{SettingsState}
use Rattle.version_catalog.specs.Spread.{spread, with_layers}
use Rattle.version_catalog.specs.Stacks.{table_at}
use Rattle.version_catalog.specs.States.{version_in, limits_in, covered_in, half_in, StateStands}
use Rattle.version_catalog.specs.declared.state.CatalogueState.{CatalogueState}

-- ---- a publish

-- no command of a batch is refused at its place behind a journal
abbrev pub Accepts : SettingsState → List (List Command) → List Command → Type 0
Accepts settings journal batch = accepts_commands settings.schema settings.limits (fold_of settings.schema journal) batch ≡ true

-- one layer for each shard takes its rows from what the journal makes them to what it makes them with the batch, and
-- has at most two entries for each row that differs
abbrev pub LayersFit : Declarations → List (List Command) → List Command → List ShardChanges → Type 0
LayersFit schema journal batch layers = AllZip (TakesOver schema (fold_of schema journal) (fold_of schema (journal ++ batch ∷ []))) (all_shards schema) layers

-- the value stands for a journal that accepts the batch, and the layers fit both
abbrev pub MayGain : CatalogueState → List Command → List ShardChanges → Type 0
MayGain state batch layers =
    (settings : SettingsState) × (journal : List (List Command)) × StateStands state settings journal × Accepts settings journal batch × LayersFit settings.schema journal batch layers

-- whatever journal it stood for, it now stands for that with the batch
abbrev pub GainsBatch : CatalogueState → List Command → List ShardChanges → CatalogueState → Type 0
GainsBatch old batch layers new =
    (settings : SettingsState) (journal : List (List Command)) → StateStands old settings journal → Accepts settings journal batch → LayersFit settings.schema journal batch layers
    → StateStands new settings (journal ++ batch ∷ [])

-- one publish more, and on each stack one layer more, that of its shard. All older layers are as they were.
pub record HasPublished (layers : List ShardChanges) (old new : CatalogueState) : Type 0 where
  pub schema : (version_in new).schema ≡ (version_in old).schema
  pub publishes : (version_in new).publishes ≡ (version_in old).publishes + 1
  pub limits : limits_in new ≡ limits_in old
  pub covered : covered_in new ≡ covered_in old
  pub half : half_in new ≡ half_in old
  pub stacks : (version_in new).stacks ≡ with_layers (version_in old).stacks (spread (version_in old).schema layers)

-- ---- an install

-- a layer that by itself stands for the rows of a stack's shard after the first batches of a journal
pub record IsBase (schema : Declarations) (journal : List (List Command)) (v s r covers : ℕ) (layer : ShardChanges) : Type 0 where
  pub stack : IsStack schema v s r
  pub within : covers ≤ length journal
  pub rows : layer_over no_rows layer ≡ shard_rows schema (table_at schema journal covers) v s

-- the value stands for a journal of which the layer is such a base
abbrev pub MayInstall : CatalogueState → ℕ → ℕ → ℕ → ℕ → ShardChanges → Type 0
MayInstall state v s r covers layer =
    (settings : SettingsState) × (journal : List (List Command)) × StateStands state settings journal × IsBase settings.schema journal v s r covers layer

-- whatever journal it stood for, it still stands for it
abbrev pub KeepsJournal : CatalogueState → ℕ → ℕ → ℕ → ℕ → ShardChanges → CatalogueState → Type 0
KeepsJournal old v s r covers layer new =
    (settings : SettingsState) (journal : List (List Command)) → StateStands old settings journal → IsBase settings.schema journal v s r covers layer → StateStands new settings journal

-- the number of a stack in a value
abbrev pub stack_in : CatalogueState → ℕ → ℕ → ℕ → ℕ
stack_in state v s r = stack_no (version_in state).schema v s r

-- a stack that covered no more has the layer in place of those that it covers, and all other stacks are as they were; a
-- stack that covered more is as it was
pub record HasInstalled (v s r covers : ℕ) (layer : ShardChanges) (old new : CatalogueState) : Type 0 where
  pub schema : (version_in new).schema ≡ (version_in old).schema
  pub publishes : (version_in new).publishes ≡ (version_in old).publishes
  pub limits : limits_in new ≡ limits_in old
  pub half : half_in new ≡ half_in old
  pub covered : get_or (covered_in old) (stack_in old v s r) 0 ≤ covers → covered_in new ≡ set (covered_in old) (stack_in old v s r) covers
  pub stacks : get_or (covered_in old) (stack_in old v s r) 0 ≤ covers
      → (version_in new).stacks ≡ set (version_in old).stacks (stack_in old v s r) (layer ∷ drop (1 + (covers - get_or (covered_in old) (stack_in old v s r) 0)) (get_or (version_in old).stacks (stack_in old v s r) []))
  pub kept : covers < get_or (covered_in old) (stack_in old v s r) 0 → new ≡ old
