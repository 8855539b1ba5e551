-- What the value under a catalogue's lock stands for.
use Rattle.std.specs.Prelude.{◌≡◌, ℕ, ◌≤◌, List, [], ◌∷◌, length, get_or, slice_get, Option, Some}
use Rattle.std.specs.Arc.{arc_value}
use Rattle.uni_base.specs.declared.limits.Limits.{Limits}
use Rattle.uni_table.specs.Journals.{fold_of, IsJournal}
use Rattle.uni_table.specs.declared.command.Command.{Command}
use Rattle.twin_list.specs.Halves.{half_id, half_list}
use Rattle.twin_list.specs.declared.half.Half.{Half}
use Rattle.shard_index.specs.Places.{StackPlace, IsStack, stack_places, stack_count, stack_no}
use Rattle.shard_index.specs.Versions.{VersionState, Stands}
use Rattle.version_catalog.specs.Installs.{covers_of}
use Rattle.version_catalog.specs.Journals.{batches, IsHistory}
use Rattle.version_catalog.specs.Settings.{SettingsState}
use Rattle.version_catalog.specs.Stacks.{StackStands}
use Rattle.version_catalog.specs.declared.entry.Entry.{Entry}
use Rattle.version_catalog.specs.declared.entry.Entry.TheVariants.{Opening, Published}
use Rattle.version_catalog.specs.declared.install.Install.{Install}
use Rattle.version_catalog.specs.declared.state.CatalogueState.{CatalogueState}

-- its version, its limits, how many publishes the oldest layer of each stack covers, and its half of the list of installs
abbrev pub version_in : CatalogueState → VersionState
version_in state = arc_value state.version

abbrev pub limits_in : CatalogueState → Limits
limits_in state = state.limits

abbrev pub covered_in : CatalogueState → List ℕ
covered_in state = state.covered.items

-- no stack covers any
abbrev pub CoversNone : CatalogueState → Type 0
CoversNone state = (i : ℕ) → get_or (covered_in state) i 0 ≡ 0

abbrev pub half_in : CatalogueState → Option (Half Install)
half_in state = state.half

-- The value stands for a journal: its version is that of the journal's table and has as many publishes; no command of
-- the journal is refused at its place; and each stack stands for its shard, publish by publish.
pub record StateStands (state : CatalogueState) (settings : SettingsState) (journal : List (List Command)) : Type 0 where
  pub schema : (version_in state).schema ≡ settings.schema
  pub publishes : (version_in state).publishes ≡ length journal
  pub table : Stands (version_in state) (fold_of settings.schema journal)
  pub limits : limits_in state ≡ settings.limits
  pub within : length journal ≤ settings.limits.publishes
  pub accepted : IsJournal settings.schema settings.limits journal
  pub covered : length (covered_in state) ≡ stack_count settings.schema
  pub stacks : (i : ℕ) (place : StackPlace) → slice_get (stack_places settings.schema) i ≡ Some place
      → StackStands settings.schema journal place (get_or (covered_in state) i 0) (get_or (version_in state).stacks i [])

-- each stack covers what the installs say, and the value has the half of a list that tells them
pub record IsTold (state : CatalogueState) (settings : SettingsState) : Type 0 where
  pub half : Half Install
  pub there : half_in state ≡ Some half
  pub of : half_id half ≡ settings.installs
  pub covered : (v s r : ℕ) → IsStack settings.schema v s r → get_or (covered_in state) (stack_no settings.schema v s r) 0 ≡ covers_of (half_list half) v s r

-- Every value stands for no entries. For an opening entry and then a journal that is as above, and no value stands for
-- a list of another form.
abbrev pub StandsFor : CatalogueState → List Entry → Type 0
StandsFor state [] = Unit {0}
StandsFor state (Opening settings ∷ entries) = IsHistory settings (Opening settings ∷ entries) × StateStands state settings (batches entries) × IsTold state settings
StandsFor state (Published batch ∷ entries) = ⊥
