-- How the value under a catalogue's lock, and what its seats have seen, are tied to the core of versions.
use Rattle.std.specs.Prelude.{◌≡◌, ℕ, ◌<◌, ◌⊎◌, List, [], ◌∷◌, ◌++◌, length, get_or, None, Some}
use mathlib.Core.List.{IsPrefix}
use Rattle.uni_table.specs.declared.command.Command.{Command}
use Rattle.shard_index.specs.Rows.{ShardChanges}
use Rattle.version_catalog.specs.Core.{State, Step, publish, pin, install, meet, opening, feeder}
use Rattle.version_catalog.specs.Settings.{SettingsState}
use Rattle.version_catalog.specs.States.{version_in, covered_in, StateStands}
use Rattle.version_catalog.specs.Turns.{Accepts, LayersFit, HasPublished, IsBase, HasInstalled, stack_in}
use Rattle.version_catalog.specs.declared.state.CatalogueState.{CatalogueState}

-- the value stands for the core's journal, and its stacks cover what the core's do
pub record IsTied (state : CatalogueState) (settings : SettingsState) (core : State (List Command)) : Type 0 where
  pub journal : StateStands state settings core.journal
  pub covered : (stack : ℕ) → get_or (covered_in state) stack 0 ≡ core.covered stack

-- a seat has seen as many publishes as the core says: so many has the journal that it has seen
abbrev pub HasSeen : State (List Command) → ℕ → List (List Command) → Type 0
HasSeen core seat journal = core.seen seat ≡ length journal

-- of two journals one is the other's beginning, and this is the longer one
abbrev pub IsLonger : List (List Command) → List (List Command) → List (List Command) → Type 0
IsLonger mine theirs longer = (IsPrefix mine theirs × (longer ≡ theirs)) ⊎ (IsPrefix theirs mine × (longer ≡ mine))

-- The value that a catalogue begins with is tied to the opening core. What turns do to a value are steps of the core that
-- it is tied to: a publish, which answers the number of the new version, and after which the feeder has seen the journal
-- with the batch; an install; and a pin, which answers the number of the version, leaves the value as it is, and after
-- which its seat has seen the journal. That one seat learns what another has seen is a step too, outside any turn.
pub record TurnsAreSteps : Type 0 where
  pub opens : (state : CatalogueState) (settings : SettingsState) → StateStands state settings [] → IsTied state settings opening
  pub publishes : (old new : CatalogueState) (settings : SettingsState) (core : State (List Command)) (batch : List Command) (layers : List ShardChanges)
      → IsTied old settings core → Accepts settings core.journal batch → LayersFit settings.schema core.journal batch layers → length core.journal < settings.limits.publishes → HasPublished layers old new
      → (after : State (List Command)) × Step core (publish batch) (Some (version_in new).publishes) after × IsTied new settings after × HasSeen after feeder (core.journal ++ batch ∷ [])
  pub installs : (old new : CatalogueState) (settings : SettingsState) (core : State (List Command)) (v s r covers : ℕ) (layer : ShardChanges)
      → IsTied old settings core → IsBase settings.schema core.journal v s r covers layer → HasInstalled v s r covers layer old new
      → (after : State (List Command)) × Step core (install (stack_in old v s r) covers) (Some covers) after × IsTied new settings after
  pub pins : (state : CatalogueState) (settings : SettingsState) (core : State (List Command)) (seat : ℕ) → IsTied state settings core
      → (after : State (List Command)) × Step core (pin seat) (Some (version_in state).publishes) after × IsTied state settings after × HasSeen after seat core.journal
  pub meets : (state : CatalogueState) (settings : SettingsState) (core : State (List Command)) (seat other : ℕ) (mine theirs longer : List (List Command))
      → IsTied state settings core → HasSeen core seat mine → HasSeen core other theirs → IsLonger mine theirs longer
      → (after : State (List Command)) × Step core (meet seat other) None after × IsTied state settings after × HasSeen after seat longer
