-- What a catalogue is opened with.
use Rattle.uni_base.specs.declared.limits.Limits.{Limits}
use Rattle.uni_schema.specs.Schema.{Declarations}
use Rattle.atomic_table.specs.Seated.{TableId}

pub record SettingsState : Type 0 where
  pub schema : Declarations
  pub limits : Limits
  -- the list of its installs
  pub installs : TableId
