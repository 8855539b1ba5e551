-- The history of a catalogue: one opening entry, and then a batch for each publish. The batches are the journal.
use Rattle.std.specs.Prelude.{◌≡◌, List, [], ◌∷◌, map}
use Rattle.uni_table.specs.declared.command.Command.{Command}
use Rattle.version_catalog.specs.Settings.{SettingsState}
use Rattle.version_catalog.specs.declared.entry.Entry.{Entry}
use Rattle.version_catalog.specs.declared.entry.Entry.TheVariants.{Opening, Published}

-- the batches among some entries, in order
abbrev pub batches : List Entry → List (List Command)
batches [] = []
batches (Opening settings ∷ entries) = batches entries
batches (Published batch ∷ entries) = batch ∷ batches entries

-- the history of a journal
abbrev pub history : SettingsState → List (List Command) → List Entry
history settings journal = Opening settings ∷ map Published journal

-- the entries are one opening entry with these settings, and then batches
abbrev pub IsHistory : SettingsState → List Entry → Type 0
IsHistory settings entries = entries ≡ history settings (batches entries)
