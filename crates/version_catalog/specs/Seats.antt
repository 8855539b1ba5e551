-- What clauses say of a catalogue, and of its feeder, its compactor, sessions and notes.
use Rattle.std.specs.Prelude.{◌≡◌, ℕ, ◌-◌, List, [], ◌∷◌, ◌++◌, length}
use Rattle.uni_table.specs.Contents.{ended}
use Rattle.uni_table.specs.Journals.{fold_of, IsJournal}
use Rattle.uni_table.specs.TableState.{TableState}
use Rattle.uni_table.specs.declared.command.Command.{Command}
use Rattle.atomic_table.specs.Seated.{TableId}
use Rattle.turn_lock.specs.Places.{lock_id}
use Rattle.turn_lock.specs.Seats.{IsSeatOf, IsWriterOf, IsNoteOf, seat_seen, writer_seen, note_seen, seat_turns, writer_turns, writer_made, IsSameSeat, IsSameWriter}
use Rattle.turn_lock.specs.declared.seats.Note.{Note}
use Rattle.turn_lock.specs.declared.seats.Seat.{Seat}
use Rattle.twin_list.specs.Halves.{IsHalfOf, half_list}
use Rattle.shard_index.specs.Versions.{VersionState, Stands}
use Rattle.version_catalog.specs.Journals.{batches, IsHistory}
use Rattle.version_catalog.specs.Settings.{SettingsState}
use Rattle.version_catalog.specs.declared.catalogue.Catalogue.{Catalogue}
use Rattle.version_catalog.specs.declared.compactor.Compactor.{Compactor}
use Rattle.version_catalog.specs.declared.entry.Entry.{Entry}
use Rattle.version_catalog.specs.declared.feeder.Feeder.{Feeder}
use Rattle.version_catalog.specs.declared.install.Install.{Install}
use Rattle.version_catalog.specs.declared.state.CatalogueState.{CatalogueState}

-- the schema and the limits that it was opened with
abbrev pub settings_of : Catalogue → SettingsState
settings_of catalogue = catalogue.settings

-- ---- the feeder

-- its table, the commands that are not published yet, and the batches that are
abbrev pub feeder_table : Feeder → TableState
feeder_table feeder = feeder.table

abbrev pub feeder_batch : Feeder → List Command
feeder_batch feeder = feeder.batch

abbrev pub feeder_journal : Feeder → List (List Command)
feeder_journal feeder = batches (writer_seen feeder.seat)

-- the turns that it has taken, and the sessions that were made by it
abbrev pub feeder_turns : Feeder → ℕ
feeder_turns feeder = writer_turns feeder.seat

abbrev pub feeder_sessions : Feeder → ℕ
feeder_sessions feeder = writer_made feeder.seat - 1

-- it is that of the catalogue
pub record IsFeederOf (catalogue : Catalogue) (feeder : Feeder) : Type 0 where
  pub lock : IsWriterOf catalogue.lock feeder.seat
  pub history : IsHistory catalogue.settings (writer_seen feeder.seat)
  pub schema : (feeder_table feeder).schema ≡ catalogue.settings.schema
  pub limits : (feeder_table feeder).limits ≡ catalogue.settings.limits

-- only what its seat has seen may have changed
pub record IsSameFeeder (old new : Feeder) : Type 0 where
  pub seat : IsSameWriter old.seat new.seat
  pub turns : feeder_turns new ≡ feeder_turns old
  pub made : writer_made new.seat ≡ writer_made old.seat
  pub table : feeder_table new ≡ feeder_table old
  pub batch : feeder_batch new ≡ feeder_batch old

-- its seat is as it was
abbrev pub KeepsSeat : Feeder → Feeder → Type 0
KeepsSeat old new = new.seat ≡ old.seat

-- a table after the publish of a number: without what that ends, and with nothing changed since
abbrev pub published_table : TableState → ℕ → TableState
published_table table number = record table { contents = ended table.contents number; published = ended table.contents number }

-- the pending batch is the journal's last, none is pending, and the number is the journal's length
pub record HasPublishedBatch (old new : Feeder) (number : ℕ) : Type 0 where
  pub journal : feeder_journal new ≡ feeder_journal old ++ feeder_batch old ∷ []
  pub number_is : number ≡ length (feeder_journal new)
  pub batch : feeder_batch new ≡ []
  pub table : feeder_table new ≡ published_table (feeder_table old) number

-- journal, batch and table are as they were
pub record KeepsFeeder (old new : Feeder) : Type 0 where
  pub journal : feeder_journal new ≡ feeder_journal old
  pub batch : feeder_batch new ≡ feeder_batch old
  pub table : feeder_table new ≡ feeder_table old

-- ---- sessions and notes

module _ {g : _} where
  -- the batches that each has seen
  abbrev pub session_journal : Seat CatalogueState Entry g → List (List Command)
  session_journal session = batches (seat_seen session)

  abbrev pub note_journal : Note CatalogueState Entry g → List (List Command)
  note_journal note = batches (note_seen note)

  -- they are those of the catalogue
  pub record IsSessionOf (catalogue : Catalogue) (session : Seat CatalogueState Entry g) : Type 0 where
    pub lock : IsSeatOf catalogue.lock session
    pub history : IsHistory catalogue.settings (seat_seen session)

  pub record IsNoteAt (catalogue : Catalogue) (note : Note CatalogueState Entry g) : Type 0 where
    pub lock : IsNoteOf catalogue.lock note
    pub history : IsHistory catalogue.settings (note_seen note)

  -- only what the session has seen may have changed
  abbrev pub IsSameSession : Seat CatalogueState Entry g → Seat CatalogueState Entry g → Type 0
  IsSameSession old new = IsSameSeat old new × (seat_turns new ≡ seat_turns old)

-- ---- the compactor

abbrev pub compactor_journal : Compactor → List (List Command)
compactor_journal compactor = batches (seat_seen compactor.seat)

-- the installs that it made
abbrev pub compactor_installs : Compactor → List Install
compactor_installs compactor = half_list compactor.half

abbrev pub compactor_turns : Compactor → ℕ
compactor_turns compactor = seat_turns compactor.seat

pub record IsCompactorOf (catalogue : Catalogue) (compactor : Compactor) : Type 0 where
  pub lock : IsSeatOf catalogue.lock compactor.seat
  pub half : IsHalfOf catalogue.installs compactor.half
  pub history : IsHistory catalogue.settings (seat_seen compactor.seat)

abbrev pub IsSameCompactor : Compactor → Compactor → Type 0
IsSameCompactor old new = IsSameSeat old.seat new.seat × (compactor_turns new ≡ compactor_turns old) × (new.half ≡ old.half)

-- ---- any of them

-- a seat at some lock that has seen some entries is one of the catalogue
abbrev pub IsSeenOf : Catalogue → TableId → List Entry → Type 0
IsSeenOf catalogue lock entries = (lock ≡ lock_id catalogue.lock) × IsHistory catalogue.settings entries

-- ---- versions

-- a version is that of a journal, no command of which is refused at its place
pub record IsVersionOf (settings : SettingsState) (journal : List (List Command)) (version : VersionState) : Type 0 where
  pub accepted : IsJournal settings.schema settings.limits journal
  pub schema : version.schema ≡ settings.schema
  pub publishes : version.publishes ≡ length journal
  pub table : Stands version (fold_of settings.schema journal)
