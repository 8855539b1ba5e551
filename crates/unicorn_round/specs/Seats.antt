-- The seats of a catalogue between rounds, and when they speak.
use Rattle.std.specs.Prelude.{◌≡◌}
use Rattle.turn_lock.specs.Seats.{SeatRests}
use Rattle.turn_lock.specs.declared.seats.Seat.{Seat}
use Rattle.version_catalog.specs.Seats.{IsFeederOf, IsSessionOf, feeder_sessions, feeder_turns}
use Rattle.version_catalog.specs.declared.catalogue.Catalogue.{Catalogue}
use Rattle.version_catalog.specs.declared.entry.Entry.{Entry}
use Rattle.version_catalog.specs.declared.feeder.Feeder.{Feeder}
use Rattle.version_catalog.specs.declared.state.CatalogueState.{CatalogueState}
use Rattle.round_feed.specs.Seats.{feed_of}

module _ {g : _} where
  -- a session holds no turn
  pub record IsResting (catalogue : Catalogue) (session : Seat CatalogueState Entry g) : Type 0 where
    pub of : IsSessionOf catalogue session
    pub rests : SeatRests session

-- a feeder spoke, which changes nothing of what it has made
pub record HasSpoken (catalogue : Catalogue) (old new : Feeder) : Type 0 where
  pub of : IsFeederOf catalogue new
  pub turns : feeder_turns new ≡ feeder_turns old
  pub sessions : feeder_sessions new ≡ feeder_sessions old
  pub feed : feed_of new ≡ feed_of old
