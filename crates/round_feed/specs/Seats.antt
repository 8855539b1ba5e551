-- A feeder and a compactor before and after the lines of a round.
use Rattle.std.specs.Prelude.{ℕ, ◌≡◌, ◌+◌, ◌^◌, ◌≤◌}
use mathlib.Core.List.{IsPrefix}
use Rattle.script_rounds.specs.Terms.{Terms, under}
use Rattle.version_catalog.specs.Seats.{settings_of, feeder_journal, feeder_batch, feeder_table, feeder_turns, feeder_sessions, IsFeederOf, compactor_journal, compactor_turns, IsCompactorOf}
use Rattle.version_catalog.specs.declared.catalogue.Catalogue.{Catalogue}
use Rattle.version_catalog.specs.declared.compactor.Compactor.{Compactor}
use Rattle.version_catalog.specs.declared.feeder.Feeder.{Feeder}
use Rattle.round_feed.specs.Feeds.{Feed}

-- the limits and the schema of a catalogue
abbrev pub terms_of : Catalogue → Terms
terms_of catalogue = under (settings_of catalogue).limits (settings_of catalogue).schema

-- what a feeder has made: the batches that it has published, the one that is pending, and its table
abbrev pub feed_of : Feeder → Feed
feed_of feeder = record { journal = feeder_journal feeder; batch = feeder_batch feeder; table = (feeder_table feeder).contents }

-- a feeder may take so many turns
pub record MayFeed (catalogue : Catalogue) (turns : ℕ) (feeder : Feeder) : Type 0 where
  pub of : IsFeederOf catalogue feeder
  pub few : feeder_turns feeder + turns ≤ 2 ^ 56

-- it has taken so many at most, and has seen all that it had seen
pub record HasFed (catalogue : Catalogue) (turns : ℕ) (old new : Feeder) : Type 0 where
  pub of : IsFeederOf catalogue new
  pub few : feeder_turns new ≤ feeder_turns old + turns
  pub sessions : feeder_sessions new ≡ feeder_sessions old
  pub later : IsPrefix (feeder_journal old) (feeder_journal new)

-- a compactor may take so many turns
pub record MayCompact (catalogue : Catalogue) (turns : ℕ) (compactor : Compactor) : Type 0 where
  pub of : IsCompactorOf catalogue compactor
  pub few : compactor_turns compactor + turns ≤ 2 ^ 56

-- it has taken so many at most, and has seen all that it had seen
pub record HasCompacted (catalogue : Catalogue) (turns : ℕ) (old new : Compactor) : Type 0 where
  pub of : IsCompactorOf catalogue new
  pub few : compactor_turns new ≤ compactor_turns old + turns
  pub later : IsPrefix (compactor_journal old) (compactor_journal new)
