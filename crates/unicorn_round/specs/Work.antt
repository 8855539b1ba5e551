-- What the feeder, the compactor and the sessions do with the lines of a round.
use Rattle.std.specs.Prelude.{ℕ, ◌≡◌, ◌*◌, ◌<◌, All, ◌++◌, List, [], length, get_or, Result, IfOk}
use Rattle.std.specs.List.{AllByRecursion}
use Rattle.std.proofs.Common.{Vec, Global}
use Rattle.reply_text.specs.declared.answer.Answer.{Answer}
use Rattle.script_rounds.specs.declared.item.Item.{Item}
use Rattle.turn_lock.specs.declared.seats.Seat.{Seat}
use Rattle.version_catalog.specs.Seats.{compactor_installs, compactor_journal, feeder_journal, settings_of}
use Rattle.version_catalog.specs.declared.catalogue.Catalogue.{Catalogue}
use Rattle.version_catalog.specs.declared.compactor.Compactor.{Compactor}
use Rattle.version_catalog.specs.declared.entry.Entry.{Entry}
use Rattle.version_catalog.specs.declared.feeder.Feeder.{Feeder}
use Rattle.version_catalog.specs.declared.state.CatalogueState.{CatalogueState}
use Rattle.session_asks.specs.Replies.{IsAsk, AreReplied}
use Rattle.session_asks.specs.Seats.{AllHaveTaken, AllMayTake, AllReplied}
use Rattle.session_asks.specs.declared.asks.AskLine.{AskLine}
use Rattle.round_feed.specs.Compacted.{AreCompacted, compact_entries, installs_by}
use Rattle.round_feed.specs.Fed.{IsFed}
use Rattle.round_feed.specs.Fits.{CompactFits, FeedFits}
use Rattle.round_feed.specs.Seats.{HasCompacted, HasFed, MayCompact, MayFeed, feed_of, terms_of}
use Rattle.unicorn_round.specs.declared.parts.Parts.{Parts}
use Rattle.unicorn_round.specs.declared.round.RoundAnswers.{RoundAnswers}

-- a feeder may take lines, and has taken them
pub record MayTakeFeed (catalogue : Catalogue) (items : List Item) (feeder : Feeder) : Type 0 where
  pub may : MayFeed catalogue (length items) feeder
  pub fit : AllByRecursion (FeedFits (terms_of catalogue)) items

pub record FeedDone {E : Type 0} (catalogue : Catalogue) (items : List Item) (old new : Feeder) (result : Result (List Answer) E) : Type 0 where
  pub taken : HasFed catalogue (length items) old new
  pub fed : IfOk result (λ answers. IsFed (terms_of catalogue) (feed_of old) items answers (feed_of new))

-- a compactor may take lines, and has taken them
pub record MayTakeCompactions (catalogue : Catalogue) (items : List Item) (compactor : Compactor) : Type 0 where
  pub may : MayCompact catalogue (2 * length items) compactor
  pub fit : AllByRecursion (CompactFits (terms_of catalogue)) items

pub record CompactionsDone {E : Type 0} (catalogue : Catalogue) (items : List Item) (old new : Compactor) (result : Result (List Answer) E) : Type 0 where
  pub taken : HasCompacted catalogue (2 * length items) old new
  pub compacted : IfOk result (AreCompacted (length (compactor_journal old)) (length (compactor_journal new)) (compact_entries items))
  pub installed : IfOk result (λ answers. compactor_installs new ≡ compactor_installs old ++ installs_by (compact_entries items) answers)

module _ {g : _} where
  -- sessions may ask, and have asked
  pub record MayAsk (catalogue : Catalogue) (asks : List (List AskLine)) (sessions : List (Seat CatalogueState Entry g)) : Type 0 where
    pub may : AllMayTake catalogue sessions asks
    pub typed : All (All (IsAsk (settings_of catalogue).schema)) asks

  pub record AsksDone {E : Type 0} (catalogue : Catalogue) (asks : List (List AskLine)) (old new : List (Seat CatalogueState Entry g)) (result : Result (Vec (List Answer) Global) E) : Type 0 where
    pub taken : AllHaveTaken catalogue old new asks
    pub replied : IfOk result (λ answers. AllReplied (settings_of catalogue).schema old new asks answers.items)

-- The answers of a round: those of the feed's lines; for each session those of its asks, at numbers of publishes from
-- those before the round to those after it; and for the compactor likewise.
pub record AreAnswered (catalogue : Catalogue) (parts : Parts) (old new : Feeder) (answers : RoundAnswers) : Type 0 where
  pub fed : IsFed (terms_of catalogue) (feed_of old) parts.feed answers.fed (feed_of new)
  pub compacted : AreCompacted (length (feeder_journal old)) (length (feeder_journal new)) (compact_entries parts.compactions) answers.compacted
  pub count : length answers.asked.items ≡ length parts.asks.items
  pub asked : (place : ℕ) → place < length parts.asks.items
      → AreReplied (settings_of catalogue).schema (feeder_journal new) (length (feeder_journal old)) (get_or parts.asks.items place []) (get_or answers.asked.items place [])
