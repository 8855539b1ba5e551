-- Sessions before and after they ask.
use Rattle.std.specs.Prelude.{ℕ, ◌+◌, ◌^◌, ◌≤◌, List, [], ◌∷◌, length, ⊤}
use mathlib.Core.List.{IsPrefix}
use Rattle.uni_schema.specs.Schema.{Declarations}
use Rattle.reply_text.specs.declared.answer.Answer.{Answer}
use Rattle.turn_lock.specs.Seats.{SeatRests, seat_turns}
use Rattle.turn_lock.specs.declared.seats.Seat.{Seat}
use Rattle.version_catalog.specs.Seats.{session_journal, IsSessionOf}
use Rattle.version_catalog.specs.declared.catalogue.Catalogue.{Catalogue}
use Rattle.version_catalog.specs.declared.entry.Entry.{Entry}
use Rattle.version_catalog.specs.declared.state.CatalogueState.{CatalogueState}
use Rattle.session_asks.specs.Replies.{AreReplied}
use Rattle.session_asks.specs.declared.asks.AskLine.{AskLine}

module _ {g : _} where
  -- a session may take so many turns
  pub record MayTake (catalogue : Catalogue) (turns : ℕ) (session : Seat CatalogueState Entry g) : Type 0 where
    pub of : IsSessionOf catalogue session
    pub rests : SeatRests session
    pub few : seat_turns session + turns ≤ 2 ^ 56

  -- it has taken so many at most, and has seen all that it had seen
  pub record HasTaken (catalogue : Catalogue) (turns : ℕ) (old new : Seat CatalogueState Entry g) : Type 0 where
    pub of : IsSessionOf catalogue new
    pub rests : SeatRests new
    pub few : seat_turns new ≤ seat_turns old + turns
    pub later : IsPrefix (session_journal old) (session_journal new)

  -- its asks are answered by what it has seen, from what it had seen on
  abbrev pub IsReplied : Declarations → Seat CatalogueState Entry g → Seat CatalogueState Entry g → List AskLine → List Answer → Type 0
  IsReplied schema old new asks answers = AreReplied schema (session_journal new) (length (session_journal old)) asks answers

  -- the same of sessions, each with its asks
  abbrev pub AllMayTake : Catalogue → List (Seat CatalogueState Entry g) → List (List AskLine) → Type 0
  AllMayTake catalogue [] [] = ⊤
  AllMayTake catalogue (session ∷ sessions) (asks ∷ others) = MayTake catalogue (length asks) session × AllMayTake catalogue sessions others
  AllMayTake catalogue sessions asks = ⊥

  abbrev pub AllHaveTaken : Catalogue → List (Seat CatalogueState Entry g) → List (Seat CatalogueState Entry g) → List (List AskLine) → Type 0
  AllHaveTaken catalogue [] [] [] = ⊤
  AllHaveTaken catalogue (old ∷ olds) (new ∷ news) (asks ∷ others) = HasTaken catalogue (length asks) old new × AllHaveTaken catalogue olds news others
  AllHaveTaken catalogue olds news asks = ⊥

  abbrev pub AllReplied : Declarations → List (Seat CatalogueState Entry g) → List (Seat CatalogueState Entry g) → List (List AskLine) → List (List Answer) → Type 0
  AllReplied schema [] [] [] [] = ⊤
  AllReplied schema (old ∷ olds) (new ∷ news) (asks ∷ others) (answers ∷ rest) = IsReplied schema old new asks answers × AllReplied schema olds news others rest
  AllReplied schema olds news asks answers = ⊥
