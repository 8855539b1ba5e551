-- What a service keeps from round to round.
use Rattle.std.specs.Prelude.{ℕ, ◌≡◌, ◌+◌, ◌*◌, ◌≤◌, ◌++◌, ◌∷◌, [], List, length}
use Rattle.std.specs.List.{AllByRecursion}
use Rattle.uni_base.specs.StandardLimits.{IsWithinStandard}
use Rattle.turn_lock.specs.Seats.{seat_turns}
use Rattle.turn_lock.specs.declared.seats.Seat.{Seat}
use Rattle.version_catalog.specs.Seats.{IsCompactorOf, IsFeederOf, compactor_installs, compactor_turns, feeder_journal, feeder_turns, settings_of}
use Rattle.version_catalog.specs.declared.catalogue.Catalogue.{Catalogue}
use Rattle.version_catalog.specs.declared.entry.Entry.{Entry}
use Rattle.version_catalog.specs.declared.state.CatalogueState.{CatalogueState}
use Rattle.reply_text.specs.declared.answer.Answer.{Answer}
use Rattle.reply_text.specs.Printed.{answers_text}
use Rattle.script_rounds.specs.Entries.{AreItemsOf, Entry as ScriptEntry}
use Rattle.script_rounds.specs.declared.item.Item.{Item}
use Rattle.script_rounds.specs.Terms.{Terms}
use Rattle.round_feed.specs.Seats.{feed_of, terms_of}
use Rattle.unicorn_round.specs.Seats.{IsResting}
use Rattle.unicorn_round.specs.Served.{IsServed}
use Rattle.unicorn_round.specs.Told.{AreWithin, stacks_told}
use Rattle.unicorn_round.specs.declared.service.Service.{Service}
use Rattle.unicorn_round.specs.declared.stacks.StackCover.{StackCover}

module _ {g : _} where
  -- a session of a catalogue between its asks, of which there were so many at most
  pub record IsIdle (catalogue : Catalogue) (n : ℕ) (session : Seat CatalogueState Entry g) : Type 0 where
    pub resting : IsResting catalogue session
    pub few : seat_turns session ≤ n

  -- so many sessions, of which none has asked
  pub record AreNew (catalogue : Catalogue) (count : ℕ) (sessions : List (Seat CatalogueState Entry g)) : Type 0 where
    pub long : length sessions ≡ count
    pub each : AllByRecursion (IsIdle catalogue 0) sessions

-- A service between rounds, of which so many lines were read at most: its seats are those of its catalogue, and have
-- taken no more turns than the lines and the rounds' ends wanted.
pub record IsReady (service : Service) (n : ℕ) : Type 0 where
  pub standard : IsWithinStandard (terms_of service.catalogue).limits
  pub feeder : IsFeederOf service.catalogue service.feeder
  pub fed : feeder_turns service.feeder ≤ n + 1
  pub publishes : length (feeder_journal service.feeder) ≤ (terms_of service.catalogue).limits.publishes
  pub compactor : IsCompactorOf service.catalogue service.compactor
  pub compacted : compactor_turns service.compactor ≤ 8195 * n
  pub sessions : AllByRecursion (IsIdle service.catalogue n) service.sessions.items
  pub count : length service.sessions.items ≡ (terms_of service.catalogue).limits.sessions
  pub within : AreWithin (length (feeder_journal service.feeder)) (compactor_installs service.compactor)

-- the limits and the schema of its script
abbrev pub service_terms : Service → Terms
service_terms service = terms_of service.catalogue

-- its stacks: each covers what the compactor's installs say
abbrev pub service_stacks : Service → List StackCover
service_stacks service = stacks_told (settings_of service.catalogue).schema (compactor_installs service.compactor)

-- it stands behind rounds, which are answered so
abbrev pub HasServed : Service → List (List ScriptEntry) → List Answer → Type 0
HasServed service rounds said = IsServed (terms_of service.catalogue) rounds (feed_of service.feeder) (service_stacks service) said

-- it stands behind rounds, and a text is that of their answers
pub record ServiceStands (service : Service) (rounds : List (List ScriptEntry)) (text : List ℕ) : Type 0 where
  pub said : List Answer
  pub served : HasServed service rounds said
  pub writes : text ≡ answers_text (terms_of service.catalogue).schema said

-- it has answered one round more
pub record ServesMore (old : Service) (items : List Item) (new : Service) (said : List Answer) : Type 0 where
  pub is_under : service_terms new ≡ service_terms old
  pub ready : (lines : ℕ) → IsReady old lines → IsReady new (lines + length items + 1)
  pub stands : (entries : List ScriptEntry) (rounds : List (List ScriptEntry)) (before : List Answer) → AreItemsOf entries items → HasServed old rounds before → HasServed new (rounds ++ entries ∷ []) (before ++ said)
