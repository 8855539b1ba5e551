-- The lines of a round, parted by who answers them.
use Rattle.std.specs.Prelude.{ℕ, ◌≡◌, ◌<◌, ◌≤◌, List, [], ◌∷◌, ◌++◌, length, map, filter, get_or, ⊤}
use Rattle.std.specs.List.{filter_map}
use Rattle.script_rounds.specs.declared.item.Item.{Item}
use Rattle.script_rounds.specs.declared.item.Item.TheVariants.{Ask}
use Rattle.unicorn_round.specs.declared.parts.Parts.{Parts}
use Rattle.unicorn_round.specs.declared.slot.Slot.{Slot}
use Rattle.unicorn_round.specs.Weaving.{ask_at, asks_at, compactions, feed_items, is_compaction, is_feed, slot_of}

-- an `ask` is one of so many sessions
abbrev pub IsFor : ℕ → Item → Type 0
IsFor sessions (Ask line viewer session limit query) = (1 ≤ session) × (session ≤ sessions)
IsFor sessions item = ⊤

-- the slots of all lines: where none is kept, all lines are the feeder's
abbrev pub slots_by : List Slot → List Item → List Slot
slots_by [] feed = map slot_of feed
slots_by (slot ∷ slots) feed = slot ∷ slots

abbrev pub slots_in : Parts → List Slot
slots_in parts = slots_by parts.slots.items parts.feed

-- parts are those of lines, among so many sessions
pub record IsParted (sessions : ℕ) (items : List Item) (parts : Parts) : Type 0 where
  pub slots : slots_in parts ≡ map slot_of items
  pub feed : parts.feed ≡ feed_items items
  pub compactions : parts.compactions ≡ compactions items
  pub count : length parts.asks.items ≡ sessions
  pub asks : (place : ℕ) → place < sessions → get_or parts.asks.items place [] ≡ asks_at place items

-- what one line adds to the parts
pub record AddsLine (sessions : ℕ) (item : Item) (old new : Parts) : Type 0 where
  pub slots : new.slots.items ≡ old.slots.items ++ slot_of item ∷ []
  pub feed : new.feed ≡ old.feed ++ filter is_feed (item ∷ [])
  pub compactions : new.compactions ≡ old.compactions ++ filter is_compaction (item ∷ [])
  pub count : length new.asks.items ≡ length old.asks.items
  pub asks : (place : ℕ) → place < sessions → get_or new.asks.items place [] ≡ get_or old.asks.items place [] ++ filter_map (ask_at place) (item ∷ [])
