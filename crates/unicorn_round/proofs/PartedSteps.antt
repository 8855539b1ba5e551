-- One line more of those that are parted.
use Rattle.std.proofs.Common.{◌≡◌, ℕ, true, List, [], ◌∷◌, ◌++◌, filter, length, map, get_or, refl, sym, ap, ◌∙◌}
use Rattle.std.proofs.lemmas.List.{map-append}
use Rattle.std.proofs.lemmas.List.Elements.{filter-append, filter_map-append}
use Rattle.std.specs.List.{filter_map, list_all}
use Rattle.script_rounds.specs.declared.item.Item.{Item}
use Rattle.script_rounds.specs.declared.item.Item.TheVariants.{Change, Publish}
use Rattle.unicorn_round.specs.Parted.{slots_by, AddsLine, IsParted}
use Rattle.unicorn_round.specs.Weaving.{ask_at, asks_at, compactions, feed_items, is_compaction, is_feed, slot_of}
use Rattle.unicorn_round.specs.declared.parts.Parts.{Parts}
use Rattle.unicorn_round.specs.declared.slot.Slot.{Slot}

-- slots that are kept are those of all lines
kept : (slots : List Slot) (slot : Slot) (feed : List Item) → slots_by (slots ++ slot ∷ []) feed ≡ slots ++ slot ∷ []
kept [] slot feed = refl
kept (s ∷ slots) slot feed = refl

pub slots_more : (sessions : ℕ) (item : Item) (old new : Parts) → AddsLine sessions item old new → (items : List Item) → old.slots.items ≡ map slot_of items → new.slots.items ≡ map slot_of (items ++ item ∷ [])
slots_more sessions item old new adds items slots = adds.slots ∙ ap (λ ss. ss ++ slot_of item ∷ []) slots ∙ sym (map-append slot_of items (item ∷ []))

pub parted_more : (sessions : ℕ) (item : Item) (old new : Parts) → AddsLine sessions item old new → (items : List Item) → old.slots.items ≡ map slot_of items → IsParted sessions items old → IsParted sessions (items ++ item ∷ []) new
parted_more sessions item old new adds items slots parted = record {
  slots = ap (λ ss. slots_by ss new.feed) adds.slots ∙ kept old.slots.items (slot_of item) new.feed ∙ sym adds.slots ∙ slots_more sessions item old new adds items slots;
  feed = adds.feed ∙ ap (λ its. its ++ filter is_feed (item ∷ [])) parted.feed ∙ sym (filter-append is_feed items (item ∷ []));
  compactions = adds.compactions ∙ ap (λ its. its ++ filter is_compaction (item ∷ [])) parted.compactions ∙ sym (filter-append is_compaction items (item ∷ []));
  count = adds.count ∙ parted.count;
  asks = λ place below. adds.asks place below ∙ ap (λ its. its ++ filter_map (ask_at place) (item ∷ [])) (parted.asks place below) ∙ sym (filter_map-append (ask_at place) items (item ∷ []));
}

-- ---- lines that are all the feeder's

all_fed : (items : List Item) → list_all is_feed items ≡ true → items ≡ feed_items items
all_fed [] all = refl
all_fed (Change line command ∷ items) all = ap (λ rest. Change line command ∷ rest) (all_fed items all)
all_fed (Publish line ∷ items) all = ap (λ rest. Publish line ∷ rest) (all_fed items all)
all_fed (item ∷ items) all = absurd cc

none_compacts : (items : List Item) → list_all is_feed items ≡ true → [] ≡ compactions items
none_compacts [] all = refl
none_compacts (Change line command ∷ items) all = none_compacts items all
none_compacts (Publish line ∷ items) all = none_compacts items all
none_compacts (item ∷ items) all = absurd cc

none_asks : (place : ℕ) (items : List Item) → list_all is_feed items ≡ true → [] ≡ asks_at place items
none_asks place [] all = refl
none_asks place (Change line command ∷ items) all = none_asks place items all
none_asks place (Publish line ∷ items) all = none_asks place items all
none_asks place (item ∷ items) all = absurd cc

pub parted_feed : (sessions : ℕ) (items : List Item) (old new : Parts) → list_all is_feed items ≡ true → IsParted sessions [] old
    → new.slots ≡ old.slots → old.slots.items ≡ [] → new.feed ≡ items → new.asks ≡ old.asks → new.compactions ≡ old.compactions → IsParted sessions items new
parted_feed sessions items old new all parted same none feed asks compacting = record {
  slots = (λ i. slots_by ((ap (λ (ss : _). ss.items) same ∙ none) i) (feed i));
  feed = feed ∙ all_fed items all;
  compactions = compacting ∙ parted.compactions ∙ none_compacts items all;
  count = ap (λ lists. length lists.items) asks ∙ parted.count;
  asks = λ place below. ap (λ lists. get_or lists.items place []) asks ∙ parted.asks place below ∙ none_asks place items all;
}
