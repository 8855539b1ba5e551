-- The answers of a round, put together line by line from those of its feeder, its sessions and its compactor.
use Rattle.std.specs.Prelude.{ℕ, Bool, true, false, ◌==◌, ◌+◌, ◌-◌, if◌then◌else◌, List, [], ◌∷◌, ◌++◌, filter, take, drop, Option, None, Some}
use Rattle.std.specs.List.{filter_map}
use Rattle.reply_text.specs.declared.answer.Answer.{Answer}
use Rattle.reply_text.specs.declared.answer.Answer.TheVariants as answer
use Rattle.script_rounds.specs.declared.item.Item.{Item}
use Rattle.script_rounds.specs.declared.item.Item.TheVariants.{Change, Publish, Ask, Compact, Stats, Refused, Fault, QueryFault, Memory}
use Rattle.session_asks.specs.declared.asks.AskLine.{AskLine}
use Rattle.round_feed.specs.Feeds.{made}
use Rattle.unicorn_round.specs.declared.slot.Slot.{Slot}
use Rattle.unicorn_round.specs.declared.slot.Slot.TheVariants as slot
use Rattle.unicorn_round.specs.declared.stacks.StackCover.{StackCover}
use Rattle.unicorn_round.specs.Answers.{Standing}
use Rattle.unicorn_round.specs.Stacks.{covering, rows_of}

-- ---- who answers a line

abbrev pub is_feed : Item → Bool
is_feed (Change line command) = true
is_feed (Publish line) = true
is_feed item = false

abbrev pub is_compaction : Item → Bool
is_compaction (Compact line vertical shard replica) = true
is_compaction item = false

-- the ask of a line, where it is one of the session at a place: places count from 0, and sessions from 1
abbrev pub ask_at : ℕ → Item → Option AskLine
ask_at place (Ask line viewer session limit query) = if session == place + 1 then Some (record { line = line; viewer = viewer; limit = limit; query = query.value }) else None
ask_at place item = None

-- the lines of each, in order
abbrev pub feed_items : List Item → List Item
feed_items items = filter is_feed items

abbrev pub compactions : List Item → List Item
compactions items = filter is_compaction items

abbrev pub asks_at : ℕ → List Item → List AskLine
asks_at place items = filter_map (ask_at place) items

-- where the answer of a line comes from
abbrev pub slot_of : Item → Slot
slot_of (Change line command) = slot.Feed line
slot_of (Publish line) = slot.Feed line
slot_of (Ask line viewer session limit query) = slot.Ask (session - 1)
slot_of (Compact line vertical shard replica) = slot.Compact
slot_of (Stats line) = slot.Stats line
slot_of (Refused line code) = slot.Refused line code
slot_of (Fault line code) = slot.Fault line code
slot_of (QueryFault line code column) = slot.QueryFault line code column
slot_of (Memory line) = slot.Memory line

-- ---- the answers in order

-- whether the feeder's answer is that of a line
abbrev pub is_of : ℕ → Answer → Bool
is_of line (answer.Published n number) = n == line
is_of line (answer.Refused n code) = n == line
is_of line (answer.Memory n) = n == line
is_of line other = false

-- the first answer, where it is that of a line, and the others
abbrev pub own : ℕ → List Answer → List Answer
own line [] = []
own line (first ∷ rest) = if is_of line first then first ∷ [] else []

abbrev pub others : ℕ → List Answer → List Answer
others line [] = []
others line (first ∷ rest) = if is_of line first then rest else first ∷ rest

-- the answers by place, without the first one at a place
abbrev pub popped : ℕ → (ℕ → List Answer) → ℕ → List Answer
popped place asked other = if other == place then drop 1 (asked other) else asked other

-- Each slot has the next answer of whoever answers its line, or the answer that is known; `stats` shows the stacks
-- as they stand.
abbrev pub merged : (ℕ → Answer) → List Slot → List Answer → (ℕ → List Answer) → List Answer → List Answer
merged shown [] fed asked compacted = []
merged shown (slot.Feed line ∷ slots) fed asked compacted = own line fed ++ merged shown slots (others line fed) asked compacted
merged shown (slot.Ask place ∷ slots) fed asked compacted = take 1 (asked place) ++ merged shown slots fed (popped place asked) compacted
merged shown (slot.Compact ∷ slots) fed asked compacted = take 1 compacted ++ merged shown slots fed asked (drop 1 compacted)
merged shown (slot.Stats line ∷ slots) fed asked compacted = shown line ∷ merged shown slots fed asked compacted
merged shown (slot.Refused line code ∷ slots) fed asked compacted = answer.Refused line code ∷ merged shown slots fed asked compacted
merged shown (slot.Fault line code ∷ slots) fed asked compacted = answer.Fault line code ∷ merged shown slots fed asked compacted
merged shown (slot.QueryFault line code column ∷ slots) fed asked compacted = answer.QueryFault line code column ∷ merged shown slots fed asked compacted
merged shown (slot.Memory line ∷ slots) fed asked compacted = answer.Memory line ∷ merged shown slots fed asked compacted

-- what `stats` shows at a round's end
abbrev pub shown_at : Standing → ℕ → Answer
shown_at end line = answer.Stats line (made end.feed) (rows_of (made end.feed) end.covers)

-- the stacks after a compaction that was answered: where it has a number, its stack covers so many publishes
abbrev pub covered_by : List StackCover → Item → Answer → List StackCover
covered_by covers (Compact line vertical shard replica) (answer.Compacted n number) = covering vertical shard replica number covers
covered_by covers item told = covers

-- and after several
abbrev pub compacted_covers : List StackCover → List Item → List Answer → List StackCover
compacted_covers covers (item ∷ items) (told ∷ answers) = compacted_covers (covered_by covers item told) items answers
compacted_covers covers items answers = covers
