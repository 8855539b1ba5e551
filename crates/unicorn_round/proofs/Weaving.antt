-- A round's answers, put together line by line, are those of its entries for marks that are read off them.
use Rattle.std.proofs.Common.{◌≡◌, ◌≤◌, ◌+◌, ◌-◌, ℕ, zero, suc, Bool, true, false, List, [], ◌∷◌, length, map, drop, refl, ap, sym, ◌∙◌, subst, arith, add-one}
use Rattle.uni_table.specs.declared.command.Command.{Command}
use Rattle.reply_text.specs.declared.answer.Answer.{Answer}
use Rattle.reply_text.specs.declared.answer.Answer.TheVariants as answer
use Rattle.script_rounds.specs.declared.item.Item.{Item}
use Rattle.script_rounds.specs.declared.item.Item.TheVariants.{Change, Publish, Ask, Compact, Stats, Refused, Fault, QueryFault, Memory}
use Rattle.script_rounds.specs.Entries.{Entry, change, publish, compact, stats, refused, fault, query_fault, AreItemsOf}
use Rattle.script_rounds.specs.Fits.{ItemsFit}
use Rattle.script_rounds.specs.RoundReads.{Rise, item_line}
use Rattle.script_rounds.specs.Terms.{Terms}
use Rattle.session_asks.specs.Replies.{AreReplied}
use Rattle.round_feed.specs.Compacted.{AreCompacted, compact_entries}
use Rattle.round_feed.specs.Fed.{fed_answers, feed_entries}
use Rattle.round_feed.specs.Feeds.{made, fed_one}
use Rattle.round_feed.specs.Steps.{after, given}
use Rattle.unicorn_round.specs.declared.slot.Slot.TheVariants as slot
use Rattle.unicorn_round.specs.Answers.{Standing, after_entry, after_entries, entry_answers, entries_answers, replies}
use Rattle.unicorn_round.specs.Legal.{AreWithin, Between, numbers_in, asks_in, compacts}
use Rattle.unicorn_round.specs.Marks.{Mark, plain}
use Rattle.unicorn_round.specs.Records.{AreMarked}
use Rattle.unicorn_round.specs.Weaving.{feed_items, compactions, asks_at, slot_of, popped, merged, shown_at, compacted_covers}
use Rattle.unicorn_round.proofs.AskedPlaces.{replied_others}
use Rattle.unicorn_round.proofs.FedAnswers.{rise_after}
use Rattle.unicorn_round.proofs.MarkReading.{feed_mark, feed_mark-none, first_mark, compacted_rest}
use Rattle.unicorn_round.proofs.WovenLines.{AreWoven, lines_of, none_woven, feed_woven, told_woven, unread_woven, ask_woven, compact_woven}

-- what a round was answered is what its entries answer, for some marks within the bounds
pub record Woven (terms : Terms) (s : Standing) (entries : List Entry) (items : List Item) (lacks : List Bool) (fed : List Answer) (asked : ℕ → List Answer) (compacted : List Answer) (low : ℕ) (end : Standing) : Type 0 where
  pub marks : List Mark
  pub marked : AreMarked entries marks
  pub feed : (after_entries terms s entries marks).feed ≡ after (fed_one terms) s.feed (feed_entries (feed_items items)) lacks
  pub covers : (after_entries terms s entries marks).covers ≡ compacted_covers s.covers (compactions items) compacted
  pub answers : merged (shown_at end) (map slot_of items) fed asked compacted ≡ entries_answers terms (replies terms.schema) end s entries marks
  pub within : AreWithin low (made end.feed) marks
  pub sessions : (session : ℕ) → Between low (made end.feed) (numbers_in (asks_in session) entries marks)
  pub stacks : (vertical shard replica : ℕ) → Between low (made end.feed) (numbers_in (compacts vertical shard replica) entries marks)

module _ (terms : Terms) (end : Standing) where
  -- a line of the feed answers what its entry does
  changed : (s : Standing) (line : ℕ) (command : Command) (lack : Bool)
      → entry_answers terms (replies terms.schema) end s.feed (change line command) (feed_mark lack) ≡ fed_answers terms s.feed (change line command) lack
  changed s line command true = refl
  changed s line command false = refl

  published : (s : Standing) (line : ℕ) (lack : Bool)
      → entry_answers terms (replies terms.schema) end s.feed (publish line) (feed_mark lack) ≡ fed_answers terms s.feed (publish line) lack
  published s line true = refl
  published s line false = refl

  -- line by line
  lines_woven : (s : Standing) (entries : List Entry) (items : List Item) (lacks : List Bool) (asked : ℕ → List Answer) (compacted : List Answer) (low from to : ℕ)
      → AreItemsOf entries items → ItemsFit terms items → Rise from to (map item_line items)
      → length lacks ≡ length (feed_entries (feed_items items))
      → ((place : ℕ) → AreReplied terms.schema end.feed.journal low (asks_at place items) (asked place))
      → AreCompacted low (made end.feed) (compact_entries (compactions items)) compacted
      → AreWoven terms end s entries (lines_of items) lacks asked compacted low
  lines_woven s [] [] lacks asked compacted low from to are fit rise same replied done = none_woven terms end s lacks asked compacted low
  lines_woven s (entry ∷ entries) (Change line command ∷ items) [] asked compacted low from to are fit rise same replied done = absurd (omega (arith, same))
  lines_woven s (entry ∷ entries) (Change line command ∷ items) (lack ∷ lacks) asked compacted low from to are fit rise same replied done =
      subst (λ e. AreWoven terms end s (e ∷ entries) (lines_of (Change line command ∷ items)) (lack ∷ lacks) asked compacted low) (sym are.0)
      (feed_woven terms end s (change line command) entries (lines_of items) lack lacks asked compacted low
      (feed_mark-none lack) refl (changed s line command lack) (rise_after line line to items (omega arith) rise.1)
      (lines_woven (record { feed = fed_one terms s.feed (change line command) lack; covers = s.covers }) entries items lacks asked compacted low line to are.1 fit.1 rise.1
      (omega (arith, same)) replied done))
  lines_woven s (entry ∷ entries) (Publish line ∷ items) [] asked compacted low from to are fit rise same replied done = absurd (omega (arith, same))
  lines_woven s (entry ∷ entries) (Publish line ∷ items) (lack ∷ lacks) asked compacted low from to are fit rise same replied done =
      subst (λ e. AreWoven terms end s (e ∷ entries) (lines_of (Publish line ∷ items)) (lack ∷ lacks) asked compacted low) (sym are.0)
      (feed_woven terms end s (publish line) entries (lines_of items) lack lacks asked compacted low
      (feed_mark-none lack) refl (published s line lack) (rise_after line line to items (omega arith) rise.1)
      (lines_woven (record { feed = fed_one terms s.feed (publish line) lack; covers = s.covers }) entries items lacks asked compacted low line to are.1 fit.1 rise.1
      (omega (arith, same)) replied done))
  lines_woven s (entry ∷ entries) (Ask line viewer session limit query ∷ items) lacks asked compacted low from to are fit rise same replied done =
      let place = session - 1 in
      let at_place : session ≡ place + 1 = omega (arith, fit.0.session_from) in
      subst (λ e. AreWoven terms end s (e ∷ entries) (lines_of (Ask line viewer session limit query ∷ items)) lacks asked compacted low) (sym are.0)
      (ask_woven terms end s place line session viewer limit query entries items lacks asked compacted low at_place (replied place)
      (lines_woven s entries items lacks (popped place asked) compacted low line to are.1 fit.1 rise.1 same
      (replied_others place line session viewer limit query at_place terms.schema end.feed.journal low items asked replied) done))
  lines_woven s (entry ∷ entries) (Compact line vertical shard replica ∷ items) lacks asked compacted low from to are fit rise same replied done =
      let one = compact line vertical shard replica in
      subst (λ e. AreWoven terms end s (e ∷ entries) (lines_of (Compact line vertical shard replica ∷ items)) lacks asked compacted low) (sym are.0)
      (compact_woven terms end s line vertical shard replica entries (lines_of items) lacks asked compacted low done
      (lines_woven (after_entry terms s one (first_mark compacted)) entries items lacks asked (drop 1 compacted) low line to are.1 fit.1 rise.1 same replied
      (compacted_rest low (made end.feed) one (compact_entries (compactions items)) compacted done)))
  lines_woven s (entry ∷ entries) (Stats line ∷ items) lacks asked compacted low from to are fit rise same replied done =
      subst (λ e. AreWoven terms end s (e ∷ entries) (lines_of (Stats line ∷ items)) lacks asked compacted low) (sym are.0)
      (told_woven terms end s (stats line) entries plain (shown_at end line) (slot.Stats line) (lines_of items) lacks asked compacted low
      refl tt refl refl (λ slots fed. refl) (lines_woven s entries items lacks asked compacted low line to are.1 fit.1 rise.1 same replied done))
  lines_woven s (entry ∷ entries) (Refused line code ∷ items) lacks asked compacted low from to are fit rise same replied done =
      let told = answer.Refused line code in
      subst (λ e. AreWoven terms end s (e ∷ entries) (lines_of (Refused line code ∷ items)) lacks asked compacted low) (sym are.0)
      (told_woven terms end s (refused line code) entries plain told (slot.Refused line code) (lines_of items) lacks asked compacted low
      refl tt refl refl (λ slots fed. refl) (lines_woven s entries items lacks asked compacted low line to are.1 fit.1 rise.1 same replied done))
  lines_woven s (entry ∷ entries) (Fault line code ∷ items) lacks asked compacted low from to are fit rise same replied done =
      let told = answer.Fault line code in
      subst (λ e. AreWoven terms end s (e ∷ entries) (lines_of (Fault line code ∷ items)) lacks asked compacted low) (sym are.0)
      (told_woven terms end s (fault line code) entries plain told (slot.Fault line code) (lines_of items) lacks asked compacted low
      refl tt refl refl (λ slots fed. refl) (lines_woven s entries items lacks asked compacted low line to are.1 fit.1 rise.1 same replied done))
  lines_woven s (entry ∷ entries) (QueryFault line code column ∷ items) lacks asked compacted low from to are fit rise same replied done =
      let told = answer.QueryFault line code column in
      subst (λ e. AreWoven terms end s (e ∷ entries) (lines_of (QueryFault line code column ∷ items)) lacks asked compacted low) (sym are.0)
      (told_woven terms end s (query_fault line code column) entries plain told (slot.QueryFault line code column) (lines_of items) lacks asked compacted low
      tt tt refl refl (λ slots fed. refl) (lines_woven s entries items lacks asked compacted low line to are.1 fit.1 rise.1 same replied done))
  lines_woven s (entry ∷ entries) (Memory line ∷ items) lacks asked compacted low from to are fit rise same replied done =
      unread_woven terms end s entry line entries (lines_of items) lacks asked compacted low are.0
      (lines_woven s entries items lacks asked compacted low line to are.1 fit.1 rise.1 same replied done)
  lines_woven s entries items lacks asked compacted low from to are fit rise same replied done = absurd are

pub woven : (terms : Terms) (s : Standing) (end : Standing) (entries : List Entry) (items : List Item) (lacks : List Bool) (fed : List Answer) (asked : ℕ → List Answer) (compacted : List Answer) (low from to : ℕ)
    → AreItemsOf entries items → ItemsFit terms items → Rise from to (map item_line items)
    → length lacks ≡ length (feed_entries (feed_items items))
    → fed ≡ given (fed_one terms) (fed_answers terms) s.feed (feed_entries (feed_items items)) lacks
    → ((place : ℕ) → AreReplied terms.schema end.feed.journal low (asks_at place items) (asked place))
    → AreCompacted low (made end.feed) (compact_entries (compactions items)) compacted
    → low ≤ made end.feed
    → Woven terms s entries items lacks fed asked compacted low end
woven terms s end entries items lacks fed asked compacted low from to are fit rise same fed_is replied done below = record {
  marks = w.marks;
  marked = w.marked;
  feed = w.feed;
  covers = w.covers;
  answers = ap (λ answers. merged (shown_at end) (map slot_of items) answers asked compacted) fed_is ∙ w.answers;
  within = w.within;
  sessions = sessions;
  stacks = w.stacks low below done;
}
  where
    w : AreWoven terms end s entries (lines_of items) lacks asked compacted low
    w = lines_woven terms end s entries items lacks asked compacted low from to are fit rise same replied done

    sessions : (session : ℕ) → Between low (made end.feed) (numbers_in (asks_in session) entries w.marks)
    sessions zero = subst (Between low (made end.feed)) (sym w.no_session) below
    sessions (suc place) = subst (λ session. Between low (made end.feed) (numbers_in (asks_in session) entries w.marks)) (add-one place) (w.sessions place low below (replied place))
