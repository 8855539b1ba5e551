-- The answers of a round, put together line by line: one line more.
use Rattle.std.proofs.Common.{Box, Global, ◌≡◌, ◌≤◌, ◌+◌, ◌==◌, ℕ, Bool, true, false, List, [], ◌∷◌, ◌++◌, map, drop, refl, ap, sym, ◌∙◌, subst, arith}
use Rattle.std.proofs.lemmas.Bool.Decides.{nat_tests}
use Rattle.query_check.specs.Plan.{stated_of}
use Rattle.query_check.specs.declared.checked.Checked.{Checked}
use Rattle.reply_text.specs.declared.answer.Answer.{Answer}
use Rattle.reply_text.specs.declared.answer.Answer.TheVariants as answer
use Rattle.script_rounds.specs.declared.item.Item.{Item}
use Rattle.script_rounds.specs.declared.item.Item.TheVariants.{Ask, Compact}
use Rattle.script_rounds.specs.Entries.{Entry, ask, compact, line_of, reads_query}
use Rattle.script_rounds.specs.Terms.{Terms}
use Rattle.session_asks.specs.declared.asks.AskLine.{AskLine}
use Rattle.session_asks.specs.Replies.{AreReplied}
use Rattle.round_feed.specs.Compacted.{AreCompacted, compact_entries}
use Rattle.round_feed.specs.Fed.{fed_answers, feed_entries}
use Rattle.round_feed.specs.Feeds.{Feed, made, fed_one}
use Rattle.round_feed.specs.Steps.{after, given}
use Rattle.unicorn_round.specs.declared.slot.Slot.{Slot}
use Rattle.unicorn_round.specs.declared.slot.Slot.TheVariants as slot
use Rattle.unicorn_round.specs.Answers.{Standing, after_entry, after_entries, covers_after, entry_answers, entries_answers, replies}
use Rattle.unicorn_round.specs.Legal.{AreWithin, Between, numbers_in, asks_in, compacts}
use Rattle.unicorn_round.specs.Marks.{Mark, lacking}
use Rattle.unicorn_round.specs.Records.{IsMarked, IsPlainOrLacking, AreMarked}
use Rattle.unicorn_round.specs.Weaving.{feed_items, compactions, asks_at, slot_of, popped, others, merged, shown_at, compacted_covers}
use Rattle.unicorn_round.proofs.AskedPlaces.{ask_line, by_place, popped-same, replied_same, replied_other, same_number-true}
use Rattle.unicorn_round.proofs.FedAnswers.{AreAfter, IsOwn, Passes, own_is, others_are, fed_own, given_passes}
use Rattle.unicorn_round.proofs.MarkReading.{feed_mark, feed_mark-none, first_mark, first_mark-some, replied_within, replied_between, reply_is, compacted_within, compacted_between, compacted_is, compacted_covers-more}
use Rattle.unicorn_round.proofs.Numbers.{numbers_more, numbers_passing, numbers_failing, numbers_without, between_without, between_failing, within_without}
use Rattle.unicorn_round.proofs.SerialSteps.{after_lacking, reading_lacks}

-- the lines of a round by who answers them: the slots of all, the entries of the feed, the asks by place, and
-- the compactions
pub record Lines : Type 0 where
  pub slots : List Slot
  pub feeds : List Entry
  pub asks : ℕ → List AskLine
  pub compacting : List Item

abbrev pub lines_of : List Item → Lines
lines_of items = record { slots = map slot_of items; feeds = feed_entries (feed_items items); asks = λ place. asks_at place items; compacting = compactions items }

-- the answers to entries of the feed
abbrev pub fed_to : Terms → Feed → List Entry → List Bool → List Answer
fed_to terms feed entries lacks = given (fed_one terms) (fed_answers terms) feed entries lacks

-- What lines were answered is what their entries answer, for some marks within the bounds. The numbers of a
-- session, and those of a stack, follow any number that their answers follow.
pub record AreWoven (terms : Terms) (end s : Standing) (entries : List Entry) (lines : Lines) (lacks : List Bool) (asked : ℕ → List Answer) (compacted : List Answer) (low : ℕ) : Type 0 where
  pub marks : List Mark
  pub marked : AreMarked entries marks
  pub feed : (after_entries terms s entries marks).feed ≡ after (fed_one terms) s.feed lines.feeds lacks
  pub covers : (after_entries terms s entries marks).covers ≡ compacted_covers s.covers lines.compacting compacted
  pub answers :
      merged (shown_at end) lines.slots (fed_to terms s.feed lines.feeds lacks) asked compacted ≡ entries_answers terms (replies terms.schema) end s entries marks
  pub within : AreWithin low (made end.feed) marks
  pub no_session : numbers_in (asks_in 0) entries marks ≡ []
  pub sessions : (place from : ℕ) → from ≤ made end.feed → AreReplied terms.schema end.feed.journal from (lines.asks place) (asked place)
      → Between from (made end.feed) (numbers_in (asks_in (place + 1)) entries marks)
  pub stacks : (from : ℕ) → from ≤ made end.feed → AreCompacted from (made end.feed) (compact_entries lines.compacting) compacted
      → (vertical shard replica : ℕ) → Between from (made end.feed) (numbers_in (compacts vertical shard replica) entries marks)

module _ (terms : Terms) (end : Standing) where
  -- no line
  pub none_woven : (s : Standing) (lacks : List Bool) (asked : ℕ → List Answer) (compacted : List Answer) (low : ℕ) → AreWoven terms end s [] (lines_of []) lacks asked compacted low
  none_woven s lacks asked compacted low = record {
    marks = [];
    marked = tt;
    feed = refl;
    covers = refl;
    answers = refl;
    within = tt;
    no_session = refl;
    sessions = λ place from below all. below;
    stacks = λ from below all vertical shard replica. below;
  }

  -- one line more of the feed
  pub feed_woven : (s : Standing) (entry : Entry) (entries : List Entry) (lines : Lines) (lack : Bool) (lacks : List Bool) (asked : ℕ → List Answer) (compacted : List Answer) (low : ℕ)
      → IsMarked entry (feed_mark lack) → covers_after s.covers entry (feed_mark lack) ≡ s.covers
      → entry_answers terms (replies terms.schema) end s.feed entry (feed_mark lack) ≡ fed_answers terms s.feed entry lack → AreAfter (line_of entry) lines.feeds
      → AreWoven terms end (record { feed = fed_one terms s.feed entry lack; covers = s.covers }) entries lines lacks asked compacted low
      → AreWoven terms end s (entry ∷ entries) (record lines { slots = slot.Feed (line_of entry) ∷ lines.slots; feeds = entry ∷ lines.feeds }) (lack ∷ lacks) asked compacted low
  feed_woven s entry entries lines lack lacks asked compacted low marked stays answered later w = record {
    marks = mark ∷ w.marks;
    marked = (marked, w.marked);
    feed = ap (λ (t : Standing). (after_entries terms t entries w.marks).feed) (there lack stays) ∙ w.feed;
    covers = ap (λ (t : Standing). (after_entries terms t entries w.marks).covers) (there lack stays) ∙ w.covers;
    answers =
        ap (λ one. one ++ merged (shown_at end) lines.slots (others (line_of entry) (answers ++ rest)) asked compacted) (own_is (line_of entry) answers rest is passes ∙ sym answered)
        ∙ ap (λ more. entry_answers terms (replies terms.schema) end s.feed entry mark ++ merged (shown_at end) lines.slots more asked compacted) (others_are (line_of entry) answers rest is passes)
        ∙ ap (λ more. entry_answers terms (replies terms.schema) end s.feed entry mark ++ more) w.answers
        ∙ ap (λ t. entry_answers terms (replies terms.schema) end s.feed entry mark ++ entries_answers terms (replies terms.schema) end t entries w.marks) (sym (there lack stays));
    within = within_without low (made end.feed) mark w.marks (feed_mark-none lack) w.within;
    no_session = numbers_without (asks_in 0) entry entries w.marks mark (feed_mark-none lack) ∙ w.no_session;
    sessions = λ place from below all. between_without (asks_in (place + 1)) entry entries w.marks from (made end.feed) mark (feed_mark-none lack) (w.sessions place from below all);
    stacks = λ from below all vertical shard replica. between_without (compacts vertical shard replica) entry entries w.marks from (made end.feed) mark (feed_mark-none lack) (w.stacks from below all vertical shard replica);
  }
    where
      mark : Mark
      mark = feed_mark lack

      next : Standing
      next = record { feed = fed_one terms s.feed entry lack; covers = s.covers }

      there : (lack : Bool) → covers_after s.covers entry (feed_mark lack) ≡ s.covers
          → after_entry terms s entry (feed_mark lack) ≡ record { feed = fed_one terms s.feed entry lack; covers = s.covers }
      there true stays = ap (λ covers. record { feed = fed_one terms s.feed entry true; covers = covers }) stays
      there false stays = ap (λ covers. record { feed = fed_one terms s.feed entry false; covers = covers }) stays

      answers : List Answer
      answers = fed_answers terms s.feed entry lack

      rest : List Answer
      rest = fed_to terms next.feed lines.feeds lacks

      is : IsOwn (line_of entry) answers
      is = fed_own terms s.feed entry lack

      passes : Passes (line_of entry) rest
      passes = given_passes terms (line_of entry) next.feed lines.feeds lacks later

  -- one line more whose answer is there already
  pub told_woven : (s : Standing) (entry : Entry) (entries : List Entry) (mark : Mark) (told : Answer) (one : Slot) (lines : Lines) (lacks : List Bool) (asked : ℕ → List Answer) (compacted : List Answer) (low : ℕ)
      → IsMarked entry mark → IsPlainOrLacking mark → after_entry terms s entry mark ≡ s → entry_answers terms (replies terms.schema) end s.feed entry mark ≡ told ∷ []
      → ((slots : List Slot) (fed : List Answer) → merged (shown_at end) (one ∷ slots) fed asked compacted ≡ told ∷ merged (shown_at end) slots fed asked compacted)
      → AreWoven terms end s entries lines lacks asked compacted low → AreWoven terms end s (entry ∷ entries) (record lines { slots = one ∷ lines.slots }) lacks asked compacted low
  told_woven s entry entries mark told one lines lacks asked compacted low marked none stays answered tells w = record {
    marks = mark ∷ w.marks;
    marked = (marked, w.marked);
    feed = ap (λ (t : Standing). (after_entries terms t entries w.marks).feed) stays ∙ w.feed;
    covers = ap (λ (t : Standing). (after_entries terms t entries w.marks).covers) stays ∙ w.covers;
    answers =
        tells lines.slots (fed_to terms s.feed lines.feeds lacks)
        ∙ ap (λ more. told ∷ more) w.answers
        ∙ ap (λ t. told ∷ entries_answers terms (replies terms.schema) end t entries w.marks) (sym stays)
        ∙ ap (λ first. first ++ entries_answers terms (replies terms.schema) end (after_entry terms s entry mark) entries w.marks) (sym answered);
    within = within_without low (made end.feed) mark w.marks none w.within;
    no_session = numbers_without (asks_in 0) entry entries w.marks mark none ∙ w.no_session;
    sessions = λ place from below all. between_without (asks_in (place + 1)) entry entries w.marks from (made end.feed) mark none (w.sessions place from below all);
    stacks = λ from below all vertical shard replica. between_without (compacts vertical shard replica) entry entries w.marks from (made end.feed) mark none (w.stacks from below all vertical shard replica);
  }

  -- one line more whose query was read without memory
  pub unread_woven : (s : Standing) (entry : Entry) (line : ℕ) (entries : List Entry) (lines : Lines) (lacks : List Bool) (asked : ℕ → List Answer) (compacted : List Answer) (low : ℕ)
      → (reads_query entry ≡ true) × (line_of entry ≡ line)
      → AreWoven terms end s entries lines lacks asked compacted low
      → AreWoven terms end s (entry ∷ entries) (record lines { slots = slot.Memory line ∷ lines.slots }) lacks asked compacted low
  unread_woven s entry line entries lines lacks asked compacted low is w =
      told_woven s entry entries lacking (answer.Memory line) (slot.Memory line) lines lacks asked compacted low
      (reading_lacks entry is.0) tt (after_lacking terms s entry) (ap (λ n. answer.Memory n ∷ []) is.1) (λ slots fed. refl) w

  -- one `ask` more, of the session at a place
  pub ask_woven : (s : Standing) (place line session viewer limit : ℕ) (query : Box Checked Global) (entries : List Entry) (items : List Item) (lacks : List Bool) (asked : ℕ → List Answer) (compacted : List Answer) (low : ℕ)
      → session ≡ place + 1 → AreReplied terms.schema end.feed.journal low (asks_at place (Ask line viewer session limit query ∷ items)) (asked place)
      → AreWoven terms end s entries (lines_of items) lacks (popped place asked) compacted low
      → AreWoven terms end s (ask line session viewer limit (stated_of query.value).plan ∷ entries)
      (record { slots = slot.Ask place ∷ map slot_of items; feeds = feed_entries (feed_items items); asks = λ other. asks_at other (Ask line viewer session limit query ∷ items); compacting = compactions items })
      lacks asked compacted low
  ask_woven s place line session viewer limit query entries items lacks asked compacted low at_place all w = record {
    marks = mark ∷ w.marks;
    marked = (first_mark-some (asked place), w.marked);
    feed = w.feed;
    covers = w.covers;
    answers =
        ap (λ first. first ++ merged (shown_at end) (map slot_of items) (fed_to terms s.feed (feed_entries (feed_items items)) lacks) (popped place asked) compacted)
        (reply_is terms end s.feed low line session viewer limit query.value (asks_at place items) (asked place) (same low all))
        ∙ ap (λ more. entry_answers terms (replies terms.schema) end s.feed entry mark ++ more) w.answers;
    within = replied_within terms.schema end.feed.journal low one (asks_at place items) (asked place) w.marks (same low all) w.within;
    no_session = numbers_failing (asks_in 0) entry entries w.marks mark (grind (arith, nat_tests, at_place)) ∙ w.no_session;
    sessions = by_place place line session viewer limit query at_place Follows here there;
    stacks = λ from below follows vertical shard replica.
        between_failing (compacts vertical shard replica) entry entries w.marks from (made end.feed) mark refl (w.stacks from below follows vertical shard replica);
  }
    where
      entry : Entry
      entry = ask line session viewer limit (stated_of query.value).plan

      one : AskLine
      one = ask_line place line session viewer limit query at_place

      mark : Mark
      mark = first_mark (asked place)

      Follows : ℕ → Type 0
      Follows other = (from : ℕ) → from ≤ made end.feed → AreReplied terms.schema end.feed.journal from (asks_at other (Ask line viewer session limit query ∷ items)) (asked other)
          → Between from (made end.feed) (numbers_in (asks_in (other + 1)) (entry ∷ entries) (mark ∷ w.marks))

      same : (from : ℕ) → AreReplied terms.schema end.feed.journal from (asks_at place (Ask line viewer session limit query ∷ items)) (asked place)
          → AreReplied terms.schema end.feed.journal from (one ∷ asks_at place items) (asked place)
      same from follows = replied_same place line session viewer limit query at_place terms.schema end.feed.journal from items asked follows

      others_follow : (middle : ℕ) → middle ≤ made end.feed → AreReplied terms.schema end.feed.journal middle (asks_at place items) (drop 1 (asked place))
          → Between middle (made end.feed) (numbers_in (asks_in (place + 1)) entries w.marks)
      others_follow middle below rest = w.sessions place middle below (subst (AreReplied terms.schema end.feed.journal middle (asks_at place items)) (sym (popped-same place asked)) rest)

      here : Follows place
      here from below follows =
          subst (Between from (made end.feed)) (sym (numbers_passing (asks_in (place + 1)) entry entries w.marks mark (same_number-true session (place + 1) at_place)))
          (replied_between terms.schema end.feed.journal from one (asks_at place items) (asked place) (numbers_in (asks_in (place + 1)) entries w.marks) others_follow below (same from follows))

      there : (other : ℕ) → (other == place) ≡ false → (session == other + 1) ≡ false → Follows other
      there other apart is from below follows =
          between_failing (asks_in (other + 1)) entry entries w.marks from (made end.feed) mark is
          (w.sessions other from below (replied_other place line session viewer limit query at_place terms.schema end.feed.journal from items asked other apart is follows))

  -- one `compact` more
  pub compact_woven : (s : Standing) (line vertical shard replica : ℕ) (entries : List Entry) (lines : Lines) (lacks : List Bool) (asked : ℕ → List Answer) (compacted : List Answer) (low : ℕ)
      → AreCompacted low (made end.feed) (compact line vertical shard replica ∷ compact_entries lines.compacting) compacted
      → AreWoven terms end (after_entry terms s (compact line vertical shard replica) (first_mark compacted)) entries lines lacks asked (drop 1 compacted) low
      → AreWoven terms end s (compact line vertical shard replica ∷ entries)
      (record lines { slots = slot.Compact ∷ lines.slots; compacting = Compact line vertical shard replica ∷ lines.compacting }) lacks asked compacted low
  compact_woven s line vertical shard replica entries lines lacks asked compacted low all w = record {
    marks = mark ∷ w.marks;
    marked = (first_mark-some compacted, w.marked);
    feed = w.feed;
    covers = w.covers ∙ sym (compacted_covers-more low (made end.feed) line vertical shard replica s.covers lines.compacting (compact_entries lines.compacting) compacted all);
    answers =
        ap (λ first. first ++ merged (shown_at end) lines.slots (fed_to terms s.feed lines.feeds lacks) asked (drop 1 compacted))
        (compacted_is terms end s.feed low (made end.feed) line vertical shard replica (compact_entries lines.compacting) compacted all)
        ∙ ap (λ more. entry_answers terms (replies terms.schema) end s.feed entry mark ++ more) w.answers;
    within = compacted_within low (made end.feed) entry (compact_entries lines.compacting) compacted w.marks all w.within;
    no_session = numbers_failing (asks_in 0) entry entries w.marks mark refl ∙ w.no_session;
    sessions = λ place from below follows. between_failing (asks_in (place + 1)) entry entries w.marks from (made end.feed) mark refl (w.sessions place from below follows);
    stacks = λ from below follows v s r.
        subst (Between from (made end.feed)) (sym (numbers_more (compacts v s r) entry entries w.marks mark))
        (compacted_between from (made end.feed) entry (compact_entries lines.compacting) compacted (numbers_in (compacts v s r) entries w.marks) (compacts v s r entry)
        (λ middle under rest. w.stacks middle under rest v s r) below follows);
  }
    where
      entry : Entry
      entry = compact line vertical shard replica

      mark : Mark
      mark = first_mark compacted
