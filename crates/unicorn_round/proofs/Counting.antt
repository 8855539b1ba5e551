-- What answers come to, for one record and for another.
use Rattle.std.proofs.Common.{◌≡◌, ℕ, ◌+◌, ◌||◌, Bool, true, false, inl, inr, List, [], ◌∷◌, ◌++◌, map, filter, sum_by, if◌then◌else◌, is_some, refl, sym, ap, ◌∙◌, subst, arith}
use Rattle.std.specs.List.{AllByRecursion, list_any}
use Rattle.std.specs.Prelude.{⊤}
use Rattle.std.proofs.lemmas.List.Sums.{sum_by-append}
use Rattle.reply_text.specs.declared.answer.Answer.{Answer}
use Rattle.reply_text.specs.declared.answer.Answer.TheVariants as answer
use Rattle.script_rounds.specs.Entries.{Entry, change, publish, ask, compact, stats, refused, fault, query_fault}
use Rattle.script_rounds.specs.Terms.{Terms}
use Rattle.uni_table.specs.Commands.{next, refuses}
use Rattle.round_feed.specs.Feeds.{Feed, made, fed_one}
use Rattle.round_feed.specs.Steps.{marked_by}
use Rattle.unicorn_round.specs.declared.stacks.StackCover.{StackCover}
use Rattle.unicorn_round.specs.Answers.{Standing, opening_standing, after_entry, after_entries, after_round, at_end, answers, entry_answers, entries_answers, replies, round_answers, rounds_answers}
use Rattle.unicorn_round.specs.Counts.{CountsAgree, HasAll, IsApart, asks_told, hits_told, ids_told, publishes_told, is_ask, is_publish, nothing_lacks}
use Rattle.unicorn_round.specs.Legal.{AreMade, AreWithin, IsMade}
use Rattle.unicorn_round.specs.Marks.{Mark, plain, lacking, at, lacks, Record, RoundRecord, StackName}
use Rattle.unicorn_round.specs.Plain.{plain_mark, plain_marks, plain_round}
use Rattle.unicorn_round.specs.Records.{AreMarked, IsMarked, IsRecord, IsRecordFrom, IsRoundRecord}
use Rattle.unicorn_round.specs.Stacks.{is_due, is_untidied, rows_of, tidy_answer, tidy_answers}

-- an answer of a stack or of the stacks adds nothing
record IsQuiet (f : Answer → ℕ) : Type 0 where
  compacted : (line number : ℕ) → f (answer.Compacted line number) ≡ 0
  shown : (line number : ℕ) (rows : _) → f (answer.Stats line number rows) ≡ 0
  tidied : (vertical shard replica number : ℕ) → f (answer.Tidied vertical shard replica number) ≡ 0
  untidied : (vertical shard replica : ℕ) → f (answer.Untidied vertical shard replica) ≡ 0

-- an `ask` has the same mark in both
abbrev Alike : Entry → Mark → Mark → Type 0
Alike (ask line session viewer limit query) m p = m ≡ p
Alike entry m p = ⊤

abbrev AreAlike : List Entry → List Mark → List Mark → Type 0
AreAlike [] [] [] = ⊤
AreAlike (entry ∷ entries) (m ∷ ms) (p ∷ ps) = (lacks m ≡ false) × (lacks p ≡ false) × Alike entry m p × AreAlike entries ms ps
AreAlike entries ms ps = ⊥

or_false : (a b : Bool) → (a || b) ≡ false → (a ≡ false) × (b ≡ false)
or_false true b is = absurd cc
or_false false b is = (refl, is)

-- ---- marks

plain_has : (n : ℕ) (entry : Entry) → lacks (plain_mark n entry false) ≡ false
plain_has n (change line command) = refl
plain_has n (publish line) = refl
plain_has n (ask line session viewer limit query) = refl
plain_has n (compact line vertical shard replica) = refl
plain_has n (stats line) = refl
plain_has n (refused line code) = refl
plain_has n (fault line code) = refl
plain_has n (query_fault line code column) = refl

-- a line that is no `ask` has any mark
alike_other : (entry : Entry) (m p : Mark) → is_ask entry ≡ false → Alike entry m p
alike_other (change line command) m p other = tt
alike_other (publish line) m p other = tt
alike_other (ask line session viewer limit query) m p other = absurd cc
alike_other (compact line vertical shard replica) m p other = tt
alike_other (stats line) m p other = tt
alike_other (refused line code) m p other = tt
alike_other (fault line code) m p other = tt
alike_other (query_fault line code column) m p other = tt

-- where there is one number alone, an `ask` has that one
alike_number : (n k : ℕ) (entry : Entry) (m : Mark) (ms : List Mark) → IsMarked entry m → lacks m ≡ false → AreWithin n n (m ∷ ms) → k ≡ n → Alike entry m (plain_mark k entry false)
alike_number n k (change line command) m ms marked has within same = tt
alike_number n k (publish line) m ms marked has within same = tt
alike_number n k (ask line session viewer limit query) plain ms marked has within same = absurd marked
alike_number n k (ask line session viewer limit query) lacking ms marked has within same = absurd cc
alike_number n k (ask line session viewer limit query) (at j) ms marked has within same = let is : j ≡ k = omega (arith, within.0, within.1, same) in ap at is
alike_number n k (compact line vertical shard replica) m ms marked has within same = tt
alike_number n k (stats line) m ms marked has within same = tt
alike_number n k (refused line code) m ms marked has within same = tt
alike_number n k (fault line code) m ms marked has within same = tt
alike_number n k (query_fault line code column) m ms marked has within same = tt

within_rest : (low high : ℕ) (m : Mark) (ms : List Mark) → AreWithin low high (m ∷ ms) → AreWithin low high ms
within_rest low high plain ms within = within
within_rest low high lacking ms within = within
within_rest low high (at n) ms within = within.2

module _ (terms : Terms) where
  -- no line but a publish makes a version
  feed_kept : (feed : Feed) (entry : Entry) (marked : Bool) → is_publish entry ≡ false → made (fed_one terms feed entry marked) ≡ made feed
  feed_kept feed (change line command) true other = refl
  feed_kept feed (change line command) false other = by (is_some (refuses terms.schema terms.limits feed.table command))
    where
      by : (b : Bool)
          → made (if b then feed else record { journal = feed.journal; batch = feed.batch ++ command ∷ []; table = next terms.schema feed.table command }) ≡ made feed
      by true = refl
      by false = refl
  feed_kept feed (publish line) marked other = absurd cc
  feed_kept feed (ask line session viewer limit query) marked other = refl
  feed_kept feed (compact line vertical shard replica) marked other = refl
  feed_kept feed (stats line) marked other = refl
  feed_kept feed (refused line code) marked other = refl
  feed_kept feed (fault line code) marked other = refl
  feed_kept feed (query_fault line code column) marked other = refl

  entries_kept : (s : Standing) (entries : List Entry) (marks : List Mark) → list_any is_publish entries ≡ false → made (after_entries terms s entries marks).feed ≡ made s.feed
  entries_kept s [] marks none = refl
  entries_kept s (entry ∷ entries) [] none = refl
  entries_kept s (entry ∷ entries) (mark ∷ marks) none =
      let each = or_false (is_publish entry) (list_any is_publish entries) none in
      entries_kept (after_entry terms s entry mark) entries marks each.1 ∙ feed_kept s.feed entry (lacks mark) each.0

  -- in a round without a publish there is one number alone
  alike_still : (n : ℕ) (s : Standing) (entries : List Entry) (ms : List Mark) → AreMarked entries ms → list_any lacks ms ≡ false → AreWithin n n ms → made s.feed ≡ n
      → list_any is_publish entries ≡ false → AreAlike entries ms (plain_marks terms s entries (map (λ entry. false) entries))
  alike_still n s [] [] marked has within same none = tt
  alike_still n s [] (m ∷ ms) marked has within same none = absurd marked
  alike_still n s (entry ∷ entries) [] marked has within same none = absurd marked
  alike_still n s (entry ∷ entries) (m ∷ ms) marked has within same none =
      let here = or_false (lacks m) (list_any lacks ms) has in
      let other = or_false (is_publish entry) (list_any is_publish entries) none in
      let p = plain_mark (made s.feed) entry false in (
        here.0,
        plain_has (made s.feed) entry,
        alike_number n (made s.feed) entry m ms marked.0 here.0 within same,
        alike_still n (after_entry terms s entry p) entries ms marked.1 here.1 (within_rest n n m ms within) (feed_kept s.feed entry (lacks p) other.0 ∙ same) other.1,
      )

  -- in a round without an `ask` there are no numbers to compare
  alike_silent : (s : Standing) (entries : List Entry) (ms : List Mark) → AreMarked entries ms → list_any lacks ms ≡ false → list_any is_ask entries ≡ false
      → AreAlike entries ms (plain_marks terms s entries (map (λ entry. false) entries))
  alike_silent s [] [] marked has none = tt
  alike_silent s [] (m ∷ ms) marked has none = absurd marked
  alike_silent s (entry ∷ entries) [] marked has none = absurd marked
  alike_silent s (entry ∷ entries) (m ∷ ms) marked has none =
      let here = or_false (lacks m) (list_any lacks ms) has in
      let other = or_false (is_ask entry) (list_any is_ask entries) none in
      let p = plain_mark (made s.feed) entry false in
      (here.0, plain_has (made s.feed) entry, alike_other entry m p other.0, alike_silent (after_entry terms s entry p) entries ms marked.1 here.1 other.1)

  -- the feed goes by what lacks memory
  same_feed : (s t : Standing) (entries : List Entry) (ms ps : List Mark) → AreAlike entries ms ps → s.feed ≡ t.feed
      → (after_entries terms s entries ms).feed ≡ (after_entries terms t entries ps).feed
  same_feed s t [] [] [] alike same = same
  same_feed s t [] [] (p ∷ ps) alike same = absurd alike
  same_feed s t [] (m ∷ ms) ps alike same = absurd alike
  same_feed s t (entry ∷ entries) [] ps alike same = absurd alike
  same_feed s t (entry ∷ entries) (m ∷ ms) [] alike same = absurd alike
  same_feed s t (entry ∷ entries) (m ∷ ms) (p ∷ ps) alike same =
      let lack : lacks m ≡ lacks p = alike.0 ∙ sym alike.1 in
      same_feed (after_entry terms s entry m) (after_entry terms t entry p) entries ms ps alike.3 (λ i. fed_one terms (same i) entry (lack i))

  -- ---- sums over answers

  module _ (f : Answer → ℕ) (quiet : IsQuiet f) where
    abbrev sum : Standing → Feed → Entry → Mark → ℕ
    sum end feed entry mark = sum_by f (entry_answers terms (replies terms.schema) end feed entry mark)

    -- the mark of a line that is no `ask` adds nothing
    unmarked : (end : Standing) (feed : Feed) (entry : Entry) (m : Mark) → lacks m ≡ false → is_ask entry ≡ false → sum end feed entry m ≡ sum end feed entry plain
    unmarked end feed entry plain has other = refl
    unmarked end feed entry lacking has other = absurd cc
    unmarked end feed (change line command) (at n) has other = refl
    unmarked end feed (publish line) (at n) has other = refl
    unmarked end feed (ask line session viewer limit query) (at n) has other = absurd cc
    unmarked end feed (compact line vertical shard replica) (at n) has other = omega (arith, quiet.compacted line n)
    unmarked end feed (stats line) (at n) has other = refl
    unmarked end feed (refused line code) (at n) has other = refl
    unmarked end feed (fault line code) (at n) has other = refl
    unmarked end feed (query_fault line code column) (at n) has other = refl

    -- nor do the stacks that it stands beside
    by_feed : (end other_end : Standing) (feed other_feed : Feed) (entry : Entry) → feed ≡ other_feed → is_ask entry ≡ false → sum end feed entry plain ≡ sum other_end other_feed entry plain
    by_feed end other_end feed other_feed (change line command) same other = ap (λ now. sum end now (change line command) plain) same
    by_feed end other_end feed other_feed (publish line) same other = ap (λ now. sum end now (publish line) plain) same
    by_feed end other_end feed other_feed (ask line session viewer limit query) same other = absurd cc
    by_feed end other_end feed other_feed (compact line vertical shard replica) same other = refl
    by_feed end other_end feed other_feed (stats line) same other = omega (arith, quiet.shown line (made end.feed) (rows_of (made end.feed) end.covers), quiet.shown line (made other_end.feed) (rows_of (made other_end.feed) other_end.covers))
    by_feed end other_end feed other_feed (refused line code) same other = refl
    by_feed end other_end feed other_feed (fault line code) same other = refl
    by_feed end other_end feed other_feed (query_fault line code column) same other = refl

    -- an `ask` goes by the journal at the round's end
    asked : (end other_end : Standing) (feed other_feed : Feed) (line session viewer limit : ℕ) (query : _) (m : Mark) → end.feed ≡ other_end.feed
        → sum end feed (ask line session viewer limit query) m ≡ sum other_end other_feed (ask line session viewer limit query) m
    asked end other_end feed other_feed line session viewer limit query plain same = refl
    asked end other_end feed other_feed line session viewer limit query lacking same = refl
    asked end other_end feed other_feed line session viewer limit query (at n) same = ap (λ (now : Feed). sum_by f (replies terms.schema now.journal line viewer limit query n)) same

    entry_sum : (end other_end : Standing) (feed other_feed : Feed) (entry : Entry) (m p : Mark) → lacks m ≡ false → lacks p ≡ false → Alike entry m p → end.feed ≡ other_end.feed → feed ≡ other_feed
        → (b : Bool) → is_ask entry ≡ b → sum end feed entry m ≡ sum other_end other_feed entry p
    entry_sum end other_end feed other_feed (ask line session viewer limit query) m p has has_too alike ends feeds b is =
        asked end other_end feed other_feed line session viewer limit query m ends ∙ ap (sum other_end other_feed (ask line session viewer limit query)) alike
    entry_sum end other_end feed other_feed entry m p has has_too alike ends feeds false is =
        unmarked end feed entry m has is ∙ by_feed end other_end feed other_feed entry feeds is ∙ sym (unmarked other_end other_feed entry p has_too is)
    entry_sum end other_end feed other_feed (change line command) m p has has_too alike ends feeds true is = absurd cc
    entry_sum end other_end feed other_feed (publish line) m p has has_too alike ends feeds true is = absurd cc
    entry_sum end other_end feed other_feed (compact line vertical shard replica) m p has has_too alike ends feeds true is = absurd cc
    entry_sum end other_end feed other_feed (stats line) m p has has_too alike ends feeds true is = absurd cc
    entry_sum end other_end feed other_feed (refused line code) m p has has_too alike ends feeds true is = absurd cc
    entry_sum end other_end feed other_feed (fault line code) m p has has_too alike ends feeds true is = absurd cc
    entry_sum end other_end feed other_feed (query_fault line code column) m p has has_too alike ends feeds true is = absurd cc

    entries_sum : (end other_end s t : Standing) (entries : List Entry) (ms ps : List Mark) → AreAlike entries ms ps → end.feed ≡ other_end.feed → s.feed ≡ t.feed
        → sum_by f (entries_answers terms (replies terms.schema) end s entries ms) ≡ sum_by f (entries_answers terms (replies terms.schema) other_end t entries ps)
    entries_sum end other_end s t [] [] [] alike ends same = refl
    entries_sum end other_end s t [] [] (p ∷ ps) alike ends same = absurd alike
    entries_sum end other_end s t [] (m ∷ ms) ps alike ends same = absurd alike
    entries_sum end other_end s t (entry ∷ entries) [] ps alike ends same = absurd alike
    entries_sum end other_end s t (entry ∷ entries) (m ∷ ms) [] alike ends same = absurd alike
    entries_sum end other_end s t (entry ∷ entries) (m ∷ ms) (p ∷ ps) alike ends same =
        let lack : lacks m ≡ lacks p = alike.0 ∙ sym alike.1 in
        let here = entry_sum end other_end s.feed t.feed entry m p alike.0 alike.1 alike.2 ends same (is_ask entry) refl in
        let rest = entries_sum end other_end (after_entry terms s entry m) (after_entry terms t entry p) entries ms ps alike.3 ends (λ i. fed_one terms (same i) entry (lack i)) in
        sum_by-append f (entry_answers terms (replies terms.schema) end s.feed entry m) (entries_answers terms (replies terms.schema) end (after_entry terms s entry m) entries ms)
        ∙ (λ i. here i + rest i)
        ∙ sym (sum_by-append f (entry_answers terms (replies terms.schema) other_end t.feed entry p) (entries_answers terms (replies terms.schema) other_end (after_entry terms t entry p) entries ps))

    tidied_sum : (number : ℕ) (untidied : List StackName) (covers : List StackCover) → sum_by f (map (tidy_answer number untidied) covers) ≡ 0
    tidied_sum number untidied [] = refl
    tidied_sum number untidied (cover ∷ covers) =
        let here : 0 + f (tidy_answer number untidied cover) ≡ 0 = one (is_untidied untidied cover) in
        let first : sum_by f (tidy_answer number untidied cover ∷ []) ≡ 0 = here in
        let rest : sum_by f (map (tidy_answer number untidied) covers) ≡ 0 = tidied_sum number untidied covers in
        let all : sum_by f (tidy_answer number untidied cover ∷ []) + sum_by f (map (tidy_answer number untidied) covers) ≡ 0 = omega (arith, first, rest) in
        sum_by-append f (tidy_answer number untidied cover ∷ []) (map (tidy_answer number untidied) covers) ∙ all
      where
        one : (b : Bool) → 0 + f (if b then answer.Untidied cover.vertical cover.shard cover.replica else answer.Tidied cover.vertical cover.shard cover.replica number) ≡ 0
        one true = omega (arith, quiet.untidied cover.vertical cover.shard cover.replica)
        one false = omega (arith, quiet.tidied cover.vertical cover.shard cover.replica number)

    round_sum : (s t : Standing) (entries : List Entry) (told other : RoundRecord) → AreAlike entries told.marks other.marks → s.feed ≡ t.feed
        → sum_by f (round_answers terms (replies terms.schema) s entries told) ≡ sum_by f (round_answers terms (replies terms.schema) t entries other)
    round_sum s t entries told other alike same =
        let last = after_entries terms s entries told.marks in let other_last = after_entries terms t entries other.marks in
        let entered = entries_sum (at_end told last) (at_end other other_last) s t entries told.marks other.marks alike (same_feed s t entries told.marks other.marks alike same) same in
        let tidied = tidied_sum (made last.feed) told.untidied (filter (is_due (made last.feed)) last.covers) in
        let other_tidied = tidied_sum (made other_last.feed) other.untidied (filter (is_due (made other_last.feed)) other_last.covers) in
        sum_by-append f (entries_answers terms (replies terms.schema) (at_end told last) s entries told.marks) (tidy_answers (made last.feed) told.untidied last.covers)
        ∙ (λ i. entered i + (tidied ∙ sym other_tidied) i)
        ∙ sym (sum_by-append f (entries_answers terms (replies terms.schema) (at_end other other_last) t entries other.marks) (tidy_answers (made other_last.feed) other.untidied other_last.covers))

  -- ---- rounds

  -- the marks of a round, and those of answering it line by line
  round_alike : (s t : Standing) (entries : List Entry) (told : RoundRecord) → IsRoundRecord terms s entries told → IsMade terms s entries told → HasAll told → IsApart entries → s.feed ≡ t.feed
      → AreAlike entries told.marks (plain_marks terms t entries (map (λ entry. false) entries))
  round_alike s t entries told is within has (inl none) same =
      let still = entries_kept s entries told.marks none in
      alike_still (made s.feed) t entries told.marks is.marked has (subst (λ high. AreWithin (made s.feed) high told.marks) still within) (sym (ap made same)) none
  round_alike s t entries told is within has (inr none) same = alike_silent t entries told.marks is.marked has none

  rounds_sum : (f : Answer → ℕ) (quiet : IsQuiet f) (s t : Standing) (rounds : List (List Entry)) (told : Record) → IsRecordFrom terms s rounds told → AreMade terms s rounds told
      → AllByRecursion HasAll told → AllByRecursion IsApart rounds → s.feed ≡ t.feed
      → sum_by f (rounds_answers terms (replies terms.schema) s rounds told)
      ≡ sum_by f (rounds_answers terms (replies terms.schema) t rounds (marked_by (after_round terms) (plain_round terms) t rounds (nothing_lacks rounds)))
  rounds_sum f quiet s t [] [] is made_in has apart same = refl
  rounds_sum f quiet s t [] (one ∷ told) is made_in has apart same = absurd is
  rounds_sum f quiet s t (round ∷ rounds) [] is made_in has apart same = absurd is
  rounds_sum f quiet s t (round ∷ rounds) (one ∷ told) is made_in has apart same =
      let plainly = plain_round terms t round (map (λ entry. false) round) in
      let alike = round_alike s t round one is.0 made_in.0 has.0 apart.0 same in
      let here = round_sum f quiet s t round one plainly alike same in
      let later = after_round terms s round one in let later_too = after_round terms t round plainly in
      let rest = rounds_sum f quiet later later_too rounds told is.1 made_in.1 has.1 apart.1 (same_feed s t round one.marks plainly.marks alike same) in
      let others = marked_by (after_round terms) (plain_round terms) later_too rounds (nothing_lacks rounds) in
      sum_by-append f (round_answers terms (replies terms.schema) s round one) (rounds_answers terms (replies terms.schema) later rounds told)
      ∙ (λ i. here i + rest i)
      ∙ sym (sum_by-append f (round_answers terms (replies terms.schema) t round plainly) (rounds_answers terms (replies terms.schema) later_too rounds others))

publishes_quiet : IsQuiet publishes_told
publishes_quiet = record { compacted = λ line number. refl; shown = λ line number rows. refl; tidied = λ vertical shard replica number. refl; untidied = λ vertical shard replica. refl }

asks_quiet : IsQuiet asks_told
asks_quiet = record { compacted = λ line number. refl; shown = λ line number rows. refl; tidied = λ vertical shard replica number. refl; untidied = λ vertical shard replica. refl }

hits_quiet : IsQuiet hits_told
hits_quiet = record { compacted = λ line number. refl; shown = λ line number rows. refl; tidied = λ vertical shard replica number. refl; untidied = λ vertical shard replica. refl }

ids_quiet : IsQuiet ids_told
ids_quiet = record { compacted = λ line number. refl; shown = λ line number rows. refl; tidied = λ vertical shard replica number. refl; untidied = λ vertical shard replica. refl }

pub counts_agree : CountsAgree
counts_agree = record {
  same = λ terms rounds told is legal has apart.
      let by = λ (f : Answer → ℕ) (quiet : IsQuiet f). rounds_sum terms f quiet (opening_standing terms) (opening_standing terms) rounds told is legal.made has apart refl in
      (λ i. record {
        publishes = by publishes_told publishes_quiet i;
        asks = by asks_told asks_quiet i;
        hits = by hits_told hits_quiet i;
        ids = by ids_told ids_quiet i;
      });
}

-- no rounds have no answers
pub nothing_answered : (terms : Terms) (told : Record) → IsRecord terms [] told → answers terms [] told ≡ []
nothing_answered terms [] is = refl
nothing_answered terms (one ∷ told) is = absurd is
