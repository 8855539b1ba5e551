-- What holds of each answer.
use Rattle.std.proofs.Common.{◌≤◌, ◌<◌, ◌+◌, ◌^◌, ◌==◌, ℕ, Bool, true, false, List, [], ◌∷◌, length, map, filter, nat_lt, if◌then◌else◌, Option, None, Some, refl, arith}
use Rattle.std.proofs.lemmas.List.{length-map}
use Rattle.std.specs.List.{AllByRecursion}
use Rattle.uni_base.specs.StandardLimits.{IsWithinStandard}
use Rattle.uni_table.specs.Commands.{refuses}
use Rattle.uni_table.specs.Journals.{fold_of, first}
use Rattle.uni_table.specs.declared.refusal.FeedRefusal.{FeedRefusal}
use Rattle.uni_table.specs.declared.refusal.FeedRefusal.TheVariants.{NoSource, NoTarget, UnknownCircle, Elsewhere, ForwardFull, TableFull, Memory}
use Rattle.reply_text.specs.declared.answer.Answer.{Answer}
use Rattle.reply_text.specs.declared.answer.Answer.TheVariants as said
use Rattle.reply_text.specs.Heads.{head_of}
use Rattle.reply_text.specs.Laws.{numbers_of, words_of}
use Rattle.uni_base.specs.Lines.{AreUnbroken}
use Rattle.reply_text.specs.Printed.{AnswerIsDeclared}
use Rattle.script_rounds.specs.Asks.{most_hits}
use Rattle.script_rounds.specs.Entries.{Entry, change, publish, ask, compact, stats, refused, fault, query_fault, line_of}
use Rattle.script_rounds.specs.Laws.{all_entries}
use Rattle.script_rounds.specs.Terms.{Terms}
use Rattle.unicorn_round.specs.declared.stacks.StackCover.{StackCover}
use Rattle.unicorn_round.specs.Answers.{Standing, opening_standing, after_entry, after_entries, after_round, answers, entry_answers, entries_answers, round_answers, rounds_answers, replies}
use Rattle.round_feed.specs.Feeds.{Feed, made, refusal_answers, too_many_publishes}
use Rattle.unicorn_round.specs.Legal.{AreMade, AreWithin}
use Rattle.unicorn_round.specs.Marks.{Mark, plain, lacking, at, StackName, Record}
use Rattle.unicorn_round.specs.Stacks.{is_due, is_untidied, tidy_answer, tidy_answers, row_of, rows_of}
use Rattle.unicorn_round.proofs.Bounded.{Fits, FeedKeeps, Keeps, entry-keeps, entries-keep, end-keeps, round-keeps}
use Rattle.unicorn_round.proofs.Elements.{all-append, all-left, all-right, all-wider}
use Rattle.unicorn_round.proofs.Ranges.{HasWhole, IsInRange}
use Rattle.unicorn_round.proofs.Wholes.{reply-few, reply-words}

-- what is known of an entry
pub record IsFine (terms : Terms) (entry : Entry) : Type 0 where
  pub whole : HasWhole entry
  pub range : IsInRange terms entry
  pub line : line_of entry ≤ 2 ^ 63

whole-of : (terms : Terms) (entries : List Entry) → AllByRecursion (IsFine terms) entries → AllByRecursion HasWhole entries
whole-of terms entries fine = all-wider (IsFine terms) HasWhole (λ entry one. one.whole) entries fine

module _ (terms : Terms) (P : Answer → Type 0) (Ok : Mark → Type 0) where
  -- what holds of the answers of an entry, and of those of due stacks
  pub record Passes : Type 0 where
    pub entries : (end : Standing) (feed : Feed) (entry : Entry) (mark : Mark) → Keeps terms end → FeedKeeps terms feed → IsFine terms entry → Ok mark
        → AllByRecursion P (entry_answers terms (replies terms.schema) end feed entry mark)
    pub tidied : (number : ℕ) (cover : StackCover) → number ≤ terms.limits.publishes → Fits (length terms.schema.verticals) cover → P (said.Tidied cover.vertical cover.shard cover.replica number)
    pub untidied : (cover : StackCover) → Fits (length terms.schema.verticals) cover → P (said.Untidied cover.vertical cover.shard cover.replica)

  module _ (passes : Passes) where
    entries-pass : (end s : Standing) (entries : List Entry) (marks : List Mark) → Keeps terms end → Keeps terms s → AllByRecursion (IsFine terms) entries → AllByRecursion Ok marks
        → AllByRecursion P (entries_answers terms (replies terms.schema) end s entries marks)
    entries-pass end s [] marks last keeps fine ok = tt
    entries-pass end s (entry ∷ entries) [] last keeps fine ok = tt
    entries-pass end s (entry ∷ entries) (mark ∷ marks) last keeps fine ok =
        let now : Standing = after_entry terms s entry mark in
        all-append P (entry_answers terms (replies terms.schema) end s.feed entry mark) (entries_answers terms (replies terms.schema) end now entries marks)
        (passes.entries end s.feed entry mark last keeps.feed fine.0 ok.0)
        (entries-pass end now entries marks last (entry-keeps terms s entry mark fine.0.whole keeps) fine.1 ok.1)

    due-pass : (number : ℕ) (names : List StackName) (covers : List StackCover) → number ≤ terms.limits.publishes → AllByRecursion (Fits (length terms.schema.verticals)) covers
        → AllByRecursion P (tidy_answers number names covers)
    due-pass number names [] few fit = tt
    due-pass number names (cover ∷ covers) few fit = by (is_due number cover) (one (is_untidied names cover)) (due-pass number names covers few fit.1)
      where
        one : (b : Bool) → P (if b then said.Untidied cover.vertical cover.shard cover.replica else said.Tidied cover.vertical cover.shard cover.replica number)
        one true = passes.untidied cover fit.0
        one false = passes.tidied number cover few fit.0

        by : (due : Bool) → P (tidy_answer number names cover) → AllByRecursion P (tidy_answers number names covers)
            → AllByRecursion P (map (tidy_answer number names) (if due then cover ∷ filter (is_due number) covers else filter (is_due number) covers))
        by true here rest = (here, rest)
        by false here rest = rest

    rounds-pass : (s : Standing) (rounds : List (List Entry)) (told : Record) → Keeps terms s → AllByRecursion (IsFine terms) (all_entries rounds)
        → AllByRecursion (λ one. AllByRecursion Ok one.marks) told → AllByRecursion P (rounds_answers terms (replies terms.schema) s rounds told)
    rounds-pass s [] told keeps fine ok = tt
    rounds-pass s (round ∷ rounds) [] keeps fine ok = tt
    rounds-pass s (round ∷ rounds) (one ∷ told) keeps fine ok =
        let here : AllByRecursion (IsFine terms) round = all-left (IsFine terms) round (all_entries rounds) fine in
        let last : Standing = after_entries terms s round one.marks in
        let now : Standing = after_round terms s round one in
        let kept : Keeps terms last = entries-keep terms s round one.marks (whole-of terms round here) keeps in
        let ends : Keeps terms now = end-keeps terms last one kept in
        all-append P (round_answers terms (replies terms.schema) s round one) (rounds_answers terms (replies terms.schema) now rounds told)
        (all-append P (entries_answers terms (replies terms.schema) now s round one.marks) (tidy_answers (made last.feed) one.untidied last.covers)
        (entries-pass now s round one.marks ends keeps here ok.0) (due-pass (made last.feed) one.untidied last.covers kept.feed.few kept.covers))
        (rounds-pass now rounds told ends (all-right (IsFine terms) round (all_entries rounds) fine) ok.1)

    -- it holds of all answers
    pub answers-pass : (rounds : List (List Entry)) (told : Record) → Keeps terms (opening_standing terms) → AllByRecursion (IsFine terms) (all_entries rounds)
        → AllByRecursion (λ one. AllByRecursion Ok one.marks) told → AllByRecursion P (answers terms rounds told)
    answers-pass rounds told keeps fine ok = rounds-pass (opening_standing terms) rounds told keeps fine ok

-- what a change answers
refusal-all : (P : Answer → Type 0) (line : ℕ) → ((code : ℕ) → code ≤ 99 → P (said.Refused line code)) → P (said.Memory line) → (reason : Option FeedRefusal) → AllByRecursion P (refusal_answers line reason)
refusal-all P line one none None = tt
refusal-all P line one none (Some NoSource) = (one 13 (omega arith), tt)
refusal-all P line one none (Some NoTarget) = (one 14 (omega arith), tt)
refusal-all P line one none (Some UnknownCircle) = (one 15 (omega arith), tt)
refusal-all P line one none (Some Elsewhere) = (one 16 (omega arith), tt)
refusal-all P line one none (Some ForwardFull) = (one 17 (omega arith), tt)
refusal-all P line one none (Some TableFull) = (one 18 (omega arith), tt)
refusal-all P line one none (Some Memory) = (none, tt)

publish-all : (P : Answer → Type 0) (line number : ℕ) (b : Bool) → P (said.Published line number) → P (said.Refused line too_many_publishes)
    → AllByRecursion P (if b then said.Published line number ∷ [] else said.Refused line too_many_publishes ∷ [])
publish-all P line number true one other = (one, tt)
publish-all P line number false one other = (other, tt)

module _ (terms : Terms) where
  -- a stack that an answer names is declared, and no word in it holds an LF
  abbrev pub IsPrinted : Answer → Type 0
  IsPrinted answer = AnswerIsDeclared terms.schema answer × AreUnbroken (words_of answer)

  abbrev pub Any : Mark → Type 0
  Any mark = Unit {0}

  entry-printed : (end : Standing) (feed : Feed) (entry : Entry) (mark : Mark) → Keeps terms end → HasWhole entry
      → AllByRecursion IsPrinted (entry_answers terms (replies terms.schema) end feed entry mark)
  entry-printed end feed (change line command) lacking keeps fine = ((tt, refl), tt)
  entry-printed end feed (change line command) plain keeps fine = refusal-all IsPrinted line (λ code small. (tt, refl)) (tt, refl) (refuses terms.schema terms.limits feed.table command)
  entry-printed end feed (change line command) (at n) keeps fine = refusal-all IsPrinted line (λ code small. (tt, refl)) (tt, refl) (refuses terms.schema terms.limits feed.table command)
  entry-printed end feed (publish line) lacking keeps fine = ((tt, refl), tt)
  entry-printed end feed (publish line) plain keeps fine = publish-all IsPrinted line (made feed + 1) (nat_lt (made feed) terms.limits.publishes) (tt, refl) (tt, refl)
  entry-printed end feed (publish line) (at n) keeps fine = publish-all IsPrinted line (made feed + 1) (nat_lt (made feed) terms.limits.publishes) (tt, refl) (tt, refl)
  entry-printed end feed (ask line session viewer limit query) lacking keeps fine = ((tt, refl), tt)
  entry-printed end feed (ask line session viewer limit query) plain keeps fine = tt
  entry-printed end feed (ask line session viewer limit query) (at n) keeps fine = ((tt, reply-words terms.schema end.feed.journal n query viewer limit keeps.feed.journal), tt)
  entry-printed end feed (compact line vertical shard replica) lacking keeps fine = ((tt, refl), tt)
  entry-printed end feed (compact line vertical shard replica) plain keeps fine = tt
  entry-printed end feed (compact line vertical shard replica) (at n) keeps fine = ((tt, refl), tt)
  entry-printed end feed (stats line) lacking keeps fine = ((tt, refl), tt)
  entry-printed end feed (stats line) plain keeps fine = ((tt, refl), tt)
  entry-printed end feed (stats line) (at n) keeps fine = ((tt, refl), tt)
  entry-printed end feed (refused line code) lacking keeps fine = ((tt, refl), tt)
  entry-printed end feed (refused line code) plain keeps fine = ((tt, refl), tt)
  entry-printed end feed (refused line code) (at n) keeps fine = ((tt, refl), tt)
  entry-printed end feed (fault line code) lacking keeps fine = ((tt, refl), tt)
  entry-printed end feed (fault line code) plain keeps fine = ((tt, refl), tt)
  entry-printed end feed (fault line code) (at n) keeps fine = ((tt, refl), tt)
  entry-printed end feed (query_fault line code column) lacking keeps fine = ((tt, refl), tt)
  entry-printed end feed (query_fault line code column) plain keeps fine = ((tt, refl), tt)
  entry-printed end feed (query_fault line code column) (at n) keeps fine = ((tt, refl), tt)

  pub printed-passes : Passes terms IsPrinted Any
  printed-passes = record {
    entries = λ end feed entry mark keeps fed fine ok. entry-printed end feed entry mark keeps fine.whole;
    tidied = λ number cover few fits. (fits.vertical, refl);
    untidied = λ cover fits. (fits.vertical, refl);
  }

  pub any-marks : (told : Record) → AllByRecursion (λ one. AllByRecursion Any one.marks) told
  any-marks [] = tt
  any-marks (one ∷ told) = (any one.marks, any-marks told)
    where
      any : (marks : List Mark) → AllByRecursion Any marks
      any [] = tt
      any (mark ∷ marks) = (tt, any marks)

  -- the numbers that its first line writes are of 64 bits
  abbrev pub IsSmall : Answer → Type 0
  IsSmall answer = AllByRecursion (λ n. n < 2 ^ 64) (numbers_of (head_of answer))

  abbrev pub HasSmall : Mark → Type 0
  HasSmall plain = Unit {0}
  HasSmall lacking = Unit {0}
  HasSmall (at number) = number < 2 ^ 64

  module _ (within : IsWithinStandard terms.limits) where
    most-few : most_hits terms ≤ 50000
    most-few = by (terms.schema.format == 2)
      where
        by : (b : Bool) → (if b then terms.limits.ask_limit_2 else terms.limits.ask_limit) ≤ 50000
        by true = within.ask_limit_2
        by false = omega (arith, within.ask_limit)

    refusal-small : (line : ℕ) → line ≤ 2 ^ 63 → (reason : Option FeedRefusal) → AllByRecursion IsSmall (refusal_answers line reason)
    refusal-small line low reason = refusal-all IsSmall line (λ code small. (omega arith, (omega (arith, small), tt))) (omega arith, tt) reason

    publish-small : (line number : ℕ) → line ≤ 2 ^ 63 → number ≤ terms.limits.publishes + 1 → (b : Bool)
        → AllByRecursion IsSmall (if b then said.Published line number ∷ [] else said.Refused line too_many_publishes ∷ [])
    publish-small line number low few b = publish-all IsSmall line number b (omega (arith, low), (omega (arith, few, within.publishes), tt)) (omega (arith, low), (omega arith, tt))

    stats-small : (line : ℕ) (end : Standing) → line ≤ 2 ^ 63 → Keeps terms end → IsSmall (said.Stats line (made end.feed) (rows_of (made end.feed) end.covers))
    stats-small line end low keeps =
        (omega (arith, low), (omega (arith, keeps.feed.few, within.publishes), (omega (arith, length-map end.covers (row_of (made end.feed)), keeps.count), tt)))

    entry-small : (end : Standing) (feed : Feed) (entry : Entry) (mark : Mark) → Keeps terms end → made feed ≤ terms.limits.publishes → IsFine terms entry → HasSmall mark
        → AllByRecursion IsSmall (entry_answers terms (replies terms.schema) end feed entry mark)
    entry-small end feed (change line command) lacking keeps few fine ok = ((omega (arith, fine.line), tt), tt)
    entry-small end feed (change line command) plain keeps few fine ok = refusal-small line fine.line (refuses terms.schema terms.limits feed.table command)
    entry-small end feed (change line command) (at n) keeps few fine ok = refusal-small line fine.line (refuses terms.schema terms.limits feed.table command)
    entry-small end feed (publish line) lacking keeps few fine ok = ((omega (arith, fine.line), tt), tt)
    entry-small end feed (publish line) plain keeps few fine ok = publish-small line (made feed + 1) fine.line (omega (arith, few)) (nat_lt (made feed) terms.limits.publishes)
    entry-small end feed (publish line) (at n) keeps few fine ok = publish-small line (made feed + 1) fine.line (omega (arith, few)) (nat_lt (made feed) terms.limits.publishes)
    entry-small end feed (ask line session viewer limit query) lacking keeps few fine ok = ((omega (arith, fine.line), tt), tt)
    entry-small end feed (ask line session viewer limit query) plain keeps few fine ok = tt
    entry-small end feed (ask line session viewer limit query) (at n) keeps few fine ok =
        let wanted : limit ≤ 50000 = omega (arith, fine.range, most-few) in
        ((omega (arith, fine.line), (ok, (omega (arith, wanted, reply-few terms.schema (fold_of terms.schema (first end.feed.journal n)) n query viewer limit), tt))), tt)
    entry-small end feed (compact line vertical shard replica) lacking keeps few fine ok = ((omega (arith, fine.line), tt), tt)
    entry-small end feed (compact line vertical shard replica) plain keeps few fine ok = tt
    entry-small end feed (compact line vertical shard replica) (at n) keeps few fine ok = ((omega (arith, fine.line), (ok, tt)), tt)
    entry-small end feed (stats line) lacking keeps few fine ok = ((omega (arith, fine.line), tt), tt)
    entry-small end feed (stats line) plain keeps few fine ok = (stats-small line end fine.line keeps, tt)
    entry-small end feed (stats line) (at n) keeps few fine ok = (stats-small line end fine.line keeps, tt)
    entry-small end feed (refused line code) lacking keeps few fine ok = ((omega (arith, fine.line), tt), tt)
    entry-small end feed (refused line code) plain keeps few fine ok = ((omega (arith, fine.line), (omega (arith, fine.range), tt)), tt)
    entry-small end feed (refused line code) (at n) keeps few fine ok = ((omega (arith, fine.line), (omega (arith, fine.range), tt)), tt)
    entry-small end feed (fault line code) lacking keeps few fine ok = ((omega (arith, fine.line), tt), tt)
    entry-small end feed (fault line code) plain keeps few fine ok = ((omega (arith, fine.line), (omega (arith, fine.range), tt)), tt)
    entry-small end feed (fault line code) (at n) keeps few fine ok = ((omega (arith, fine.line), (omega (arith, fine.range), tt)), tt)
    entry-small end feed (query_fault line code column) lacking keeps few fine ok = ((omega (arith, fine.line), tt), tt)
    entry-small end feed (query_fault line code column) plain keeps few fine ok = ((omega (arith, fine.line), (omega (arith, fine.range.0), (omega (arith, fine.range.1), tt))), tt)
    entry-small end feed (query_fault line code column) (at n) keeps few fine ok = ((omega (arith, fine.line), (omega (arith, fine.range.0), (omega (arith, fine.range.1), tt))), tt)

    pub small-passes : Passes terms IsSmall HasSmall
    small-passes = record {
      entries = λ end feed entry mark keeps fed fine ok. entry-small end feed entry mark keeps fed.few fine ok;
      tidied = λ number cover few fits. (omega (arith, fits.shard), (omega (arith, fits.replica), (omega (arith, few, within.publishes), tt)));
      untidied = λ cover fits. (omega (arith, fits.shard), (omega (arith, fits.replica), tt));
    }

    within-small : (low high : ℕ) (marks : List Mark) → high ≤ terms.limits.publishes → AreWithin low high marks → AllByRecursion HasSmall marks
    within-small low high [] few made = tt
    within-small low high (plain ∷ marks) few made = (tt, within-small low high marks few made)
    within-small low high (lacking ∷ marks) few made = (tt, within-small low high marks few made)
    within-small low high (at number ∷ marks) few made = (omega (arith, few, made.1, within.publishes), within-small low high marks few made.2)

    -- the numbers of a legal record are no more than there may be publishes
    pub small-marks : (s : Standing) (rounds : List (List Entry)) (told : Record) → Keeps terms s → AllByRecursion (IsFine terms) (all_entries rounds) → AreMade terms s rounds told
        → AllByRecursion (λ one. AllByRecursion HasSmall one.marks) told
    small-marks s [] [] keeps fine made = tt
    small-marks s [] (one ∷ told) keeps fine made = absurd made
    small-marks s (round ∷ rounds) [] keeps fine made = tt
    small-marks s (round ∷ rounds) (one ∷ told) keeps fine are =
        let here : AllByRecursion (IsFine terms) round = all-left (IsFine terms) round (all_entries rounds) fine in
        let now : Keeps terms (after_round terms s round one) = round-keeps terms s round one (whole-of terms round here) keeps in (
          within-small (made s.feed) (made (after_round terms s round one).feed) one.marks now.feed.few are.0,
          small-marks (after_round terms s round one) rounds told now (all-right (IsFine terms) round (all_entries rounds) fine) are.1,
        )
