-- The record of answering line by line is a legal one.
use Rattle.std.proofs.Common.{◌≡◌, ◌≤◌, ℕ, Bool, true, false, List, [], ◌∷◌, ◌++◌, length, if◌then◌else◌, refl, ap, sym, subst, arith, length-append}
use Rattle.script_rounds.specs.Entries.{Entry, change, publish, ask, compact, stats, refused, fault, query_fault}
use Rattle.script_rounds.specs.Terms.{Terms}
use Rattle.unicorn_round.specs.Answers.{Standing, opening_standing, after_entry, after_entries, after_round, after_rounds}
use Rattle.round_feed.specs.Feeds.{made}
use Rattle.unicorn_round.specs.Legal.{AreWithin, AreMade, Between, Legal, NoneFalls, numbers_in, all_numbers, asks_in, compacts}
use Rattle.unicorn_round.specs.Marks.{Mark, plain, lacking, at}
use Rattle.unicorn_round.specs.Plain.{Lacks, plain_mark, plain_marks, plain_round, plain_record}
use Rattle.unicorn_round.specs.Records.{IsRecord, IsRoundRecord}
use Rattle.unicorn_round.specs.ServedLaws.{between_falls}
use Rattle.round_feed.specs.Steps.{marked_by}
use Rattle.unicorn_round.proofs.RoundSteps.{entry_later}
use Rattle.round_feed.proofs.Steps.{each-length}

module _ (terms : Terms) where
  -- the number of publishes never falls
  entry_grows : (s : Standing) (entry : Entry) (mark : Mark) → made s.feed ≤ made (after_entry terms s entry mark).feed
  entry_grows s entry mark = let later = entry_later terms s entry mark in omega (arith, ap length later.1, length-append s.feed.journal later.0)

  pub entries_grow : (s : Standing) (entries : List Entry) (marks : List Mark) → made s.feed ≤ made (after_entries terms s entries marks).feed
  entries_grow s [] marks = omega arith
  entries_grow s (entry ∷ entries) [] = omega arith
  entries_grow s (entry ∷ entries) (mark ∷ marks) = omega (arith, entry_grows s entry mark, entries_grow (after_entry terms s entry mark) entries marks)

  -- a number of a mark is that of the publishes before it
  number_is : (n : ℕ) (entry : Entry) (lacks : Bool) (k : ℕ) → plain_mark n entry lacks ≡ at k → k ≡ n
  number_is n (change line command) true k is = absurd cc
  number_is n (change line command) false k is = absurd cc
  number_is n (publish line) lacks k is = absurd cc
  number_is n (ask line session viewer limit query) true k is = absurd cc
  number_is n (ask line session viewer limit query) false k is = cc
  number_is n (compact line vertical shard replica) lacks k is = cc
  number_is n (stats line) lacks k is = absurd cc
  number_is n (refused line code) lacks k is = absurd cc
  number_is n (fault line code) lacks k is = absurd cc
  number_is n (query_fault line code column) true k is = absurd cc
  number_is n (query_fault line code column) false k is = absurd cc

  -- the numbers of a round are within its bounds
  within : (s : Standing) (entries : List Entry) (lacks : Lacks) (low high : ℕ) → low ≤ made s.feed → made (after_entries terms s entries (plain_marks terms s entries lacks)).feed ≤ high
      → AreWithin low high (plain_marks terms s entries lacks)
  within s [] lacks low high above below = tt
  within s (entry ∷ entries) [] low high above below = tt
  within s (entry ∷ entries) (one ∷ lacks) low high above below =
      by (within later entries lacks low high (omega (arith, above, entry_grows s entry mark)) below) mark refl
    where
      mark : Mark
      mark = plain_mark (made s.feed) entry one

      later : Standing
      later = after_entry terms s entry mark

      here : made s.feed ≤ high
      here = omega (arith, entry_grows s entry mark, entries_grow later entries (plain_marks terms later entries lacks), below)

      by : AreWithin low high (plain_marks terms later entries lacks) → (m : Mark) → mark ≡ m → AreWithin low high (m ∷ plain_marks terms later entries lacks)
      by rest plain is = rest
      by rest lacking is = rest
      by rest (at k) is = let same = number_is (made s.feed) entry one k is in (omega (arith, same, above), omega (arith, same, here), rest)

  all_made : (s : Standing) (rounds : List (List Entry)) (lacks : List Lacks) → length (marked_by (after_round terms) (plain_round terms) s rounds lacks) ≡ length rounds
      → AreMade terms s rounds (marked_by (after_round terms) (plain_round terms) s rounds lacks)
  all_made s [] lacks same = tt
  all_made s (round ∷ rounds) [] same = absurd (omega (arith, same))
  all_made s (round ∷ rounds) (one ∷ lacks) same = (
    within s round one (made s.feed) (made (after_round terms s round (plain_round terms s round one)).feed) (omega arith) (omega arith),
    all_made (after_round terms s round (plain_round terms s round one)) rounds lacks (omega (arith, same)),
  )

pub between_lower : (lower low high : ℕ) (ns : List ℕ) → lower ≤ low → Between low high ns → Between lower high ns
between_lower lower low high [] less b = omega (arith, less, b)
between_lower lower low high (n ∷ ns) less b = (omega (arith, less, b.0), b.1)

pub between_append : (low middle high : ℕ) (ns ms : List ℕ) → Between low middle ns → Between middle high ms → Between low high (ns ++ ms)
between_append low middle high [] ms b c = between_lower low middle high ms b c
between_append low middle high (n ∷ ns) ms b c = (b.0, between_append n middle high ns ms b.1 c)

module _ (terms : Terms) (test : Entry → Bool) where
  -- so are those of a round that pass a test
  numbers_between : (s : Standing) (entries : List Entry) (lacks : Lacks)
      → Between (made s.feed) (made (after_entries terms s entries (plain_marks terms s entries lacks)).feed) (numbers_in test entries (plain_marks terms s entries lacks))
  numbers_between s [] lacks = let same : made s.feed ≤ made s.feed = omega arith in same
  numbers_between s (entry ∷ entries) [] = let same : made s.feed ≤ made s.feed = omega arith in same
  numbers_between s (entry ∷ entries) (one ∷ lacks) =
      by (between_lower (made s.feed) (made later.feed) high numbers (entry_grows terms s entry mark) (numbers_between later entries lacks)) mark refl
    where
      mark : Mark
      mark = plain_mark (made s.feed) entry one

      later : Standing
      later = after_entry terms s entry mark

      high : ℕ
      high = made (after_entries terms later entries (plain_marks terms later entries lacks)).feed

      numbers : List ℕ
      numbers = numbers_in test entries (plain_marks terms later entries lacks)

      chosen : Between (made s.feed) high numbers → (b : Bool) (k : ℕ) → k ≡ made s.feed → Between (made s.feed) high (if b then k ∷ numbers else numbers)
      chosen rest true k same = (omega (arith, same), subst (λ n. Between n high numbers) (sym same) rest)
      chosen rest false k same = rest

      by : Between (made s.feed) high numbers → (m : Mark) → mark ≡ m → Between (made s.feed) high (numbers_in test (entry ∷ entries) (m ∷ plain_marks terms later entries lacks))
      by rest plain is = rest
      by rest lacking is = rest
      by rest (at k) is = chosen rest (test entry) k (number_is terms (made s.feed) entry one k is)

  all_between : (s : Standing) (rounds : List (List Entry)) (lacks : List Lacks)
      → Between (made s.feed) (made (after_rounds terms s rounds (marked_by (after_round terms) (plain_round terms) s rounds lacks)).feed)
      (all_numbers test rounds (marked_by (after_round terms) (plain_round terms) s rounds lacks))
  all_between s [] lacks = let same : made s.feed ≤ made s.feed = omega arith in same
  all_between s (round ∷ rounds) [] = let same : made s.feed ≤ made s.feed = omega arith in same
  all_between s (round ∷ rounds) (one ∷ lacks) =
      let told = plain_round terms s round one in
      let later = after_round terms s round told in
      between_append (made s.feed) (made later.feed) (made (after_rounds terms later rounds (marked_by (after_round terms) (plain_round terms) later rounds lacks)).feed)
      (numbers_in test round told.marks) (all_numbers test rounds (marked_by (after_round terms) (plain_round terms) later rounds lacks))
      (numbers_between s round one) (all_between later rounds lacks)

  none_falls : (rounds : List (List Entry)) (lacks : List Lacks) → NoneFalls (all_numbers test rounds (plain_record terms rounds lacks))
  none_falls rounds lacks =
      between_falls (made (opening_standing terms).feed) (made (after_rounds terms (opening_standing terms) rounds (plain_record terms rounds lacks)).feed)
      (all_numbers test rounds (plain_record terms rounds lacks)) (all_between (opening_standing terms) rounds lacks)

pub plain_is_legal : (terms : Terms) (rounds : List (List Entry)) (lacks : List Lacks) → IsRecord terms rounds (plain_record terms rounds lacks) → Legal terms rounds (plain_record terms rounds lacks)
plain_is_legal terms rounds lacks is = record {
  made = all_made terms (opening_standing terms) rounds lacks (each-length (after_round terms) (IsRoundRecord terms) (opening_standing terms) rounds (plain_record terms rounds lacks) is);
  sessions = λ session. none_falls terms (asks_in session) rounds lacks;
  stacks = λ vertical shard replica. none_falls terms (compacts vertical shard replica) rounds lacks;
}
