-- Each script has a record: that of its lines one by one.
use Rattle.std.proofs.Common.{◌≡◌, ℕ, Bool, true, false, List, [], ◌∷◌, length, refl, sym, arith}
use Rattle.std.specs.List.{AllZip}
use Rattle.script_rounds.specs.Entries.{Entry, change, publish, ask, compact, stats, refused, fault, query_fault}
use Rattle.script_rounds.specs.Terms.{Terms}
use Rattle.unicorn_round.specs.Answers.{Standing, opening_standing, after_entry, after_entries, after_round}
use Rattle.round_feed.specs.Feeds.{made}
use Rattle.round_feed.specs.Steps.{Each, marked_by}
use Rattle.unicorn_round.specs.Laws.{PlainIsARecord}
use Rattle.unicorn_round.specs.Plain.{Lacks, AreAsMany, plain_mark, plain_marks, plain_round, plain_record}
use Rattle.unicorn_round.specs.Records.{AreMarked, IsMarked, IsRecord, IsRecordFrom, IsRoundRecord}
use Rattle.unicorn_round.proofs.LineByLine.{none_untidied}
use Rattle.unicorn_round.proofs.PlainLegal.{plain_is_legal}

-- each entry may have its mark
is_marked : (n : ℕ) (entry : Entry) (lacks : Bool) → IsMarked entry (plain_mark n entry lacks)
is_marked n (change line command) true = tt
is_marked n (change line command) false = tt
is_marked n (publish line) lacks = tt
is_marked n (ask line session viewer limit query) true = tt
is_marked n (ask line session viewer limit query) false = tt
is_marked n (compact line vertical shard replica) lacks = tt
is_marked n (stats line) lacks = refl
is_marked n (refused line code) lacks = refl
is_marked n (fault line code) lacks = refl
is_marked n (query_fault line code column) true = tt
is_marked n (query_fault line code column) false = tt

module _ (terms : Terms) where
  are_marked : (s : Standing) (entries : List Entry) (lacks : Lacks) → length lacks ≡ length entries → AreMarked entries (plain_marks terms s entries lacks)
  are_marked s [] lacks same = tt
  are_marked s (entry ∷ entries) [] same = absurd (omega (arith, same))
  are_marked s (entry ∷ entries) (one ∷ lacks) same =
      (is_marked (made s.feed) entry one, are_marked (after_entry terms s entry (plain_mark (made s.feed) entry one)) entries lacks (omega (arith, same)))

  is_round : (s : Standing) (entries : List Entry) (lacks : Lacks) → length lacks ≡ length entries → IsRoundRecord terms s entries (plain_round terms s entries lacks)
  is_round s entries lacks same =
      let end = after_entries terms s entries (plain_marks terms s entries lacks) in
      record { marked = are_marked s entries lacks same; untidied = sym (none_untidied (made end.feed) end.covers) }

  are_rounds : (s : Standing) (rounds : List (List Entry)) (lacks : List Lacks) → AreAsMany rounds lacks
      → IsRecordFrom terms s rounds (marked_by (after_round terms) (plain_round terms) s rounds lacks)
  are_rounds s [] [] same = tt
  are_rounds s [] (one ∷ lacks) same = absurd same
  are_rounds s (round ∷ rounds) [] same = absurd same
  are_rounds s (round ∷ rounds) (one ∷ lacks) same =
      (is_round s round one same.0, are_rounds (after_round terms s round (plain_round terms s round one)) rounds lacks same.1)

  plain_is_record : (rounds : List (List Entry)) (lacks : List Lacks) → AreAsMany rounds lacks → IsRecord terms rounds (plain_record terms rounds lacks)
  plain_is_record rounds lacks same = are_rounds (opening_standing terms) rounds lacks same

pub plain_is_a_record : PlainIsARecord
plain_is_a_record = record {
  is_record = λ terms rounds lacks same. plain_is_record terms rounds lacks same;
  legal = λ terms rounds lacks same. plain_is_legal terms rounds lacks (plain_is_record terms rounds lacks same);
}
