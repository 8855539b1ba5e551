-- What answers tell.
use Rattle.std.specs.Prelude.{ℕ, ◌≡◌, ◌≤◌, ◌+◌, ◌^◌, List, length, map}
use Rattle.uni_base.specs.StandardLimits.{IsWithinStandard}
use Rattle.uni_base.specs.declared.limits.Limits.{Limits}
use Rattle.uni_schema.specs.Schema.{Declarations, IsSchema}
use Rattle.uni_table.specs.Journals.{IsJournal}
use Rattle.reply_text.specs.Printed.{answers_text}
use Rattle.script_rounds.specs.Entries.{Entry, line_of}
use Rattle.script_rounds.specs.Laws.{all_entries}
use Rattle.script_rounds.specs.RoundReads.{Rise}
use Rattle.script_rounds.specs.Rounds.{opened, rounds_from, script_of}
use Rattle.script_rounds.specs.Terms.{Terms, under}
use Rattle.unicorn_round.specs.Answers.{answers, after_round, after_rounds, opening_standing}
use Rattle.unicorn_round.specs.Covers.{RoundRaises}
use Rattle.round_feed.specs.Feeds.{made}
use Rattle.round_feed.specs.Steps.{Each}
use Rattle.unicorn_round.specs.Legal.{Legal}
use Rattle.unicorn_round.specs.Marks.{Record}
use Rattle.unicorn_round.specs.Modes.{AnswersPlainly, Serves}
use Rattle.unicorn_round.specs.Plain.{Lacks, AreAsMany, plain_record}
use Rattle.unicorn_round.specs.Records.{IsRecord}

-- Answers tell their record: two records of rounds that have the same answers are the same, where no two
-- entries have the same line number. So are two records of a script's rounds whose answers are of the same
-- text, where one of them is a legal one, limits are within the standard ones, and the numbers of lines are
-- small.
pub record AnswersTell : Type 0 where
  pub values :
      (terms : Terms) → (rounds : List (List Entry)) → (low : ℕ) → (high : ℕ) → Rise low high (map line_of (all_entries rounds))
      → (told : Record) → (other : Record) → IsRecord terms rounds told → IsRecord terms rounds other
      → answers terms rounds told ≡ answers terms rounds other → told ≡ other
  pub texts :
      (terms : Terms) → IsSchema terms.schema → IsWithinStandard terms.limits
      → (rounds : List (List Entry)) → (before : ℕ) → (lines : List (List ℕ)) → rounds ≡ rounds_from terms (before + 1) 0 lines
      → before + length lines ≤ 2 ^ 63
      → (told : Record) → (other : Record) → IsRecord terms rounds told → IsRecord terms rounds other → Legal terms rounds told
      → answers_text terms.schema (answers terms rounds told) ≡ answers_text terms.schema (answers terms rounds other) → told ≡ other

-- At most one legal record of a script has a text: of a script whose header opens, under limits within the
-- standard ones, and whose bytes are within the limit of a script.
pub record OneRecordServes : Type 0 where
  pub one :
      (limits : Limits) → IsWithinStandard limits → (bytes : List ℕ) → length bytes ≤ limits.script
      → (schema : Declarations) → (rounds : List (List Entry)) → script_of limits bytes ≡ opened schema rounds
      → (text : List ℕ) → (one : Serves (under limits schema) rounds text) → (other : Serves (under limits schema) rounds text) → one.told ≡ other.told

-- What rounds publish, for any record of them, is a journal: no change of its batches is refused at its
-- place, and there are no more batches than the limit of publishes.
pub record RoundsMakeJournals : Type 0 where
  pub journal : (terms : Terms) → (rounds : List (List Entry)) → (told : Record) → IsJournal terms.schema terms.limits (after_rounds terms (opening_standing terms) rounds told).feed.journal
  pub few : (terms : Terms) → (rounds : List (List Entry)) → (told : Record) → made (after_rounds terms (opening_standing terms) rounds told).feed ≤ terms.limits.publishes

-- What answers rounds line by line is one of the texts that a service may answer them by.
pub record PlainMayServe : Type 0 where
  pub serves : (terms : Terms) → (rounds : List (List Entry)) → (text : List ℕ) → AnswersPlainly terms rounds text → Serves terms rounds text

-- Each script has a record, and a legal one: that of its lines one by one, for whichever of them memory was wanting.
pub record PlainIsARecord : Type 0 where
  pub is_record : (terms : Terms) → (rounds : List (List Entry)) → (lacks : List Lacks) → AreAsMany rounds lacks → IsRecord terms rounds (plain_record terms rounds lacks)
  pub legal : (terms : Terms) → (rounds : List (List Entry)) → (lacks : List Lacks) → AreAsMany rounds lacks → Legal terms rounds (plain_record terms rounds lacks)

-- In a legal record no compaction takes from what its stack covers, and none claims more than was made: what a stack covers
-- behind one is the greater of its number and of what the stack covered.
pub record CompactionsRaise : Type 0 where
  pub raise :
      (terms : Terms) → (rounds : List (List Entry)) → (told : Record) → IsRecord terms rounds told → Legal terms rounds told
      → Each (after_round terms) (RoundRaises terms) (opening_standing terms) rounds told
