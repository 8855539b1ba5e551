-- Scripts that are answered line by line: each entry at the publishes that were made before it, or as one for which
-- memory was wanting.
use Rattle.std.specs.Prelude.{ℕ, ◌≡◌, List, length}
use Rattle.uni_schema.specs.Schema.{Declarations}
use Rattle.reply_text.specs.declared.answer.Answer.{Answer}
use Rattle.script_rounds.specs.Entries.{Entry}
use Rattle.script_rounds.specs.Terms.{Terms}
use Rattle.unicorn_round.specs.Answers.{Standing, opening_standing, after_entries, after_rounds, answers}
use Rattle.unicorn_round.specs.Marks.{Mark, Record}
use Rattle.unicorn_round.specs.Plain.{Lacks, plain_marks, plain_record}
use Rattle.unicorn_round.specs.Records.{AreMarked, IsRecord}

module _ {S : Type 0} (stands : S → Standing → Type 0) where
  -- a state stands where entries lead to for these marks, from a place in a script on
  pub record EntriesDone (terms : Terms) (s : Standing) (entries : List Entry) (marks : List Mark) (after : S) : Type 0 where
    pub lacks : Lacks
    pub one_each : length lacks ≡ length entries
    pub are : marks ≡ plain_marks terms s entries lacks
    pub marked : AreMarked entries marks
    pub there : stands after (after_entries terms s entries marks)

  -- a state stands where rounds lead to, and a text is that of their answers
  pub record RoundsDone (under : S → Terms) (text_of : Declarations → List Answer → List ℕ) (terms : Terms) (rounds : List (List Entry)) (after : S) (text : List ℕ) : Type 0 where
    pub is_under : under after ≡ terms
    pub lacks : List Lacks
    pub one_each : length lacks ≡ length rounds
    pub told : Record
    pub is : told ≡ plain_record terms rounds lacks
    pub is_record : IsRecord terms rounds told
    pub there : stands after (after_rounds terms (opening_standing terms) rounds told)
    pub writes : text ≡ text_of terms.schema (answers terms rounds told)
