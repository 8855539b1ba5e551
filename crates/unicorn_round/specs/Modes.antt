-- What each mode says that its text is.
use Rattle.std.specs.Prelude.{ℕ, ◌≡◌, List, []}
use Rattle.script_rounds.specs.Entries.{Entry}
use Rattle.script_rounds.specs.Terms.{Terms}
use Rattle.reply_text.specs.Printed.{answers_text}
use Rattle.unicorn_round.specs.Answers.{answers}
use Rattle.unicorn_round.specs.Checking.{checked_text}
use Rattle.unicorn_round.specs.Legal.{Legal}
use Rattle.unicorn_round.specs.Marks.{Record}
use Rattle.unicorn_round.specs.Plain.{Lacks, plain_record}
use Rattle.unicorn_round.specs.Records.{IsRecord}

-- `serve`: the answers of the rounds, for a legal record of them
pub record Serves (terms : Terms) (rounds : List (List Entry)) (text : List ℕ) : Type 0 where
  pub told : Record
  pub is_record : IsRecord terms rounds told
  pub legal : Legal terms rounds told
  pub writes : text ≡ answers_text terms.schema (answers terms rounds told)

-- `plain`: the answers of the rounds line by line, where memory was wanting for some
pub record AnswersPlainly (terms : Terms) (rounds : List (List Entry)) (text : List ℕ) : Type 0 where
  pub lacks : List Lacks
  pub told : Record
  pub is : told ≡ plain_record terms rounds lacks
  pub is_record : IsRecord terms rounds told
  pub writes : text ≡ answers_text terms.schema (answers terms rounds told)

-- `check`: those lines of `plain` that begin with `refused`, `error` or `memory`
pub record Checks (terms : Terms) (rounds : List (List Entry)) (text : List ℕ) : Type 0 where
  pub lacks : List Lacks
  pub told : Record
  pub is : told ≡ plain_record terms rounds lacks
  pub is_record : IsRecord terms rounds told
  pub writes : text ≡ checked_text terms.schema (answers terms rounds told)

-- nothing closes the text of `serve` and of `plain`
abbrev pub nothing_more : ℕ → List ℕ
nothing_more lines = []
