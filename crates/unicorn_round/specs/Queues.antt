-- The answers that are left of a round.
use Rattle.std.specs.Prelude.{ℕ, List, [], get_or}
use Rattle.reply_text.specs.declared.answer.Answer.{Answer}
use Rattle.reply_text.specs.declared.answer.Answer.TheVariants.{Stats}
use Rattle.unicorn_round.specs.declared.stacks.StackCover.{StackCover}
use Rattle.unicorn_round.specs.Stacks.{rows_of}

-- those of the feeder, of the compactor, and of each session
pub record QueuesState : Type 0 where
  pub fed : List Answer
  pub compacted : List Answer
  pub asked : List (List Answer)

-- those of the session at a place
abbrev pub answers_at : List (List Answer) → ℕ → List Answer
answers_at lists place = get_or lists place []

-- what `stats` shows after so many publishes
abbrev pub shown_by : ℕ → List StackCover → ℕ → Answer
shown_by made covers line = Stats line made (rows_of made covers)
