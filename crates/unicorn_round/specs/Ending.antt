-- How a round ends whose lines were worked on.
use Rattle.std.specs.Prelude.{ℕ, ◌≡◌, ◌++◌, List, map}
use Rattle.reply_text.specs.declared.answer.Answer.{Answer}
use Rattle.unicorn_round.specs.declared.parts.Parts.{Parts}
use Rattle.unicorn_round.specs.declared.round.RoundAnswers.{RoundAnswers}
use Rattle.unicorn_round.specs.declared.stacks.StackCover.{StackCover}
use Rattle.unicorn_round.specs.Marks.{StackName}
use Rattle.unicorn_round.specs.Parted.{slots_in}
use Rattle.unicorn_round.specs.Queues.{answers_at, shown_by}
use Rattle.unicorn_round.specs.Stacks.{due_untidied, tidy, tidy_answers}
use Rattle.unicorn_round.specs.Weaving.{compacted_covers, merged}

-- the stacks as the round's compactions leave them
abbrev pub covers_between : List StackCover → Parts → RoundAnswers → List StackCover
covers_between covers parts answers = compacted_covers covers parts.compactions answers.compacted

-- After so many publishes the stacks that are due are tidied, but for some: the stacks as they were before that and as
-- they are then, and what they answer.
pub record IsTidied (made : ℕ) (old new : List StackCover) (told : List Answer) : Type 0 where
  pub untidied : List StackName
  pub due : untidied ≡ due_untidied made untidied old
  pub covers : new ≡ map (tidy made untidied) old
  pub answers : told ≡ tidy_answers made untidied old

-- The stacks that a round's compactions left are tidied, and what is said are the answers of the round's lines in
-- their order and then those of these stacks.
pub record IsEnded (made : ℕ) (between new : List StackCover) (parts : Parts) (answers : RoundAnswers) (said : List Answer) : Type 0 where
  pub told : List Answer
  pub tidied : IsTidied made between new told
  pub says : said ≡ merged (shown_by made new) (slots_in parts) answers.fed (answers_at answers.asked.items) answers.compacted ++ told
