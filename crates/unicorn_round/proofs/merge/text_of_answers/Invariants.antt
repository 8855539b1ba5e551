-- the text of the answers so far
use Rattle.std.proofs.Common.{◌≡◌, take}
use Rattle.reply_text.specs.Printed.{answers_text}
use Rattle.unicorn_round.proofs.merge.text_of_answers.Given as goal

abbrev pub invariant-loop-answer : goal.invariant-loop-answer
invariant-loop-answer l = l.text ≡ answers_text l.schema (take l.answer-index l.answers)
