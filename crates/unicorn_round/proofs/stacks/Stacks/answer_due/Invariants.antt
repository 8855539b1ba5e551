-- the answers so far, and those of the rest
use Rattle.std.proofs.Common.{◌≡◌, ◌++◌, drop, map}
use Rattle.unicorn_round.specs.Stacks.{name_of, tidy_answers}
use Rattle.unicorn_round.proofs.stacks.Stacks.answer_due.Given as goal

abbrev pub invariant-loop-cover : goal.invariant-loop-cover
invariant-loop-cover l = l.answers.items ++ tidy_answers l.made (map name_of l.untidied) (drop l.cover-index l.self) ≡ l.fn.answers.items ++ tidy_answers l.made (map name_of l.untidied) l.self
