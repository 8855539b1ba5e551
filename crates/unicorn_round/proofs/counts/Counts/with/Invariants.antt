-- the counts so far
use Rattle.std.proofs.Common.{◌≡◌, take}
use Rattle.unicorn_round.specs.Counts.{counts_of, plus}
use Rattle.unicorn_round.proofs.counts.Counts.with.Given as goal

abbrev pub invariant-loop-answer : goal.invariant-loop-answer
invariant-loop-answer l = l.counts ≡ plus l.fn.self (counts_of (take l.answer-index l.answers))
