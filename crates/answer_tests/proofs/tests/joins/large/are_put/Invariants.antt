use Rattle.uni_table.specs.Commands.{IsDeclared}
use Rattle.answer_tests.proofs.tests.joins.large.are_put.Given as goal

abbrev pub invariant-loop-number : goal.invariant-loop-number
invariant-loop-number l = IsDeclared l.table.schema l.command
