use Rattle.std.proofs.Common.{◌≡◌, ◌+◌, false}
use Rattle.answer_tests.proofs.tests.schema.Given as goal

abbrev pub invariant-loop-line_no : goal.invariant-loop-line_no
invariant-loop-line_no l = (l.line_no ≡ l.reader.taken + 1) × (l.reader.ended ≡ false)
