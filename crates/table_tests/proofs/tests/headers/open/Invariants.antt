use Rattle.std.proofs.Common.{◌≡◌, ◌+◌, false}
use Rattle.table_tests.proofs.tests.headers.open.Given as goal

abbrev pub invariant-loop-line : goal.invariant-loop-line
invariant-loop-line l = (l.line_no ≡ l.reader.taken + 1) × (l.reader.ended ≡ false)
