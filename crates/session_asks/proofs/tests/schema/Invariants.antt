use Rattle.std.proofs.Common.{◌≡◌, ◌+◌, false}
use Rattle.session_asks.proofs.tests.schema.Given as goal

abbrev pub invariant-loop-line_no : goal.invariant-loop-line_no
invariant-loop-line_no l = (l.line_no ≡ l.header.taken + 1) × (l.header.ended ≡ false)
