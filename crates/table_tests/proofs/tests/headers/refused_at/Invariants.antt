use Rattle.std.proofs.Common.{◌≡◌, false}
use Rattle.table_tests.proofs.tests.headers.refused_at.Given as goal

abbrev pub invariant-loop-n : goal.invariant-loop-n
invariant-loop-n l = (l.reader.taken ≡ l.n) × (l.reader.ended ≡ false)
