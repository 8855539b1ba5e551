use Rattle.std.proofs.Common.{◌≡◌, false}
use Rattle.reply_text.proofs.tests.schema.Given as goal

abbrev pub invariant-loop-before : goal.invariant-loop-before
invariant-loop-before l = (l.header.taken ≡ l.before) × (l.header.ended ≡ false)
