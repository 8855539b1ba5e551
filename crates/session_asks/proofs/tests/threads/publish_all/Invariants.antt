use Rattle.version_catalog.specs.Seats.{IsFeederOf}
use Rattle.session_asks.proofs.tests.threads.publish_all.Given as goal

abbrev pub invariant-loop-number : goal.invariant-loop-number
invariant-loop-number g l = IsFeederOf l.catalogue l.feeder
