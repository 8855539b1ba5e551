use Rattle.version_catalog.specs.Seats.{IsFeederOf}
use Rattle.session_asks.proofs.tests.are_put.Given as goal

abbrev pub invariant-loop-line : goal.invariant-loop-line
invariant-loop-line l = IsFeederOf l.catalogue l.feeder
