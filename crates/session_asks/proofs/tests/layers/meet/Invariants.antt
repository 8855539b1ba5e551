use Rattle.turn_lock.specs.Seats.{SeatRests}
use Rattle.version_catalog.specs.Seats.{IsFeederOf, IsSessionOf}
use Rattle.session_asks.proofs.tests.layers.meet.Given as goal

abbrev pub invariant-loop-number : goal.invariant-loop-number
invariant-loop-number g l = IsFeederOf l.catalogue l.feeder × IsSessionOf l.catalogue l.session × SeatRests l.session
