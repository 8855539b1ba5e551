use Rattle.turn_lock.specs.Seats.{SeatRests}
use Rattle.version_catalog.specs.Seats.{IsSessionOf}
use Rattle.session_asks.proofs.tests.layers.is_asked.Given as goal

abbrev pub invariant-loop-workers : goal.invariant-loop-workers
invariant-loop-workers g l = IsSessionOf l.catalogue l.session × SeatRests l.session
