use Rattle.std.proofs.Common.{◌-◌}
use Rattle.turn_lock.specs.Seats.{IsSeatOf, SeatRests, seat_turns}
use Rattle.turn_lock.proofs.tests.steps_after_the_writer.Given as goal

abbrev pub invariant-loop-steps : goal.invariant-loop-steps
invariant-loop-steps g l = IsSeatOf l.lock l.seat × SeatRests l.seat

abbrev pub decreases-loop-steps : goal.decreases-loop-steps
decreases-loop-steps g l = 2000 - seat_turns l.seat
