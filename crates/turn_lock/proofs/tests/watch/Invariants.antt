use Rattle.std.proofs.Common.{◌≡◌, ◌≤◌, length, true}
use Rattle.turn_lock.specs.Seats.{IsSeatOf, SeatRests, seat_seen, seat_turns}
use Rattle.turn_lock.proofs.tests.watch.Given as goal

abbrev pub invariant-loop-taken : goal.invariant-loop-taken
invariant-loop-taken g l = IsSeatOf l.lock l.seat × SeatRests l.seat × (seat_turns l.seat ≡ l.taken) × (l.rises ≡ true) × (l.last ≤ length (seat_seen l.seat))
