use Rattle.std.proofs.Common.{◌≡◌}
use Rattle.turn_lock.specs.Seats.{SeatRests, seat_turns}
use Rattle.version_catalog.specs.Seats.{IsSessionOf}
use Rattle.index_tests.proofs.tests.catalogues.threads.watch.Given as goal

abbrev pub invariant-loop-taken : goal.invariant-loop-taken
invariant-loop-taken g l = IsSessionOf l.catalogue l.session × SeatRests l.session × (seat_turns l.session ≡ l._taken)
