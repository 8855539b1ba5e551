use Rattle.std.proofs.Common.{take}
use Rattle.session_asks.specs.Seats.{AllMayTake}
use Rattle.version_catalog.specs.Seats.{IsFeederOf}
use Rattle.session_asks.proofs.tests.sessions_for.Given as goal

abbrev pub invariant-loop-list : goal.invariant-loop-list
invariant-loop-list l = record {
  feeder : IsFeederOf l.catalogue l.feeder;
  may : AllMayTake l.catalogue l.sessions.items (take l.list-index l.lists);
}
