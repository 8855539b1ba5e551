use Rattle.version_catalog.specs.Seats.{IsFeederOf}
use Rattle.session_asks.proofs.tests.replies.by_few_and_many_workers.Given as goal

abbrev pub invariant-loop-workers : goal.invariant-loop-workers
invariant-loop-workers g l = IsFeederOf l.catalogue l.feeder
