use Rattle.version_catalog.specs.Seats.{IsFeederOf}
use Rattle.index_tests.proofs.tests.catalogues.threads.feed.Given as goal

abbrev pub invariant-loop-number : goal.invariant-loop-number
invariant-loop-number g l = IsFeederOf l.catalogue l.feeder
