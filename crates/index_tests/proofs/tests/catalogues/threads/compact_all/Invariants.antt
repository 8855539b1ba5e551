use Rattle.version_catalog.specs.Seats.{IsCompactorOf}
use Rattle.index_tests.proofs.tests.catalogues.threads.compact_all.Given as goal

abbrev pub invariant-loop-turn : goal.invariant-loop-turn
invariant-loop-turn g l = IsCompactorOf l.catalogue l.compactor
