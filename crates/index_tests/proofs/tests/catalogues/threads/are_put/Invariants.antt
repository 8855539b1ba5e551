-- the feeder stays that of the catalogue
use Rattle.version_catalog.specs.Seats.{IsFeederOf}
use Rattle.index_tests.proofs.tests.catalogues.threads.are_put.Given as goal

abbrev pub invariant-loop-line : goal.invariant-loop-line
invariant-loop-line l = IsFeederOf l.catalogue l.feeder
