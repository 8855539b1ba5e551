use Rattle.std.proofs.Common.{rules}
use Rattle.index_tests.proofs.tests.catalogues.Opened.new.Goals as goal

pub invariant_of-result-clause-rests : goal.invariant_of-result-clause-rests
invariant_of-result-clause-rests g c = search rules
