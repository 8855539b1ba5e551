use Rattle.std.proofs.Common.{All}
use Rattle.version_catalog.specs.Bases.{IsStackId}
use Rattle.index_tests.proofs.tests.catalogues.all_stacks.Given as goal

abbrev pub invariant-loop-number : goal.invariant-loop-number
invariant-loop-number l = All (IsStackId l.schema) l.stacks.items
