use Rattle.std.proofs.Common.{All}
use Rattle.uni_schema.specs.Schema.{Declarations}
use Rattle.version_catalog.specs.Bases.{IsStackId}
use Rattle.version_catalog.proofs.bases.first_of_shards.Given as goal

abbrev pub invariant-loop-at : goal.invariant-loop-at
invariant-loop-at l = (schema : Declarations) → All (IsStackId schema) l.fn.stacks → All (IsStackId schema) l.firsts.items
