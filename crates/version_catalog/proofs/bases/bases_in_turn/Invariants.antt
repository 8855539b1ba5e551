use Rattle.std.proofs.Common.{All}
use Rattle.version_catalog.specs.Bases.{IsWhole}
use Rattle.version_catalog.proofs.bases.bases_in_turn.Given as goal

abbrev pub invariant-loop-at : goal.invariant-loop-at
invariant-loop-at l = All (IsWhole l.version) l.bases.items
