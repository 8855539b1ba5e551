use Rattle.std.proofs.Common.{◌+◌, ◌-◌, ◌*◌, ◌≤◌, length}
use mathlib.Core.List.{IsPrefix}
use Rattle.version_catalog.specs.Installs.{Raises}
use Rattle.version_catalog.specs.Seats.{compactor_journal, compactor_installs, compactor_turns, IsCompactorOf}
use Rattle.version_catalog.proofs.catalogue.Catalogue.compact_stacks.Given as goal

abbrev pub invariant-loop-from : goal.invariant-loop-from
invariant-loop-from g l = record {
  within : l.from ≤ length l.stacks;
  of : IsCompactorOf l.self l.compactor;
  turns : compactor_turns l.compactor ≤ compactor_turns l.fn.compactor + 2 * l.from;
  later : IsPrefix (compactor_journal l.fn.compactor) (compactor_journal l.compactor);
  raises : Raises l.stacks (length (compactor_journal l.fn.compactor)) (compactor_installs l.fn.compactor) (compactor_installs l.compactor);
}

abbrev pub decreases-loop-from : goal.decreases-loop-from
decreases-loop-from g l = length l.stacks - l.from
