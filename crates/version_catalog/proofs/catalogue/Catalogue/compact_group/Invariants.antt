use Rattle.std.proofs.Common.{◌+◌, ◌-◌, ◌≤◌, All, length}
use mathlib.Core.List.{IsPrefix}
use Rattle.version_catalog.specs.Bases.{IsBaseAfter}
use Rattle.version_catalog.specs.Installs.{Raises}
use Rattle.version_catalog.specs.Seats.{settings_of, compactor_journal, compactor_installs, compactor_turns, IsCompactorOf}
use Rattle.version_catalog.proofs.catalogue.Catalogue.compact_group.Given as goal

abbrev pub invariant-loop-at : goal.invariant-loop-at
invariant-loop-at g l = record {
  of : IsCompactorOf l.self l.compactor;
  turns : compactor_turns l.compactor ≤ compactor_turns l.fn.compactor + 1 + (l.at - l.from);
  later : IsPrefix (compactor_journal l.fn.compactor) (compactor_journal l.compactor);
  low : length (compactor_journal l.fn.compactor) ≤ l.covers;
  raises : Raises l.stacks (length (compactor_journal l.fn.compactor)) (compactor_installs l.fn.compactor) (compactor_installs l.compactor);
  bases : All (IsBaseAfter (settings_of l.self).schema (compactor_journal l.compactor) l.covers) l.bases.items;
}
