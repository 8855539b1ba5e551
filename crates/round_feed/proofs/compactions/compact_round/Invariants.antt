-- the lines so far were taken, with these answers
use Rattle.std.proofs.Common.{◌≡◌, ◌++◌, ◌*◌, length, take}
use Rattle.version_catalog.specs.Seats.{compactor_installs, compactor_journal}
use Rattle.round_feed.specs.Compacted.{AreCompacted, compact_entries, installs_by}
use Rattle.round_feed.specs.Seats.{HasCompacted}
use Rattle.round_feed.proofs.compactions.compact_round.Given as goal

abbrev pub invariant-loop-item : goal.invariant-loop-item
invariant-loop-item g l = record {
  taken : HasCompacted l.catalogue (2 * l.item-index) l.fn.compactor l.compactor;
  compacted : AreCompacted (length (compactor_journal l.fn.compactor)) (length (compactor_journal l.compactor)) (compact_entries (take l.item-index l.items)) l.answers;
  installed : compactor_installs l.compactor ≡ compactor_installs l.fn.compactor ++ installs_by (compact_entries (take l.item-index l.items)) l.answers;
}
