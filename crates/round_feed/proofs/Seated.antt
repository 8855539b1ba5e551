-- Seats over the lines of a round: a feeder takes one turn at most for each, a compactor two.
use Rattle.std.proofs.Common.{◌+◌, ◌*◌, ℕ, ◌∙◌, arith}
use Rattle.turn_lock.proofs.Prefixes.{prefix_trans}
use Rattle.version_catalog.specs.Seats.{feeder_journal, compactor_journal}
use Rattle.version_catalog.specs.declared.catalogue.Catalogue.{Catalogue}
use Rattle.version_catalog.specs.declared.compactor.Compactor.{Compactor}
use Rattle.version_catalog.specs.declared.feeder.Feeder.{Feeder}
use Rattle.round_feed.specs.Seats.{HasFed, HasCompacted}

module _ (catalogue : Catalogue) where
  pub fed_more : (i : ℕ) (old now new : Feeder) → HasFed catalogue i old now → HasFed catalogue 1 now new → HasFed catalogue (i + 1) old new
  fed_more i old now new before one = record {
    of = one.of;
    few = omega (arith, before.few, one.few);
    sessions = one.sessions ∙ before.sessions;
    later = prefix_trans (feeder_journal old) (feeder_journal now) (feeder_journal new) before.later one.later;
  }

  pub compacted_more : (i : ℕ) (old now new : Compactor) → HasCompacted catalogue (2 * i) old now → HasCompacted catalogue 2 now new → HasCompacted catalogue (2 * (i + 1)) old new
  compacted_more i old now new before one = record {
    of = one.of;
    few = omega (arith, before.few, one.few);
    later = prefix_trans (compactor_journal old) (compactor_journal now) (compactor_journal new) before.later one.later;
  }
