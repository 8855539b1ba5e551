use Rattle.version_catalog.proofs.Histories.{batches_prefix}
use Rattle.version_catalog.proofs.catalogue.Catalogue.pin.Goals as goal

pub returns-in_err-version-clause-later : goal.returns-in_err-version-clause-later
returns-in_err-version-clause-later g c = rw c.leave.ensures.kept.1 (batches_prefix _ _ c.enter-turn.ensures.later)

pub returns-clause-later : goal.returns-clause-later
returns-clause-later g c = rw c.leave.ensures.kept.1 (batches_prefix _ _ c.enter-turn.ensures.later)
