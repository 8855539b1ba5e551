use Rattle.version_catalog.proofs.Histories.{batches_prefix}
use Rattle.version_catalog.proofs.catalogue.Catalogue.meet.Goals as goal

pub returns-clause-own : goal.returns-clause-own
returns-clause-own g c = batches_prefix _ _ c.meet_on.ensures.own

pub returns-clause-other : goal.returns-clause-other
returns-clause-other g c = batches_prefix _ _ c.meet_on.ensures.other
