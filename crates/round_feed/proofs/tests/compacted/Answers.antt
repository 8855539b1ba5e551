use Rattle.round_feed.specs.Seats.{terms_of}
use Rattle.round_feed.proofs.Items.{fit_for_compactions}
use Rattle.round_feed.proofs.tests.compacted.Goals as goal

pub compact_round-requires-clause-fit : goal.compact_round-requires-clause-fit
compact_round-requires-clause-fit g c = fit_for_compactions (terms_of c.args.catalogue.now) c.args.items.now c.requires.fit
