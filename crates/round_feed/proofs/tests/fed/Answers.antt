use Rattle.round_feed.specs.Seats.{terms_of}
use Rattle.round_feed.proofs.Items.{fit_for_feed}
use Rattle.round_feed.proofs.tests.fed.Goals as goal

pub feed_round-requires-clause-fit : goal.feed_round-requires-clause-fit
feed_round-requires-clause-fit g c = fit_for_feed (terms_of c.args.catalogue.now) c.args.items.now c.requires.fit
