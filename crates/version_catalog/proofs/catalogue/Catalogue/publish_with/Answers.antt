use Rattle.version_catalog.proofs.Feeds.{layers_fit}
use Rattle.version_catalog.proofs.catalogue.Catalogue.publish_with.Goals as goal

pub publish_layers-requires-clause-fit : goal.publish_layers-requires-clause-fit
publish_layers-requires-clause-fit g c = layers_fit c.args.self.now c.args.feeder.now c.requires.of c.in_ok-layers.layers.layers.items (c.in_ok-layers.ensures {u = tt})
