use Rattle.version_catalog.proofs.Wholes.{single_stands}
use Rattle.version_catalog.proofs.whole.shared.Goals as goal

pub returns : goal.returns
returns c = single_stands c.args.index.now.0 c.in_ok-layer.layer c.requires (c.in_ok-layer.ensures {u = tt})
