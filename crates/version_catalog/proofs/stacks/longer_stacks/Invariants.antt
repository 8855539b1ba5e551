use Rattle.std.proofs.Common.{◌≡◌, ◌++◌, drop}
use Rattle.shard_index.specs.Versions.{layers_of}
use Rattle.version_catalog.specs.Spread.{with_layers}
use Rattle.version_catalog.proofs.stacks.longer_stacks.Given as goal

abbrev pub invariant-loop-number : goal.invariant-loop-number
invariant-loop-number l = layers_of l.longer.items ++ with_layers (drop l.number (layers_of l.stacks)) (drop l.number l.layers) ≡ with_layers (layers_of l.stacks) l.layers
