use Rattle.std.proofs.Common.{◌≡◌, ◌++◌, take, replicate}
use Rattle.std.specs.List.{flat_map}
use Rattle.version_catalog.proofs.stacks.add_replicas.Given as goal

abbrev pub invariant-loop-layer : goal.invariant-loop-layer
invariant-loop-layer l = l.shares.items ≡ l.initial.shares.items ++ flat_map (replicate l.replicas) (take l.layer-index l.layers)
