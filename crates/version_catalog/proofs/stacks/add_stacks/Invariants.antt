use Rattle.std.proofs.Common.{◌≡◌, ◌++◌, take}
use Rattle.shard_index.specs.Versions.{layers_of}
use Rattle.version_catalog.proofs.stacks.add_stacks.Given as goal

abbrev pub invariant-loop-stack : goal.invariant-loop-stack
invariant-loop-stack l = layers_of l.all.items ≡ layers_of l.initial.all.items ++ layers_of (take l.stack-index l.stacks)
