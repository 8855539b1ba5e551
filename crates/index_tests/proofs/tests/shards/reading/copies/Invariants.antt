use Rattle.std.proofs.Common.{◌≡◌, take}
use Rattle.shard_index.specs.Versions.{layers_of}
use Rattle.index_tests.proofs.tests.shards.reading.copies.Given as goal

abbrev pub invariant-loop-stack : goal.invariant-loop-stack
invariant-loop-stack l = layers_of l.stacks.items ≡ layers_of (take l.stack-index l.stack-items)
