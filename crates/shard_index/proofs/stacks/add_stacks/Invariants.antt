use Rattle.std.proofs.Common.{◌≡◌, ◌++◌, ◌∷◌, [], replicate}
use Rattle.shard_index.specs.Versions.{layers_of}
use Rattle.shard_index.proofs.stacks.add_stacks.Given as goal

abbrev pub invariant-loop : goal.invariant-loop
invariant-loop l = layers_of l.stacks.items ≡ layers_of l.initial.stacks.items ++ replicate l.counter (l.base ∷ [])
