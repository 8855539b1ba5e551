use Rattle.std.proofs.Common.{◌≡◌, ◌++◌, map}
use Rattle.std.specs.Vec.Iter.{into_iter_items}
use Rattle.shard_index.specs.Notes.{noted_layer}
use Rattle.shard_index.proofs.batch.layers.Given as goal

abbrev pub invariant-loop-shard : goal.invariant-loop-shard
invariant-loop-shard l = record {
  all : l.yielded ++ into_iter_items l.shard-iterator ≡ l.fn.notes.items;
  layers : l.layers.items ≡ map noted_layer l.yielded;
}
