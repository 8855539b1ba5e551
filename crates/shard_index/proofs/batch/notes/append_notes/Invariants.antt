use Rattle.std.proofs.Common.{◌≡◌, ◌++◌, length}
use Rattle.std.specs.Vec.Iter.{into_iter_items}
use Rattle.shard_index.specs.Notes.{with_all}
use Rattle.shard_index.proofs.batch.notes.append_notes.Given as goal

abbrev pub invariant-loop-shard : goal.invariant-loop-shard
invariant-loop-shard l = record {
  all : l.yielded ++ into_iter_items l.shard-iterator ≡ l.fn.later.items;
  at : l.at ≡ length l.yielded;
  notes : l.notes ≡ with_all l.fn.notes l.yielded;
}
