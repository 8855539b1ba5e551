use Rattle.std.proofs.Common.{◌≡◌, ◌++◌, map}
use Rattle.std.specs.Vec.Iter.{into_iter_items}
use Rattle.layer_base.specs.Layers.{stack_table}
use Rattle.shard_eval.specs.Rows.{row_of, with_all}
use Rattle.shard_eval.specs.Sources.{found_lists}
use Rattle.shard_eval.proofs.list.tree_rows.Given as goal

abbrev pub invariant-loop-source : goal.invariant-loop-source
invariant-loop-source l = record {
  all : l.yielded ++ into_iter_items l.source-iterator ≡ l.fn.sources.items;
  rows : map row_of l.rows.items ≡ with_all (found_lists (stack_table l.stack.0) l.yielded) l.fn.keys;
}
