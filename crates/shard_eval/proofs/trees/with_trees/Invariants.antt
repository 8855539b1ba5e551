-- the rows so far have their trees, and what comes after them can still be read
use Rattle.std.proofs.Common.{◌≡◌, ◌++◌, map}
use Rattle.std.specs.Vec.Iter.{into_iter_items}
use Rattle.shard_eval.specs.Rows.{keys_of_rows, row_of, with_found}
use Rattle.shard_eval.specs.Witnesses.{found_in}
use Rattle.shard_eval.proofs.ReadOn.{CanReadOn}
use Rattle.shard_eval.proofs.trees.with_trees.Given as goal

abbrev pub invariant-loop-row : goal.invariant-loop-row
invariant-loop-row l = record {
  all : l.yielded ++ into_iter_items l.row-iterator ≡ l.fn.rows.items;
  rows : map row_of l.grown.items ≡ map (with_found (found_in l.initial.witness)) (map row_of l.yielded);
  reads : CanReadOn (keys_of_rows (map row_of l.yielded)) (found_in l.initial.witness) (found_in l.witness);
}
