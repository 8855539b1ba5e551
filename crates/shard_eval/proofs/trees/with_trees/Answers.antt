use Rattle.std.proofs.Common.{◌≡◌, ◌++◌, ◌∷◌, [], List, map, ap, sym, ◌∙◌, append_assoc}
use Rattle.std.specs.Vec.Iter.{into_iter_items}
use Rattle.shard_eval.specs.declared.trees.TreeRow.{TreeRow}
use Rattle.shard_eval.specs.Rows.{and_tree, row_of, with_found}
use Rattle.shard_eval.specs.Witnesses.{found_in}
use Rattle.shard_eval.proofs.TreeRows.{keys_before, rows_more, read_rows}
use Rattle.shard_eval.proofs.trees.with_trees.Goals as goal

pub loop-row-preserved : goal.loop-row-preserved
loop-row-preserved c =
    let first = found_in c.args.witness.now in
    let past = c.loop-row.yielded in
    let row = c.in-Some.row in
    let rest = into_iter_items c.next.new.self in
    let whole : past ++ row ∷ rest ≡ c.args.rows.items = ap (λ (rs : List TreeRow). past ++ rs) (sym (c.in-Some.ensures {u = tt}).steps.0) ∙ c.loop-row.invariant.all in
    let before = keys_before past row rest c.args.rows.items whole c.requires.rows in
    let tree = (c.in_ok-tree.ensures {u = tt}).tree ∙ c.loop-row.invariant.reads.later row.key before in
    let grown : row_of c.in_ok-and.field-0 ≡ with_found first (row_of row) = (c.in_ok-and.ensures {u = tt}) ∙ ap (and_tree (row_of row)) tree in
    record {
      all = append_assoc past (row ∷ []) rest ∙ whole;
      rows = ap (map row_of) (c.in_ok-push.ensures {u = tt}).items ∙ rows_more first c.loop-row.grown.items past c.in_ok-and.field-0 row c.loop-row.invariant.rows grown;
      reads = read_rows past row first (found_in c.loop-row.witness) (found_in c.tree_at.new.self) c.loop-row.invariant.reads (c.in_ok-tree.ensures {u = tt}).rest;
    }
