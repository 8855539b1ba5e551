use Rattle.std.proofs.Common.{◌++◌, ◌∷◌, [], List, map, ap, subst, sym, ◌∙◌, append_assoc}
use Rattle.std.proofs.lemmas.List.{map-append}
use Rattle.std.specs.Vec.Iter.{into_iter_items}
use Rattle.layer_base.specs.Layers.{stack_table}
use Rattle.query_tree.specs.declared.query.Mark.{Mark}
use Rattle.uni_base.specs.Cursors.{IsRanked}
use Rattle.shard_eval.specs.declared.source.Source.{Source}
use Rattle.shard_eval.specs.Found.{Found}
use Rattle.shard_eval.specs.Rows.{keys_of_rows, with_all, with_found}
use Rattle.shard_eval.specs.Sources.{found_by, found_lists, AreRanked}
use Rattle.shard_eval.proofs.SourceLists.{ranked_next}
use Rattle.shard_eval.proofs.TreeRows.{all_more, keys_with_all}
use Rattle.shard_eval.proofs.list.tree_rows.Goals as goal

pub with_source-requires-clause-source : goal.with_source-requires-clause-source
with_source-requires-clause-source c =
    let table = stack_table c.args.stack.now.0 in
    let whole = ap (λ (ss : List (Source × Mark)). c.loop-source.yielded ++ ss) (sym (c.in-Some.ensures {u = tt}).steps.0) ∙ c.loop-source.invariant.all in
    ranked_next table c.loop-source.yielded (c.in-Some.source, c.in-Some.field-0-1) (into_iter_items c.next.new.self)
    (subst (λ (ss : List (Source × Mark)). AreRanked (found_lists table ss)) (sym whole) c.requires.ranked)

pub with_source-requires-clause-rows : goal.with_source-requires-clause-rows
with_source-requires-clause-rows c =
    let lists = found_lists (stack_table c.args.stack.now.0) c.loop-source.yielded in
    subst (λ rows. IsRanked (keys_of_rows rows)) (sym c.loop-source.invariant.rows) (subst IsRanked (sym (keys_with_all lists c.args.keys.now)) c.requires.keys)

pub loop-source-preserved : goal.loop-source-preserved
loop-source-preserved c =
    let table = stack_table c.args.stack.now.0 in
    let past = c.loop-source.yielded in
    let next : Source × Mark = (c.in-Some.source, c.in-Some.field-0-1) in
    let whole = ap (λ (ss : List (Source × Mark)). past ++ ss) (sym (c.in-Some.ensures {u = tt}).steps.0) ∙ c.loop-source.invariant.all in
    record {
      all = append_assoc past (next ∷ []) (into_iter_items c.next.new.self) ∙ whole;
      rows = c.in_ok-rows-2.ensures {u = tt} ∙ ap (map (with_found (found_by table c.in-Some.source))) c.loop-source.invariant.rows
          ∙ sym (all_more (found_lists table past) (found_by table c.in-Some.source) c.args.keys.now)
          ∙ ap (λ (ls : List (List Found)). with_all ls c.args.keys.now) (sym (map-append (λ (s : Source × Mark). found_by table s.0) past (next ∷ [])));
    }
