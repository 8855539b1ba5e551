use Rattle.std.proofs.Common.{◌≡◌, List, map, ap, subst, sym, ◌∙◌, IfOk}
use Rattle.layer_base.specs.Layers.{stack_table}
use Rattle.uni_base.specs.declared.entity.DocKey.{DocKey}
use Rattle.uni_base.specs.Cursors.{IsRanked}
use Rattle.query_tree.specs.declared.query.Mark.{Mark}
use Rattle.shard_eval.specs.declared.source.Source.{Source}
use Rattle.shard_eval.specs.Found.{Found, found_all, found_keys}
use Rattle.shard_eval.specs.Operands.{operand_keys}
use Rattle.shard_eval.specs.Kept.{kept, up_to}
use Rattle.shard_eval.specs.Rows.{found_rows, with_all}
use Rattle.shard_eval.specs.Sources.{found_lists, source_marks}
use Rattle.shard_eval.proofs.KeptRanked.{kept_ranked, rows_up_to, up_to_ranked}
use Rattle.shard_eval.proofs.list.list_hits.Goals as goal

pub tree_rows-requires-clause-keys : goal.tree_rows-requires-clause-keys
tree_rows-requires-clause-keys c =
    let lists = found_lists (stack_table c.args.stack.now.0) c.args.sources.items in
    let marks = source_marks c.args.sources.items in
    let made = c.in_ok-operands.ensures {u = tt} in
    let sources = c.as_slice.ensures.value in
    let told_marks = made.marks ∙ ap source_marks sources in
    let told_keys = made.keys ∙ ap (λ (ss : List (Source × Mark)). map found_keys (found_lists (stack_table c.args.stack.now.0) ss)) sources in
    let keys : c.in_ok-keys.keys ≡ up_to c.args.limit (kept c.args.kind marks (map found_keys lists)) =
    c.in_ok-keys.ensures {u = tt} ∙ ap (λ (ms : List Mark). up_to c.args.limit (kept c.args.kind ms (operand_keys c.in_ok-operands.operands.items))) told_marks ∙ ap (λ (ls : List (List DocKey)). up_to c.args.limit (kept c.args.kind marks ls)) told_keys in
    subst IsRanked (sym keys) (up_to_ranked c.args.limit _ (kept_ranked c.args.kind marks lists c.requires.ranked))

pub returns : goal.returns
returns c =
    let lists = found_lists (stack_table c.args.stack.now.0) c.args.sources.items in
    let marks = source_marks c.args.sources.items in
    let made = c.in_ok-operands.ensures {u = tt} in
    let sources = c.as_slice.ensures.value in
    let told_marks = made.marks ∙ ap source_marks sources in
    let told_keys = made.keys ∙ ap (λ (ss : List (Source × Mark)). map found_keys (found_lists (stack_table c.args.stack.now.0) ss)) sources in
    let keys : c.in_ok-keys.keys ≡ up_to c.args.limit (kept c.args.kind marks (map found_keys lists)) =
    c.in_ok-keys.ensures {u = tt} ∙ ap (λ (ms : List Mark). up_to c.args.limit (kept c.args.kind ms (operand_keys c.in_ok-operands.operands.items))) told_marks ∙ ap (λ (ls : List (List DocKey)). up_to c.args.limit (kept c.args.kind marks ls)) told_keys in
    let rows = c.in_ok-rows.ensures {u = tt} ∙ ap (with_all lists) keys in
    subst (λ (fs : List Found). IfOk c.hits_of.result (λ hits. found_all hits ≡ fs))
    (ap (found_rows c.args.kind) rows ∙ rows_up_to c.args.kind marks lists c.args.limit) c.hits_of.ensures
