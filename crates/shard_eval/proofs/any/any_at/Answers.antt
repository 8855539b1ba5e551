use Rattle.std.proofs.Common.{rules, ◌≡◌, ◌<◌, List, Some, length, map, arith, ap, subst, sym, ◌∙◌}
use Rattle.std.proofs.lemmas.Bool.Decides.{nat_tests}
use Rattle.std.specs.List.{filter_map}
use Rattle.std.specs.Vec.{vec_len}
use Rattle.lineage_tree.specs.Tree.{Tree, any_of, forest_of, tree_of}
use Rattle.lineage_tree.specs.declared.lineage.Lineage.TheFolds.{fold_out-Lineage}
use Rattle.lineage_tree.specs.declared.lineage.Lineage.TheViews as views
use Rattle.lineage_tree.specs.declared.lineage.Lineage.TheViews.{the_lemmas}
use Rattle.shard_eval.specs.declared.witness.Postings.{Postings}
use Rattle.shard_eval.specs.Found.{Found, first_at, trees_at, KeepsLater}
use Rattle.shard_eval.specs.Grouped.{found_any}
use Rattle.shard_eval.specs.Witnesses.{found_postings}
use Rattle.shard_eval.proofs.AnyTrees.{any_if, any_keeps, any_tree, no_tree, some_tree, trees_first}
use Rattle.shard_eval.proofs.any.any_at.Goals as goal

pub returns-in_err-trees-clause-rest : goal.returns-in_err-trees-clause-rest
returns-in_err-trees-clause-rest c =
    let olds = map found_postings c.args.terms.now.items in
    subst (λ (lists : List (List Found)). KeepsLater c.args.key (found_any olds) (found_any lists)) (sym c.pass_before.ensures.rest) (any_keeps olds c.args.key)

pub returns-then-is_empty-clause-rest : goal.returns-then-is_empty-clause-rest
returns-then-is_empty-clause-rest c =
    let olds = map found_postings c.args.terms.now.items in
    subst (λ (lists : List (List Found)). KeepsLater c.args.key (found_any olds) (found_any lists)) (sym c.pass_before.ensures.rest) (any_keeps olds c.args.key)

pub returns-clause-rest : goal.returns-clause-rest
returns-clause-rest c =
    let olds = map found_postings c.args.terms.now.items in
    subst (λ (lists : List (List Found)). KeepsLater c.args.key (found_any olds) (found_any lists)) (sym c.pass_before.ensures.rest) (any_keeps olds c.args.key)

pub returns-then-is_empty-clause-tree : goal.returns-then-is_empty-clause-tree
returns-then-is_empty-clause-tree c =
    let key = c.args.key in
    let olds = map found_postings c.args.terms.now.items in
    let trees = c.in_ok-trees.trees in
    let told : map tree_of trees.items ≡ trees_at olds key =
    (c.in_ok-trees.ensures {u = tt}) ∙ ap (λ (ps : List Postings). filter_map (first_at key) (map found_postings ps)) c.as_slice.ensures.value
    ∙ ap (filter_map (first_at key)) c.pass_before.ensures.rest ∙ trees_first olds key c.pass_before.ensures.ranked in
    let long : vec_len trees ≡ length trees.items = search rules in
    let none : length trees.items ≡ 0 = grind (arith, c.is_empty.ensures, c.if-is_empty.true, long, nat_tests) in
    sym (any_tree olds key ∙ ap any_if (sym told) ∙ no_tree trees.items none)

pub returns-clause-tree : goal.returns-clause-tree
returns-clause-tree c =
    let key = c.args.key in
    let olds = map found_postings c.args.terms.now.items in
    let trees = c.in_ok-trees.trees in
    let told : map tree_of trees.items ≡ trees_at olds key =
    (c.in_ok-trees.ensures {u = tt}) ∙ ap (λ (ps : List Postings). filter_map (first_at key) (map found_postings ps)) c.as_slice.ensures.value
    ∙ ap (filter_map (first_at key)) c.pass_before.ensures.rest ∙ trees_first olds key c.pass_before.ensures.ranked in
    let long : vec_len trees ≡ length trees.items = search rules in
    let some : 0 < length trees.items = grind (arith, c.is_empty.ensures, c.if-is_empty.false, long, nat_tests) in
    let made : tree_of (views.AnyOf trees) ≡ any_of (forest_of (map tree_of trees.items)) = search (rules, the_lemmas, fold_out-Lineage) in
    ap (λ (t : Tree). Some t) made ∙ some_tree trees.items some ∙ ap any_if told ∙ sym (any_tree olds key)
