use Rattle.std.proofs.Common.{rules, ◌≡◌, ◌<◌, ◌≤◌, ◌++◌, ◌∷◌, [], List, length, map, ap, sym, ◌∙◌, arith}
use Rattle.std.proofs.lemmas.List.{map-append}
use Rattle.lineage_tree.specs.Tree.{Tree, any_of, edge, forest_of, tree_of}
use Rattle.lineage_tree.specs.declared.lineage.Lineage.TheFolds.{fold_out-Lineage}
use Rattle.lineage_tree.specs.declared.lineage.Lineage.TheViews as views
use Rattle.lineage_tree.specs.declared.lineage.Lineage.TheViews.{the_lemmas}
use Rattle.shard_eval.specs.declared.leaf.Leaf.{Leaf}
use Rattle.shard_eval.specs.Found.{held_by, led_by}
use Rattle.shard_eval.specs.Witnesses.{word_tree}
use Rattle.shard_eval.proofs.PrefixTrees.{trees_all, trees_with, trees_without}
use Rattle.shard_eval.proofs.prefix.PrefixWitness.any_tree.Goals.{in-Some+in_ok-tree+in_ok-push, in_default}
use Rattle.shard_eval.proofs.prefix.PrefixWitness.any_tree.Goals as goal

pub loop-i-preserved : goal.loop-i-preserved
loop-i-preserved c =
    let number = c.args.self.now.type_no in let cursor = c.args.self.now.cursor in let key = c.args.key in let i = c.loop-i.i in
    let fits : i < length cursor.words = omega (arith, c.loop-i-test.true, c.words-i-end.ensures) in
    let posting = c.audience.ensures.posting key c.requires in
    elim c.match-audience.branch [
      | in-Some+in_ok-tree+in_ok-push w ↦
          let audience = w.in-Some.audience in let word = w.word.result in
          let told : tree_of w.in_ok-tree.field-0 ≡ word_tree number word key audience =
          w.in_ok-tree.ensures ∙ ap (λ (leaf : Leaf). led_by leaf.led (edge (held_by leaf.type_no leaf.key (record { key = key; audience = audience })))) w.of-leaf.ensures in
          ap (λ trees. map tree_of trees.items) w.trees-is ∙ ap (map tree_of) w.in_ok-push.ensures.items ∙ map-append tree_of c.loop-i.trees.items (w.in_ok-tree.field-0 ∷ [])
          ∙ (λ j. c.loop-i.invariant j ++ told j ∷ []) ∙ sym (trees_with number cursor key i word audience fits (sym w.in-Some.is ∙ posting) w.word.ensures)
      | in_default w ↦ ap (λ trees. map tree_of trees.items) w.trees-is ∙ c.loop-i.invariant ∙ sym (trees_without number cursor key i fits (sym w.in_default.is ∙ posting))
    ]

pub returns : goal.returns
returns c =
    let cursor = c.args.self.now.cursor in
    let past : length cursor.words ≤ c.loop-i.i = omega (arith, c.loop-i-test.false, c.words-i-end.ensures) in
    let made : tree_of (views.AnyOf c.loop-i.trees) ≡ any_of (forest_of (map tree_of c.loop-i.trees.items)) = search (rules, the_lemmas, fold_out-Lineage) in
    made ∙ ap (λ (ts : List Tree). any_of (forest_of ts)) (c.loop-i.invariant ∙ trees_all c.args.self.now.type_no cursor c.args.key c.loop-i.i past)
