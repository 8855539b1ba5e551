use Rattle.std.proofs.Common.{◌≡◌, ◌+◌, ◌++◌, ◌∷◌, [], List, Option, append-nil, map, take, take-suc, suc, ap, sym, ◌∙◌, arith}
use Rattle.std.specs.List.{cons_option, filter_map}
use Rattle.std.specs.Option.{option_map}
use Rattle.std.proofs.lemmas.List.{map-append}
use Rattle.std.proofs.lemmas.List.Elements.{filter_map-append}
use Rattle.lineage_tree.specs.Tree.{Tree, tree_of}
use Rattle.shard_eval.specs.declared.witness.Postings.{Postings}
use Rattle.shard_eval.specs.Found.{first_at}
use Rattle.shard_eval.specs.Witnesses.{found_postings}
use Rattle.shard_eval.proofs.any.trees_here.Goals.{in-Some+in_ok-push, in_default}
use Rattle.shard_eval.proofs.any.trees_here.Goals as goal

pub loop-term-preserved : goal.loop-term-preserved
loop-term-preserved c =
    let key = c.args.key.now in
    let terms = c.args.terms.now in
    let i = c.loop-term.term-index in
    let term = c.term-item.result in
    let past = take i terms in
    let before = filter_map (first_at key) (map found_postings past) in
    let here : option_map tree_of c.in_ok-tree.field-0 ≡ first_at key (found_postings term) = c.in_ok-tree.ensures {u = tt} in
    let more : filter_map (first_at key) (map found_postings (take (i + 1) terms)) ≡ before ++ cons_option (first_at key (found_postings term)) [] =
    ap (λ n. filter_map (first_at key) (map found_postings (take n terms))) (let e : i + 1 ≡ suc i = omega arith in e)
    ∙ ap (λ (ps : List Postings). filter_map (first_at key) (map found_postings ps)) (take-suc terms i term c.loop-term-test.true ∙ ap (λ (p : Postings). past ++ p ∷ []) (sym c.term-item.is))
    ∙ ap (filter_map (first_at key)) (map-append found_postings past (term ∷ [])) ∙ filter_map-append (first_at key) (map found_postings past) (found_postings term ∷ []) in
    elim c.match-branch-2.branch [
      | in-Some+in_ok-push w ↦
          ap (λ trees. map tree_of trees.items) w.trees-is ∙ ap (map tree_of) w.in_ok-push.ensures.items ∙ map-append tree_of c.loop-term.trees.items (w.in-Some.tree ∷ [])
          ∙ ap (λ (ts : List Tree). ts ++ tree_of w.in-Some.tree ∷ []) c.loop-term.invariant
          ∙ sym (more ∙ ap (λ (t : Option Tree). before ++ cons_option t []) (sym here ∙ ap (option_map tree_of) w.in-Some.is))
      | in_default w ↦
          ap (λ trees. map tree_of trees.items) w.trees-is ∙ c.loop-term.invariant
          ∙ sym (more ∙ ap (λ (t : Option Tree). before ++ cons_option t []) (sym here ∙ ap (option_map tree_of) w.in_default.is) ∙ append-nil before)
    ]
