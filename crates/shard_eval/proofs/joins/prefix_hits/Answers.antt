use Rattle.std.proofs.Common.{◌≡◌, ℕ, List, IfOk, map, ap, subst, ◌∙◌}
use Rattle.std.proofs.lemmas.Simd.{map-map}
use Rattle.layer_base.specs.Layers.{stack_table}
use Rattle.uni_base.specs.declared.edge.Key.TheVariants.{Word}
use Rattle.prefix_terms.specs.PrefixCursors.{PrefixPostings}
use Rattle.prefix_terms.specs.PrefixWords.{prefix_words}
use Rattle.shard_eval.specs.Found.{Found, found_all, found_term}
use Rattle.shard_eval.specs.Grouped.{found_any}
use Rattle.shard_eval.specs.Kept.{up_to}
use Rattle.shard_eval.specs.Resolution.{found_words, leaf_of}
use Rattle.shard_eval.proofs.joins.prefix_hits.Goals as goal

pub returns : goal.returns
returns c =
    let table = stack_table c.args.stack.now.0 in
    let number = c.args.type_no in
    let find = found_term table in
    let words : c.as_slice.result.now ≡ prefix_words number c.args.from.now table = c.as_slice.ensures ∙ c.in_ok-words.ensures {u = tt} ∙ ap (λ (p : PrefixPostings). p.words) (c.in_ok-prefix_cursor.ensures {u = tt}) in
    let leaves = c.as_slice-2.ensures ∙ c.in_ok-leaves.ensures {u = tt} in
    subst (λ (lists : List (List Found)). IfOk c.any_hits.result (λ hits. found_all hits ≡ up_to c.args.limit (found_any lists)))
    (ap (map find) leaves ∙ map-map find (λ (word : List ℕ). leaf_of number (Word word)) c.as_slice.result.now ∙ ap (found_words table number) words)
    c.any_hits.ensures
