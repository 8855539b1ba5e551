use Rattle.std.proofs.Common.{◌≡◌, List, IfOk, map, ap, subst, ◌∙◌}
use Rattle.layer_base.specs.Layers.{stack_table}
use Rattle.shard_eval.specs.declared.reached.Reached.{Reached}
use Rattle.shard_eval.specs.Found.{Found, found_all, found_term}
use Rattle.shard_eval.specs.Grouped.{grouped}
use Rattle.shard_eval.specs.Kept.{up_to}
use Rattle.shard_eval.specs.Reached.{found_reached}
use Rattle.shard_eval.proofs.FoundRanked.{terms_ranked}
use Rattle.shard_eval.proofs.Groups.{or_by_firsts}
use Rattle.shard_eval.proofs.joins.any_hits.Goals as goal

pub returns : goal.returns
returns c =
    let table = stack_table c.args.stack.now.0 in
    let leaves = c.args.leaves.now in
    subst (λ (fs : List Found). IfOk c.grouped_hits.result (λ hits. found_all hits ≡ fs))
    (ap (λ (rs : List Reached). up_to c.args.limit (grouped (map found_reached rs))) c.as_slice.ensures
    ∙ ap (λ (fs : List Found). up_to c.args.limit (grouped fs)) (c.in_ok-reached.ensures {u = tt})
    ∙ or_by_firsts c.args.limit (map (found_term table) leaves) (terms_ranked table leaves))
    c.grouped_hits.ensures
