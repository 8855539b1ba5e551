use Rattle.std.proofs.Common.{◌≡◌, List, IfOk, map, ap, subst, ◌∙◌}
use Rattle.std.proofs.lemmas.Simd.{map-map}
use Rattle.layer_base.specs.Layers.{stack_table}
use Rattle.shard_eval.specs.Found.{Found, found_all, found_term}
use Rattle.shard_eval.specs.Grouped.{found_any}
use Rattle.shard_eval.specs.Kept.{up_to}
use Rattle.shard_eval.specs.Resolution.{leaf_from}
use Rattle.shard_eval.proofs.joins.joined_hits.Goals as goal

pub returns : goal.returns
returns c =
    let find = found_term (stack_table c.args.stack.now.0) in
    let leaves = c.as_slice.ensures ∙ c.in_ok-leaves.ensures {u = tt} in
    subst (λ (lists : List (List Found)). IfOk c.any_hits.result (λ hits. found_all hits ≡ up_to c.args.limit (found_any lists)))
    (ap (map find) leaves ∙ map-map find (leaf_from c.args.type_no) c.args.inner.now) c.any_hits.ensures
