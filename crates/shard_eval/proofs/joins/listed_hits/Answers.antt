use Rattle.std.proofs.Common.{◌≡◌, List, IfOk, map, ap, subst, ◌∙◌}
use Rattle.shard_eval.specs.declared.reached.Reached.{Reached}
use Rattle.shard_eval.specs.Found.{Found, found_all}
use Rattle.shard_eval.specs.Grouped.{firsts, grouped}
use Rattle.shard_eval.specs.Kept.{up_to}
use Rattle.shard_eval.specs.Reached.{found_listed, found_reached}
use Rattle.shard_eval.specs.Resolution.{found_listing, listing_of}
use Rattle.shard_eval.proofs.FoundRanked.{listed_ranked}
use Rattle.shard_eval.proofs.Groups.{or_by_firsts}
use Rattle.shard_eval.proofs.joins.listed_hits.Goals as goal

pub returns : goal.returns
returns c =
    let number = c.args.type_no in
    let inner = map listing_of c.args.inner.now in
    let lists = ap (map found_listed) c.as_slice.ensures ∙ c.in_ok-lists.ensures {u = tt} in
    subst (λ (fs : List Found). IfOk c.grouped_hits.result (λ hits. found_all hits ≡ fs))
    (ap (λ (rs : List Reached). up_to c.args.limit (grouped (map found_reached rs))) c.as_slice-2.ensures
    ∙ ap (λ (fs : List Found). up_to c.args.limit (grouped fs)) (c.in_ok-reached.ensures {u = tt})
    ∙ ap (λ (ls : List (List Found)). up_to c.args.limit (grouped (firsts c.args.limit ls))) lists
    ∙ or_by_firsts c.args.limit (map (found_listing number) inner) (listed_ranked number inner c.requires))
    c.grouped_hits.ensures
