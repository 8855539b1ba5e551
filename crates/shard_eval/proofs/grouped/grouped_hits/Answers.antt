use Rattle.std.proofs.Common.{◌≡◌, List, IfOk, map, rules, ap, subst, sym, ◌∙◌}
use Rattle.std.proofs.lemmas.List.Sorted.{answers_always}
use Rattle.std.specs.List.Sorted.{IsSortedByKey, IsStableByKey}
use Rattle.uni_base.specs.RankOrder.{doc_cmp}
use Rattle.shard_eval.specs.declared.grouped.Place.{Place}
use Rattle.shard_eval.specs.Found.{Found, found_all}
use Rattle.shard_eval.specs.Grouped.{grouped, Rises}
use Rattle.shard_eval.specs.Kept.{up_to}
use Rattle.shard_eval.specs.Reached.{found_place}
use Rattle.shard_eval.proofs.Places.{grouped_stable}
use Rattle.shard_eval.proofs.Runs.{sorted_rises}
use Rattle.shard_eval.proofs.grouped.grouped_hits.Goals as goal

pub hits_in-requires : goal.hits_in-requires
hits_in-requires c =
    let sorted = c.sort_by_key.new.self.items in
    let up : IsSortedByKey (λ (p : Place). p.key) doc_cmp sorted = c.in_ok-sort_by_key.ensures.sorted (λ (p : Place). p.key) (answers_always _ _ _ (λ f a r g k. search rules)) in
    subst (λ (ps : List Place). Rises (map found_place ps)) (sym c.as_slice.ensures.value) (sorted_rises found_place sorted up)

pub returns : goal.returns
returns c =
    let olds = c.into_vec-places.result.items in
    let sorted = c.sort_by_key.new.self.items in
    let stable : IsStableByKey (λ (p : Place). p.key) doc_cmp olds sorted = c.sort_by_key.ensures.stable (λ (p : Place). p.key) (answers_always _ _ _ (λ f a r g k. search rules)) in
    subst (λ (fs : List Found). IfOk c.hits_in.result (λ hits. found_all hits ≡ fs))
    (ap (λ (ps : List Place). up_to c.args.limit (grouped (map found_place ps))) c.as_slice.ensures.value
    ∙ ap (up_to c.args.limit) (grouped_stable olds sorted stable)
    ∙ ap (λ (fs : List Found). up_to c.args.limit (grouped fs)) (ap (map found_place) c.into_vec-places.ensures ∙ c.in_ok-places_of.ensures {u = tt}))
    c.hits_in.ensures
