use Rattle.std.proofs.Common.{◌≡◌, ◌∙◌, ap, sym, take, List}
use Rattle.std.proofs.lemmas.List.{take-map}
use Rattle.lineage_tree.specs.declared.lineage.RawHit.{RawHit}
use Rattle.rack_aggregate.specs.Merged.{all_hits, hits_in_rank_order, keys_of}
use Rattle.rack_aggregate.proofs.Merging.{merged_keys}
use Rattle.rack_aggregate.proofs.merge.merge_top.Goals as goal

pub returns-clause-keys : goal.returns-clause-keys
returns-clause-keys c =
    let all : List RawHit = hits_in_rank_order (all_hits c.args.parts.items) in
    let hits : c.from_vec.result ≡ take c.args.limit all = c.from_vec.ensures ∙ c.truncate.ensures.items ∙ ap (take c.args.limit) c.in_ok-hits.ensures in
    ap keys_of hits ∙ sym (take-map (λ (h : RawHit). h.key) c.args.limit all) ∙ ap (take c.args.limit) (merged_keys c.args.parts.items)
