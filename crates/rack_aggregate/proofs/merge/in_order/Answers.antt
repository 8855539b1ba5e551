use Rattle.std.proofs.Common.{◌≡◌, ◌∙◌, rules, arith, List, subst, length}
use Rattle.std.proofs.lemmas.Bool.Decides.{nat_tests}
use Rattle.std.proofs.lemmas.List.Sorted.{answers_always}
use Rattle.std.specs.List.Sorted.{IsPermutation, IsSortedByKey}
use Rattle.uni_base.specs.RankOrder.{doc_cmp}
use Rattle.lineage_tree.specs.declared.lineage.RawHit.{RawHit}
use Rattle.rack_aggregate.proofs.Merging.{alone_hits, sorted_hits}
use Rattle.rack_aggregate.proofs.merge.in_order.Goals as goal

pub returns-then-is_alone : goal.returns-then-is_alone
returns-then-is_alone c =
    let one : length c.args.parts.items ≡ 1 = grind (arith, nat_tests, c.if-is_alone.true, c.len-is_alone.ensures, c.args.parts.ok.0) in
    c.in_ok-hits.ensures ∙ alone_hits c.args.parts.items one c.requires.ranked

pub returns : goal.returns
returns c =
    let sorted = c.sort_by_key.new.self.items in
    let up : IsSortedByKey (λ (h : RawHit). h.key) doc_cmp sorted = (c.in_ok-sort_by_key.ensures {u = tt}).sorted (λ (h : RawHit). h.key) (answers_always _ _ _ (λ f a r g k. search rules)) in
    sorted_hits c.args.parts.items sorted c.requires.ranked c.requires.apart
    (subst (λ (hs : List RawHit). IsPermutation hs sorted) c.in_ok-hits.ensures c.sort_by_key.ensures.permutation) up
