use Rattle.std.proofs.Common.{rules, arith, length, ◌≡◌, [], List, IfNone, sym, subst}
use Rattle.std.proofs.lemmas.List.{with_items_is}
use Rattle.uni_base.specs.Cursors.{IsRanked}
use Rattle.posting_lists.specs.Postings.{keys_of}
use Rattle.layer_stack.specs.Stacks.{PartValue, StandAt, first_and, remaining_of}
use Rattle.layer_stack.proofs.Merged.{remaining_ranked}
use Rattle.layer_stack.proofs.merging.MergingCursor.over.Goals as goal

pub invariant_of-result : goal.invariant_of-result
invariant_of-result c =
    let items : (Rattle.std.specs.Vec.with_items c.args.parts c.next-front.new.parts).items ≡ c.next-front.new.parts =
    let long : length c.next-front.new.parts ≡ c.args.parts.len = search (rules, arith) in
    with_items_is c.args.parts c.next-front.new.parts long in
    subst (λ (ps : List PartValue). StandAt c.next-front.new.head ps × IfNone c.next-front.result (remaining_of ps ≡ []) × IsRanked (keys_of (first_and c.next-front.result (remaining_of ps)))) (sym items)
    (c.next-front.ensures.least, c.next-front.ensures.none, subst (λ ps. IsRanked (keys_of ps)) (sym c.next-front.ensures.first) (remaining_ranked c.deref_mut.result.now))
