use Rattle.std.proofs.Common.{◌≡◌, ◌+◌, ◌++◌, ◌∷◌, [], List, take, drop, All, ap, ◌∙◌, sym, subst}
use Rattle.std.proofs.lemmas.List.{take_more, drop_more, take_all, drop_all}
use Rattle.std.proofs.lemmas.List.Elements.{All-push}
use Rattle.uni_base.specs.Cursors.{IsRanked}
use Rattle.posting_lists.specs.Postings.{keys_of}
use Rattle.layer_stack.specs.Stacks.{PartValue, least_from, lesser}
use Rattle.layer_stack.proofs.merge.least.Goals as goal

pub loop-part-preserved : goal.loop-part-preserved
loop-part-preserved c =
    let i = c.loop-part.part-index in let parts = c.args.parts.now in let part = c.part-item.result in
    let more : take (i + 1) parts ≡ take i parts ++ part ∷ [] = take_more parts i part c.loop-part-test.true ∙ ap (λ x. take i parts ++ x ∷ []) (sym c.part-item.is) in
    let rest : drop i parts ≡ part ∷ drop (i + 1) parts = drop_more parts i part c.loop-part-test.true ∙ ap (λ x. x ∷ drop (i + 1) parts) (sym c.part-item.is) in
    record {
      least = ap (λ o. least_from o (drop (i + 1) parts)) (c.lesser-least.ensures ∙ ap (lesser c.loop-part.least) c.head.ensures.head) ∙ sym (ap (least_from c.loop-part.least) rest) ∙ c.loop-part.invariant.least;
      ranked = subst (λ (ps : List PartValue). All (λ part. IsRanked (keys_of part.1)) ps) (sym more) (All-push (λ (p : PartValue). IsRanked (keys_of p.1)) (take i parts) part c.loop-part.invariant.ranked c.head.ensures.ranked);
    }

pub returns : goal.returns
returns c =
    let i = c.loop-part.part-index in let parts = c.args.parts.now in
    record {
      least = sym (ap (least_from c.loop-part.least) (drop_all i parts c.loop-part-test.false)) ∙ c.loop-part.invariant.least;
      ranked = subst (λ (ps : List PartValue). All (λ part. IsRanked (keys_of part.1)) ps) (take_all i parts c.loop-part-test.false) c.loop-part.invariant.ranked;
    }
