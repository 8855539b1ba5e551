use Rattle.std.proofs.Common.{rules, arith, ◌≡◌, ◌+◌, ◌<◌, ◌≤◌, ◌++◌, ◌∷◌, [], None, cond, List, length, take, map, get_or, All, set, refl, ap, ◌∙◌, sym, subst}
use Rattle.std.specs.FinMap as finite
use Rattle.std.specs.FinMap.Entries.{find}
use Rattle.std.proofs.lemmas.List.{take_more, take_more_set, take_all, map-append}
use Rattle.std.proofs.lemmas.List.Edits.{map_over_more}
use Rattle.std.proofs.lemmas.List.Elements.{All-push}
use Rattle.uni_base.specs.Cursors.{is_before, IsRanked}
use Rattle.uni_base.specs.KeySets.{has_key}
use Rattle.uni_base.specs.RankOrder.{doc_cmp}
use Rattle.posting_lists.specs.Postings.{keys_of}
use Rattle.layer_base.specs.Layers.{stack_over}
use Rattle.layer_base.specs.Lookups.{either}
use Rattle.layer_base.proofs.Tables.{stack_over-append}
use Rattle.layer_stack.specs.Stacks.{PartValue, StandAt, StandsFrom, entry_of, part_changes, part_table, part_where, least_from, lesser}
use Rattle.layer_stack.proofs.Merged.{get-part, least_from-push, not_passed}
use Rattle.layer_stack.proofs.merge.take.Goals as goal

pub loop-part-init : goal.loop-part-init
loop-part-init c = record {
  passed = refl;
  answer = sym (finite.get-empty doc_cmp c.args.key.now);
  stand = record { least = refl; ranked = λ k d low. absurd (omega arith) };
}

pub take-answer-requires : goal.take-answer-requires
take-answer-requires c =
    let key = c.args.key.now in let i = c.loop-part.part-index in
    subst (StandsFrom key) (sym (not_passed (part_where (is_before key)) c.args.parts.now c.loop-part.parts i c.part-item.result c.loop-part-test.true c.loop-part.invariant.passed))
    (c.requires i c.part-item.result c.loop-part-test.true)

pub loop-part-preserved : goal.loop-part-preserved
loop-part-preserved c =
    let key = c.args.key.now in let f : PartValue → PartValue = part_where (is_before key) in
    let all = c.args.parts.now in let parts = c.loop-part.parts in let i = c.loop-part.part-index in let old = c.part-item.result in let new = c.take-answer.new.self in
    let part : PartValue = get_or all i old in
    let cur : get_or parts i old ≡ part = not_passed f all parts i old c.loop-part-test.true c.loop-part.invariant.passed in
    let passed : new ≡ f old = c.take-answer.ensures.passed ∙ ap f (sym c.part-item.is) in
    let fits : i < length parts = search (rules, arith) in
    let more : take (i + 1) (set parts i new) ≡ take i parts ++ new ∷ [] = take_more_set parts i new fits in
    let split : part_table (take (i + 1) all) ≡ stack_over (part_table (take i all)) (map part_changes (part ∷ [])) =
    ap part_table (take_more all i old c.loop-part-test.true) ∙ ap (stack_over finite.empty) (map-append part_changes (take i all) (part ∷ [])) ∙ stack_over-append finite.empty (map part_changes (take i all)) (map part_changes (part ∷ [])) in
    record {
      passed = ap (set parts i) passed ∙ map_over_more f all parts i old c.loop-part-test.true c.loop-part.invariant.passed c.part-item.is;
      answer = c.take-answer.ensures.answer ∙ (λ j. either (find doc_cmp key (map entry_of (cur j).1)) (cond (has_key (cur j).0 key) None (c.loop-part.invariant.answer j)))
          ∙ sym (ap (λ t. finite.get t key) split ∙ get-part (part_table (take i all)) part key);
      stand = record {
        least = c.lesser-least.ensures ∙ (λ j. lesser (c.loop-part.invariant.stand.least j) (c.head.ensures.head j)) ∙ sym (ap (least_from None) more ∙ least_from-push None (take i parts) new);
        ranked = subst (λ (ps : List PartValue). All (λ part. IsRanked (keys_of part.1)) ps) (sym more) (All-push (λ (p : PartValue). IsRanked (keys_of p.1)) (take i parts) new c.loop-part.invariant.stand.ranked c.head.ensures.ranked);
      };
    }

pub returns-clause-answer : goal.returns-clause-answer
returns-clause-answer c =
    c.loop-part.invariant.answer ∙ ap (λ ps. finite.get (part_table ps) c.args.key.now) (take_all c.loop-part.part-index c.args.parts.now c.loop-part-test.false)

pub returns-clause-least : goal.returns-clause-least
returns-clause-least c =
    let whole : length c.loop-part.parts ≤ c.loop-part.part-index = omega (arith, c.loop-part-test.false, c.loop-part.auto.parts) in
    subst (λ (ps : List PartValue). StandAt c.loop-part.least ps) (take_all c.loop-part.part-index c.loop-part.parts whole) c.loop-part.invariant.stand
