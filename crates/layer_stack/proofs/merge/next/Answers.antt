use Rattle.std.proofs.Common.{◌≡◌, ◌<◌, ◌∷◌, None, Some, List, drop, refl, ap, ◌∙◌, sym, subst, ⊎_elim, is_some, slice_get}
use Rattle.std.specs.Prelude.{T}
use Rattle.std.specs.FinMap as finite
use Rattle.uni_base.specs.Cursors.{is_before}
use Rattle.uni_base.specs.declared.entity.DocKey.{DocKey}
use Rattle.posting_lists.specs.declared.posting.Posting.{Posting}
use Rattle.layer_stack.specs.Stacks.{PartValue, part_table, remaining_of, least_from}
use Rattle.layer_stack.proofs.Heads.{after_first, first_back}
use Rattle.layer_stack.proofs.Merged.{least_some, least_none, front_is, hidden_passes, none_left, remaining-where, remaining_ranked, total_of, total_falls, HasHead}
use Rattle.layer_stack.proofs.merge.next.Goals as goal

pub loop-head-init : goal.loop-head-init
loop-head-init c = record { same = refl; stand = c.requires }

pub take-answer-requires : goal.take-answer-requires
take-answer-requires c = (least_some None c.loop-head.parts c.in-Some.key c.loop-head.invariant.stand.ranked (sym c.loop-head.invariant.stand.least ∙ c.in-Some.is)).stand

pub returns-in-Some-answer-clause-first : goal.returns-in-Some-answer-clause-first
returns-in-Some-answer-clause-first c =
    let found = least_some None c.loop-head.parts c.in-Some.key c.loop-head.invariant.stand.ranked (sym c.loop-head.invariant.stand.least ∙ c.in-Some.is) in
    let parts = c.loop-head.parts in let key = c.in-Some.key in
    let p : Posting = record { key = key; audience = c.in-Some-answer.audience } in
    let front : slice_get (remaining_of parts) 0 ≡ Some p = front_is key c.in-Some-answer.audience parts found.stand (sym c.take-answer.ensures.answer ∙ c.in-Some-answer.is) in
    let left : remaining_of c.take-answer.new.parts ≡ drop 1 (remaining_of parts) =
    ap remaining_of c.take-answer.ensures.passed ∙ remaining-where (is_before key) parts ∙ after_first p (remaining_of parts) (remaining_ranked parts) front in
    ap (λ ps. p ∷ ps) left ∙ first_back p (remaining_of parts) front ∙ c.loop-head.invariant.same

no_key : (k : DocKey) → None ≡ Some k → ⊥
no_key k e = subst (λ o. T (is_some o)) (sym e) tt

pub loop-head-smaller : goal.loop-head-smaller
loop-head-smaller c =
    let found = least_some None c.loop-head.parts c.in-Some.key c.loop-head.invariant.stand.ranked (sym c.loop-head.invariant.stand.least ∙ c.in-Some.is) in
    let has : HasHead c.in-Some.key c.loop-head.parts = ⊎_elim (λ e. absurd (no_key c.in-Some.key e)) (λ h. h) found.is_one in
    subst (λ (ps : List PartValue). total_of ps < total_of c.loop-head.parts) (sym c.take-answer.ensures.passed) (total_falls c.in-Some.key c.loop-head.parts has)

pub loop-head-preserved : goal.loop-head-preserved
loop-head-preserved c =
    let found = least_some None c.loop-head.parts c.in-Some.key c.loop-head.invariant.stand.ranked (sym c.loop-head.invariant.stand.least ∙ c.in-Some.is) in
    let none : finite.get (part_table c.loop-head.parts) c.in-Some.key ≡ None = sym c.take-answer.ensures.answer ∙ c.in_default-answer.is in
    record {
      same = ap remaining_of c.take-answer.ensures.passed ∙ hidden_passes c.in-Some.key c.loop-head.parts found.stand none ∙ c.loop-head.invariant.same;
      stand = c.take-answer.ensures.least;
    }

pub returns-clause-least : goal.returns-clause-least
returns-clause-least c = c.loop-head.invariant.stand

pub returns-clause-first : goal.returns-clause-first
returns-clause-first c = c.loop-head.invariant.same

pub returns-clause-none : goal.returns-clause-none
returns-clause-none c =
    let gone : least_from None c.loop-head.parts ≡ None = sym c.loop-head.invariant.stand.least ∙ c.in_default.is in
    none_left c.loop-head.parts (least_none None c.loop-head.parts gone).1
