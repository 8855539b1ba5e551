use Rattle.std.proofs.Common.{◌≡◌, ◌+◌, ◌++◌, ◌∷◌, [], take, sym, ap, ◌∙◌, subst, refl, option_to_list}
use Rattle.std.proofs.lemmas.List.{take_more}
use Rattle.script_rounds.specs.declared.item.Item.{Item}
use Rattle.script_rounds.specs.Entries.{AreItemsOf}
use Rattle.script_rounds.specs.Fits.{ItemFits}
use Rattle.script_rounds.specs.Terms.{Terms}
use Rattle.unicorn_round.specs.Answers.{after_entries}
use Rattle.unicorn_round.specs.SerialState.{Answered, AllAnswered}
use Rattle.unicorn_round.proofs.Items.{item_fits_at, no_entries, split_last}
use Rattle.unicorn_round.proofs.RoundSteps.{none_answered, one_more_answered}
use Rattle.unicorn_round.proofs.serial.Serial.answer_items.Goals as goal

pub loop-item-init : goal.loop-item-init
loop-item-init c = record {
  terms = refl;
  answered = λ entries s of st.
      subst (AllAnswered c.args.self.now.terms s entries c.args.self.now) (sym c.new-answers.ensures.items)
      (subst (λ es. AllAnswered c.args.self.now.terms s es c.args.self.now []) (sym (no_entries entries of)) (none_answered c.args.self.now s st));
}

pub answer-requires : goal.answer-requires
answer-requires c =
    subst (λ (t : Terms). ItemFits t c.item-item.result) (sym c.loop-item.invariant.terms)
    (subst (ItemFits c.args.self.now.terms) (sym c.item-item.is) (item_fits_at c.args.self.now.terms c.args.items.now c.loop-item.item-index c.item-item.result c.requires c.loop-item-test.true))

pub loop-item-preserved : goal.loop-item-preserved
loop-item-preserved c = record {
  terms = c.in_ok-answer.ensures.terms ∙ c.loop-item.invariant.terms;
  answered = λ entries s of st.
      let terms = c.args.self.now.terms in
      let all = c.args.items.now in
      let i = c.loop-item.item-index in
      let item = c.item-item.result in
      let one : take (i + 1) all ≡ take i all ++ item ∷ [] = take_more all i item c.loop-item-test.true ∙ ap (λ (x : Item). take i all ++ x ∷ []) (sym c.item-item.is) in
      let split = split_last entries (take i all) item (subst (AreItemsOf entries) one of) in
      let a = c.loop-item.invariant.answered split.front s split.are st in
      let now = after_entries terms s split.front a.marks in
      let more = option_to_list c.in_ok-answer.answer in
      let b = subst (λ (t : Terms). Answered t now split.entry c.answer.new.self more) c.loop-item.invariant.terms (c.in_ok-answer.ensures.answered split.entry now split.last a.done.there) in
      subst (AllAnswered terms s entries c.answer.new.self) (sym c.in_ok-add.ensures)
      (subst (λ es. AllAnswered terms s es c.answer.new.self (c.loop-item.answers.items ++ more)) (sym split.is)
      (one_more_answered terms s split.front split.entry c.loop-item.self c.answer.new.self c.loop-item.answers.items more a b));
}
