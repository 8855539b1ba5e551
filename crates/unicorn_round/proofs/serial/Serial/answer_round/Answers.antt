use Rattle.std.proofs.Common.{◌≡◌, ◌++◌, ◌∷◌, [], List, map, sym, ap, ◌∙◌, subst}
use Rattle.reply_text.specs.declared.answer.Answer.{Answer}
use Rattle.reply_text.specs.Printed.{answers_text}
use Rattle.script_rounds.specs.Entries.{AreItemsOf}
use Rattle.script_rounds.specs.Terms.{Terms}
use Rattle.unicorn_round.specs.Answers.{after_rounds, opening_standing}
use Rattle.unicorn_round.specs.SerialState.{RoundsAnswered, filled_at}
use Rattle.unicorn_round.specs.Stacks.{tidy_answers}
use Rattle.unicorn_round.proofs.RoundSteps.{round_more}
use Rattle.unicorn_round.proofs.serial.Serial.answer_round.Goals as goal

pub returns : goal.returns
returns c =
    let terms = c.args.self.terms in
    let mid = c.answer_items.new.self in
    let after = c.tidy.new.self in
    let drafts = c.in_ok-answers.answers.items in
    let text = c.in_ok-text.text in
    let same : after.terms ≡ terms = c.in_ok-tidy.ensures.terms ∙ c.in_ok-answers.ensures.terms in
    let writes : text ≡ answers_text terms.schema (map (filled_at after.publishes after.covers) (drafts ++ tidy_answers mid.publishes [] mid.covers)) =
    c.in_ok-text.ensures
    ∙ ap (λ (xs : List Answer). answers_text after.terms.schema (map (filled_at after.publishes after.covers) xs)) c.in_ok-tidy.ensures.told
    ∙ ap (λ (t : Terms). answers_text t.schema (map (filled_at after.publishes after.covers) (drafts ++ tidy_answers mid.publishes [] mid.covers))) same in
    record {
      is_under = same;
      ready = λ lines is. tt;
      stands = λ entries rounds before of r.
          subst (λ (t : Terms). RoundsAnswered t (rounds ++ entries ∷ []) after (before ++ text)) (sym same)
          (round_more terms rounds entries c.args.self mid after drafts before text r
          (c.in_ok-answers.ensures.answered entries (after_rounds terms (opening_standing terms) rounds r.told) (subst (AreItemsOf entries) (sym c.as_slice.ensures) of) r.there)
          c.in_ok-answers.ensures.terms c.in_ok-tidy.ensures.tidied writes);
    }
