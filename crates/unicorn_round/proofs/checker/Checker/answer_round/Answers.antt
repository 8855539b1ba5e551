use Rattle.std.proofs.Common.{◌++◌, ◌∷◌, [], sym, subst}
use Rattle.script_rounds.specs.Entries.{AreItemsOf}
use Rattle.script_rounds.specs.Terms.{Terms}
use Rattle.unicorn_round.specs.Answers.{after_rounds, opening_standing}
use Rattle.unicorn_round.specs.CheckState.{RoundsChecked}
use Rattle.unicorn_round.proofs.CheckSteps.{round_checked}
use Rattle.unicorn_round.proofs.checker.Checker.answer_round.Goals as goal

pub returns : goal.returns
returns c =
    let terms = c.args.self.terms in
    let after = c.check_items.new.self in
    let text = c.in_ok-text.text in
    let same = c.in_ok-text.ensures.terms in
    record {
      is_under = same;
      ready = λ lines is. tt;
      stands = λ entries rounds before of r.
          subst (λ (t : Terms). RoundsChecked t (rounds ++ entries ∷ []) after (before ++ text)) (sym same)
          (round_checked terms rounds entries c.args.self after before text r
          (c.in_ok-text.ensures.checked entries (after_rounds terms (opening_standing terms) rounds r.told) (subst (AreItemsOf entries) (sym c.as_slice.ensures) of) r.there)
          same);
    }
