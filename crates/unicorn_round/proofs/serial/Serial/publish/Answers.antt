use Rattle.std.proofs.Common.{[], ◌∷◌, sym, subst}
use Rattle.reply_text.specs.declared.answer.Answer.TheVariants.{Published}
use Rattle.script_rounds.specs.Entries.{publish}
use Rattle.unicorn_round.specs.SerialState.{Answered}
use Rattle.unicorn_round.proofs.SerialSteps.{is_pending, publish_made}
use Rattle.unicorn_round.proofs.serial.Serial.publish.Goals as goal

pub returns-in-Ok-clause-answered : goal.returns-in-Ok-clause-answered
returns-in-Ok-clause-answered c = λ s st.
    let old = c.args.self.now in
    subst (λ n. Answered old.terms s (publish c.args.line) c.make_version.new.self (Published c.args.line n ∷ [])) (sym c.in-Ok.ensures.next)
    (publish_made old c.make_version.new.self s c.args.line st c.in-Ok.ensures.fewer (c.in-Ok.ensures.ok (is_pending old s st)))
