use Rattle.std.proofs.Common.{rules, ◌≡◌, ◌++◌, ap, sym, ◌∙◌}
use Rattle.reply_text.specs.Printed.{answers_text}
use Rattle.round_feed.specs.Seats.{terms_of}
use Rattle.script_rounds.specs.Terms.{Terms}
use Rattle.unicorn_round.proofs.Texts.{answers_text-append}
use Rattle.unicorn_round.proofs.service.Service.serve.Goals as goal

pub returns : goal.returns
returns g c =
    let new = c.in_ok-service.service in let said = c.in_ok-service.said in let text = c.in_ok-text.text in
    let more = c.in_ok-service.ensures {u = tt} in
    let feeder = (more.ready c.requires.may.lines c.requires.may.ready).feeder in
    let schema = (terms_of new.catalogue).schema in
    let under : c.deref.result.now ≡ schema = search (rules, feeder.schema) in
    let wrote : text ≡ answers_text schema said = c.in_ok-text.ensures {u = tt} ∙ (λ i. answers_text (under i) (c.as_slice.ensures i)) in
    record {
      is_under = more.is_under;
      ready = more.ready;
      stands = λ entries rounds before of stood. record {
        said = stood.said ++ said;
        served = more.stands entries rounds stood.said of stood.served;
        writes =
            ap (λ t. t ++ text) stood.writes
            ∙ ap (λ (terms : Terms). answers_text terms.schema stood.said ++ text) (sym more.is_under)
            ∙ ap (λ t. answers_text schema stood.said ++ t) wrote
            ∙ sym (answers_text-append schema stood.said said);
      };
    }
