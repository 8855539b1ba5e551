use Rattle.std.proofs.Common.{◌≡◌, sym, ◌∙◌, ap, subst}
use Rattle.uni_base.specs.Numbers.{number_between}
use Rattle.uni_base.specs.declared.limits.Limits.{Limits}
use Rattle.script_rounds.specs.Asks.{AskParts, ask_entry, parts_of}
use Rattle.script_rounds.specs.Entries.{Entry, IsItemOf}
use Rattle.script_rounds.proofs.Asked.{parts_of-cut, ask_entry-query}
use Rattle.script_rounds.proofs.ask.read_ask.Goals as goal

pub returns-clause-item : goal.returns-clause-item
returns-clause-item c =
    let one = c.first_field.result in
    let two = c.first_field-2.result in
    let three = c.first_field-3.result in
    let parts : AskParts = record { viewer = one.0.now; session = two.0.now; limit = three.0.now; query = three.1.now } in
    let cut : parts_of c.args.text.now ≡ parts =
    parts_of-cut c.args.text.now one.0.now two.0.now three.0.now three.1.now one.1.now two.1.now
    c.first_field.ensures.parts c.first_field-2.ensures.parts c.first_field-3.ensures.parts in
    let is = ask_entry-query c.args.terms.now c.args.number parts c.in-Some.viewer c.in-Some-read_between.session c.in-Some-read_between-2.limit
    (sym c.read_id.ensures ∙ c.in-Some.is)
    (ap (λ (l : Limits). number_between 1 l.sessions two.0.now) (sym c.limits.ensures.limits) ∙ sym c.read_between.ensures.number ∙ c.in-Some-read_between.is)
    (ap (λ n. number_between 1 n three.0.now) (sym c.most_hits.ensures) ∙ sym c.read_between-2.ensures.number ∙ c.in-Some-read_between-2.is) in
    subst (λ (e : Entry). IsItemOf e c.ask_query.result) (sym (ap (ask_entry c.args.terms.now c.args.number) cut ∙ is)) c.ask_query.ensures.item
