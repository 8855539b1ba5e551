use Rattle.std.proofs.Common.{[], ℕ, List, sym, ap, ◌∙◌, subst, append-nil}
use Rattle.script_rounds.specs.Terms.{Terms}
use Rattle.unicorn_round.specs.Reads.{HasRead}
use Rattle.unicorn_round.specs.Writing.{Took, TookPart}
use Rattle.unicorn_round.proofs.RanSteps.{ran_memory, ran_done, ran_unclosed}
use Rattle.unicorn_round.proofs.script.answer_script.Goals as goal

pub returns-in_default-clause-ran : goal.returns-in_default-clause-ran
returns-in_default-clause-ran g c =
    let left = g.S.Source.left c.args.source.now in
    let left_after = g.S.Source.left c.answer_rounds.new.source in
    let taken = g.K.Sink.taken c.args.sink.now in
    let taken_now = g.K.Sink.taken c.answer_rounds.new.sink in
    let all = c.in-Ok.ensures.all in
    let o = all.ongoing in
    ran_memory c.args.limits g.A.Answering.claims g.A.Answering.closing all.state o.schema left left_after taken taken_now o.rounds [] o.text
    (subst (HasRead c.args.limits all.state o.schema left left_after) (sym (append-nil o.rounds)) o.read)
    (subst (λ (t : Terms). g.A.Answering.claims t o.rounds o.text) o.is_under (g.met.A.Answering.claimed c.in-Ok.all.0 o.rounds o.text o.stands))
    o.took

pub returns-in-Ok-write_all-clause-ran : goal.returns-in-Ok-write_all-clause-ran
returns-in-Ok-write_all-clause-ran g c =
    let left = g.S.Source.left c.args.source.now in
    let left_after = g.S.Source.left c.answer_rounds.new.source in
    let taken = g.K.Sink.taken c.args.sink.now in
    let taken_now = g.K.Sink.taken c.answer_rounds.new.sink in
    let taken_after = g.K.Sink.taken c.write_all.new.sink in
    let all = c.in-Ok.ensures.all in
    let o = all.ongoing in
    ran_done c.args.limits g.A.Answering.claims g.A.Answering.closing all.state o.schema left left_after o.rounds o.read all.spent taken taken_now taken_after o.text c.in-Ok-close.text
    (subst (λ (t : Terms). g.A.Answering.claims t o.rounds o.text) o.is_under (g.met.A.Answering.claimed c.in-Ok.all.0 o.rounds o.text o.stands))
    (c.in-Ok-close.ensures ∙ ap g.A.Answering.closing all.counted)
    o.took
    (subst (λ (t : List ℕ). Took taken_now t taken_after) c.as_slice.ensures c.in-Ok-write_all.ensures.ok)

pub returns-clause-ran : goal.returns-clause-ran
returns-clause-ran g c =
    let left = g.S.Source.left c.args.source.now in
    let left_after = g.S.Source.left c.answer_rounds.new.source in
    let taken = g.K.Sink.taken c.args.sink.now in
    let taken_now = g.K.Sink.taken c.answer_rounds.new.sink in
    let taken_after = g.K.Sink.taken c.write_all.new.sink in
    let all = c.in-Ok.ensures.all in
    let o = all.ongoing in
    ran_unclosed c.args.limits g.A.Answering.claims g.A.Answering.closing all.state o.schema left left_after o.rounds o.read all.spent taken taken_now taken_after o.text c.in-Ok-close.text
    (subst (λ (t : Terms). g.A.Answering.claims t o.rounds o.text) o.is_under (g.met.A.Answering.claimed c.in-Ok.all.0 o.rounds o.text o.stands))
    (c.in-Ok-close.ensures ∙ ap g.A.Answering.closing all.counted)
    o.took
    (subst (λ (t : List ℕ). TookPart taken_now t taken_after) c.as_slice.ensures c.in-Err-write_all.ensures.err)
