use Rattle.std.proofs.Common.{◌≡◌, ◌≤◌, ◌<◌, ◌+◌, ◌++◌, ◌∷◌, [], ℕ, List, length, refl, sym, ap, ◌∙◌, subst, arith}
use Rattle.std.specs.Arc.{arc_value}
use Rattle.uni_schema.specs.declared.refusal.SchemaRefusal.{SchemaRefusal}
use Rattle.script_rounds.specs.Fits.{ItemsFit}
use Rattle.script_rounds.specs.declared.header.OpenRefusal.{OpenRefusal}
use Rattle.script_rounds.specs.RoundsState.{OpenRefused}
use Rattle.script_rounds.specs.Terms.{Terms, under}
use Rattle.unicorn_round.specs.Headers.{FaultWritten}
use Rattle.unicorn_round.specs.Outcome.{Ran}
use Rattle.unicorn_round.specs.Statuses.{status_of}
use Rattle.unicorn_round.specs.Writing.{Took, TookPart}
use Rattle.unicorn_round.proofs.RanSteps.{ran_refused, ran_begun, ran_memory, ran_stopped, ran_unwritten, took_none, took_append}
use Rattle.unicorn_round.proofs.Reading.{read_header, reads_on, ends_on}
use Rattle.unicorn_round.proofs.Results.{at_ok, at_err, at_some}
use Rattle.unicorn_round.proofs.script.answer_rounds.Goals as goal

pub returns-in-Err-Schema-clause-ran : goal.returns-in-Err-Schema-clause-ran
returns-in-Err-Schema-clause-ran g c =
    let left = g.S.Source.left c.args.source.now in
    let left_after = g.S.Source.left c.open.new.source in
    let taken = g.K.Sink.taken c.args.sink.now in
    let taken_after = g.K.Sink.taken c.write_header_fault.new.sink in
    ran_refused c.args.limits g.A.Answering.claims g.A.Answering.closing c.in-Err-Schema.refusal left left_after taken taken_after c.write_header_fault.result
    g.met.A.Answering.nothing
    (subst (λ (refusal : OpenRefusal). OpenRefused c.args.limits refusal left left_after) c.in-Err-Schema.field-0-is c.in-Err-Schema.ensures.refused)
    (subst (λ (refusal : SchemaRefusal). FaultWritten refusal taken taken_after c.write_header_fault.result) c.in-Err-Schema.refusal-is c.write_header_fault.ensures.written)

pub returns-in-Err-Script-clause-ran : goal.returns-in-Err-Script-clause-ran
returns-in-Err-Script-clause-ran g c =
    let left = g.S.Source.left c.args.source.now in
    let left_after = g.S.Source.left c.open.new.source in
    let taken = g.K.Sink.taken c.args.sink.now in
    subst (Ran c.args.limits g.A.Answering.claims g.A.Answering.closing left left_after taken taken) (sym (c.status_of.ensures ∙ ap status_of c.in-Err-Script.refusal-is))
    (ran_begun c.args.limits g.A.Answering.claims g.A.Answering.closing c.in-Err-Script.refusal left left_after taken g.met.A.Answering.nothing
    (subst (λ (refusal : OpenRefusal). OpenRefused c.args.limits refusal left left_after) c.in-Err-Script.field-0-is c.in-Err-Script.ensures.refused))

pub returns-in_default-clause-ran : goal.returns-in_default-clause-ran
returns-in_default-clause-ran g c =
    let left = g.S.Source.left c.args.source.now in
    let left_after = g.S.Source.left c.open.new.source in
    let taken = g.K.Sink.taken c.args.sink.now in
    let schema = arc_value c.in-Ok.opened.1 in
    ran_memory c.args.limits g.A.Answering.claims g.A.Answering.closing c.in-Ok.opened.0 schema left left_after taken taken [] [] []
    (read_header c.args.limits c.in-Ok.opened.0 schema left left_after c.in-Ok.ensures.opened c.in-Ok.ensures.within.0 c.in-Ok.ensures.within.1)
    (g.met.A.Answering.nothing (under c.args.limits schema)) (took_none taken)

pub returns-in-Err-clause-ran : goal.returns-in-Err-clause-ran
returns-in-Err-clause-ran g c =
    let left = g.S.Source.left c.args.source.now in
    let left_after = g.S.Source.left c.next.new.source in
    let taken = g.K.Sink.taken c.args.sink.now in
    let taken_now = g.K.Sink.taken c.loop-round.sink in
    let o = c.loop-round.invariant.ongoing in
    subst (Ran c.args.limits g.A.Answering.claims g.A.Answering.closing left left_after taken taken_now) (sym (c.status_of-in-Err.ensures ∙ ap status_of c.in-Err.refusal-is))
    (ran_stopped c.args.limits g.A.Answering.claims g.A.Answering.closing c.loop-round.rounds c.next.new.self o.schema left (g.S.Source.left c.loop-round.source) left_after taken taken_now
    o.rounds o.text c.in-Err.refusal o.read (c.in-Err.ensures.stopped c.loop-round.invariant.ready)
    (subst (λ (t : Terms). g.A.Answering.claims t o.rounds o.text) o.is_under (g.met.A.Answering.claimed c.loop-round.answering o.rounds o.text o.stands))
    o.took)

-- nothing is answered yet
pub loop-round-init : goal.loop-round-init
loop-round-init g c =
    let left = g.S.Source.left c.args.source.now in
    let left_after = g.S.Source.left c.open.new.source in
    let schema = arc_value c.in-Ok.opened.1 in
    let o = c.requires.opened c.in-Ok.opened.1 c.in-Ok-open_with.answering c.in-Ok-open_with.ensures in
    record {
      ongoing = record {
        schema = schema;
        is_under = o.is_under;
        rounds = [];
        text = [];
        read = read_header c.args.limits c.in-Ok.opened.0 schema left left_after c.in-Ok.ensures.opened c.in-Ok.ensures.within.0 c.in-Ok.ensures.within.1;
        stands = o.stands;
        took = took_none (g.K.Sink.taken c.args.sink.now);
      };
      goes = record { lines = 0; is = o.ready; few = omega arith };
      ready = c.in-Ok.ensures.opened.ready;
      reads = c.in-Ok.ensures.faults;
      writes = refl;
    }

-- a round that was read may be answered
pub answer_with-requires : goal.answer_with-requires
answer_with-requires g c =
    let o = c.loop-round.invariant.ongoing in
    let goes = c.loop-round.invariant.goes in
    let count : c.loop-round.rounds.reader.lines + length c.in-Ok-Some.round.items ≤ c.next.new.self.reader.lines = at_some _ c.in-Ok-Some.field-0 c.in-Ok-Some.round c.in-Ok-Some.field-0-is c.in-Ok-Some.ensures.count in
    let onward : c.loop-round.rounds.reader.lines < c.next.new.self.reader.lines = at_some _ c.in-Ok-Some.field-0 c.in-Ok-Some.round c.in-Ok-Some.field-0-is c.in-Ok-Some.ensures.onward in
    let terms : c.next.new.self.terms ≡ c.loop-round.rounds.terms = c.next.ensures.terms in
    let within : c.next.new.self.reader.lines ≤ c.args.limits.script = omega (arith, c.next.ensures.few, ap (λ (t : Terms). t.limits.script) (terms ∙ o.read.terms)) in
    c.requires.may c.loop-round.answering c.in-Ok-Some.round.items
    (record {
      fit = subst (λ (t : Terms). ItemsFit t c.in-Ok-Some.round.items) (o.read.terms ∙ sym o.is_under) (at_some _ c.in-Ok-Some.field-0 c.in-Ok-Some.round c.in-Ok-Some.field-0-is c.in-Ok-Some.ensures.fits);
      from = c.loop-round.rounds.reader.lines;
      to = c.next.new.self.reader.lines;
      rise = at_some _ c.in-Ok-Some.field-0 c.in-Ok-Some.round c.in-Ok-Some.field-0-is c.in-Ok-Some.ensures.rise;
      lines = goes.lines;
      ready = goes.is;
      few = omega (arith, goes.few, count, onward, within, c.requires.standard.script);
    })

pub returns-in_default-answer_with-clause-ran : goal.returns-in_default-answer_with-clause-ran
returns-in_default-answer_with-clause-ran g c =
    let left = g.S.Source.left c.args.source.now in
    let left_now = g.S.Source.left c.loop-round.source in
    let left_after = g.S.Source.left c.next.new.source in
    let taken = g.K.Sink.taken c.args.sink.now in
    let taken_now = g.K.Sink.taken c.loop-round.sink in
    let o = c.loop-round.invariant.ongoing in
    let n = reads_on c.args.limits c.loop-round.rounds c.next.new.self o.schema left left_now left_after o.rounds c.in-Ok-Some.field-0 c.in-Ok-Some.round c.in-Ok-Some.field-0-is o.read
    c.in-Ok-Some.ensures.read c.in-Ok-Some.ensures.terms c.in-Ok-Some.ensures.within c.in-Ok-Some.ensures.end in
    ran_memory c.args.limits g.A.Answering.claims g.A.Answering.closing c.next.new.self o.schema left left_after taken taken_now o.rounds (n.entries ∷ []) o.text n.read
    (subst (λ (t : Terms). g.A.Answering.claims t o.rounds o.text) o.is_under (g.met.A.Answering.claimed c.loop-round.answering o.rounds o.text o.stands))
    o.took

pub returns-then-is_err-clause-ran : goal.returns-then-is_err-clause-ran
returns-then-is_err-clause-ran g c =
    let left = g.S.Source.left c.args.source.now in
    let left_now = g.S.Source.left c.loop-round.source in
    let left_after = g.S.Source.left c.next.new.source in
    let taken = g.K.Sink.taken c.args.sink.now in
    let taken_now = g.K.Sink.taken c.loop-round.sink in
    let o = c.loop-round.invariant.ongoing in
    let n = reads_on c.args.limits c.loop-round.rounds c.next.new.self o.schema left left_now left_after o.rounds c.in-Ok-Some.field-0 c.in-Ok-Some.round c.in-Ok-Some.field-0-is o.read
    c.in-Ok-Some.ensures.read c.in-Ok-Some.ensures.terms c.in-Ok-Some.ensures.within c.in-Ok-Some.ensures.end in
    let text = c.in-Ok-answer_with.text in
    let h = c.requires.answered c.loop-round.answering c.in-Ok-Some.round.items c.in-Ok-answer_with.next text c.in-Ok-answer_with.ensures in
    let stands = h.stands n.entries o.rounds o.text n.are o.stands in
    ran_unwritten c.args.limits g.A.Answering.claims g.A.Answering.closing c.next.new.self o.schema left left_after taken taken_now (g.K.Sink.taken c.write_all.new.sink)
    (o.rounds ++ n.entries ∷ []) o.text text n.read
    (subst (λ (t : Terms). g.A.Answering.claims t (o.rounds ++ n.entries ∷ []) (o.text ++ text)) (h.is_under ∙ o.is_under)
    (g.met.A.Answering.claimed c.in-Ok-answer_with.next (o.rounds ++ n.entries ∷ []) (o.text ++ text) stands))
    o.took
    (subst (λ (t : List ℕ). TookPart taken_now t (g.K.Sink.taken c.write_all.new.sink)) c.as_slice.ensures (at_err c.write_all.result (cc) c.write_all.ensures.err))

pub loop-round-preserved : goal.loop-round-preserved
loop-round-preserved g c =
    let left = g.S.Source.left c.args.source.now in
    let left_now = g.S.Source.left c.loop-round.source in
    let left_after = g.S.Source.left c.next.new.source in
    let taken = g.K.Sink.taken c.args.sink.now in
    let taken_now = g.K.Sink.taken c.loop-round.sink in
    let o = c.loop-round.invariant.ongoing in
    let n = reads_on c.args.limits c.loop-round.rounds c.next.new.self o.schema left left_now left_after o.rounds c.in-Ok-Some.field-0 c.in-Ok-Some.round c.in-Ok-Some.field-0-is o.read
    c.in-Ok-Some.ensures.read c.in-Ok-Some.ensures.terms c.in-Ok-Some.ensures.within c.in-Ok-Some.ensures.end in
    let text = c.in-Ok-answer_with.text in
    let h = c.requires.answered c.loop-round.answering c.in-Ok-Some.round.items c.in-Ok-answer_with.next text c.in-Ok-answer_with.ensures in
    let goes = c.loop-round.invariant.goes in
    let count : c.loop-round.rounds.reader.lines + length c.in-Ok-Some.round.items ≤ c.next.new.self.reader.lines = at_some _ c.in-Ok-Some.field-0 c.in-Ok-Some.round c.in-Ok-Some.field-0-is c.in-Ok-Some.ensures.count in
    let onward : c.loop-round.rounds.reader.lines < c.next.new.self.reader.lines = at_some _ c.in-Ok-Some.field-0 c.in-Ok-Some.round c.in-Ok-Some.field-0-is c.in-Ok-Some.ensures.onward in
    record {
      ongoing = record {
        schema = o.schema;
        is_under = h.is_under ∙ o.is_under;
        rounds = o.rounds ++ n.entries ∷ [];
        text = o.text ++ text;
        read = n.read;
        stands = h.stands n.entries o.rounds o.text n.are o.stands;
        took = took_append taken taken_now (g.K.Sink.taken c.write_all.new.sink) o.text text o.took
            (subst (λ (t : List ℕ). Took taken_now t (g.K.Sink.taken c.write_all.new.sink)) c.as_slice.ensures (at_ok c.write_all.result (cc) c.write_all.ensures.ok));
      };
      goes = record {
        lines = goes.lines + length c.in-Ok-Some.round.items + 1;
        is = h.ready goes.lines goes.is;
        few = omega (arith, goes.few, count, onward);
      };
      ready = c.in-Ok-Some.ensures.ready.1;
      reads = c.in-Ok-Some.ensures.faults c.loop-round.invariant.ready ∙ c.loop-round.invariant.reads;
      writes = at_ok c.write_all.result (cc) c.write_all.ensures.quiet ∙ c.loop-round.invariant.writes;
    }

pub returns-clause-all : goal.returns-clause-all
returns-clause-all g c =
    let left = g.S.Source.left c.args.source.now in
    let left_now = g.S.Source.left c.loop-round.source in
    let left_after = g.S.Source.left c.next.new.source in
    let o = c.loop-round.invariant.ongoing in
    let n = ends_on c.args.limits c.loop-round.rounds c.next.new.self o.schema left left_now left_after o.rounds c.in-Ok-None.field-0 c.in-Ok-None.field-0-is o.read
    c.in-Ok-None.ensures.read c.in-Ok-None.ensures.terms c.in-Ok-None.ensures.within c.in-Ok-None.ensures.end in
    record {
      state = c.next.new.self;
      ongoing = record { schema = o.schema; is_under = o.is_under; rounds = o.rounds; text = o.text; read = n.0; stands = o.stands; took = o.took };
      spent = n.1;
      counted = c.lines.ensures.lines;
    }
