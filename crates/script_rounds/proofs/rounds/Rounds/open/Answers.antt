use Rattle.std.proofs.Common.{None, sym, ◌∙◌, ap, subst, refl}
use Rattle.std.proofs.lemmas.Result.{err_from_is_err_and}
use Rattle.std.specs.Arc.{arc_value}
use Rattle.uni_schema.specs.Schema.{Declarations}
use Rattle.script_rounds.specs.Headers.{HeaderFaults, TookHeader}
use Rattle.script_rounds.specs.Reading.{LineState, at}
use Rattle.script_rounds.specs.Terms.{under}
use Rattle.script_rounds.proofs.Opening.{start, script_opened, header_faults}
use Rattle.script_rounds.proofs.rounds.Rounds.open.Goals as goal

pub returns-in_err-schema-clause-refused : goal.returns-in_err-schema-clause-refused
returns-in_err-schema-clause-refused g c =
    let limits = c.args.limits in
    let left_before = g.S.Source.left c.args.source.now in
    let left_after = g.S.Source.left c.take_header.new.source in
    let refusal = err_from_is_err_and c.from_residual.result c.from_residual.ensures.1 in
    rw (refusal.1, refusal.2)
    (header_faults limits c.in_err-schema.field-0.0 c.take_header.new.reader left_before left_after
    (subst (λ (reader : LineState). HeaderFaults limits c.in_err-schema.field-0.0 (at reader left_before) (at c.take_header.new.reader left_after)) c.in-Ok.ensures
    c.in_err-schema.ensures.faulty))

pub returns-clause-opened : goal.returns-clause-opened
returns-clause-opened g c =
    let limits = c.args.limits in
    let left_before = g.S.Source.left c.args.source.now in
    let left_after = g.S.Source.left c.take_header.new.source in
    script_opened limits (record { reader = c.take_header.new.reader; terms = c.new-3.result; refusal = None }) (arc_value c.in-Ok-new.schema) left_before left_after
    (c.new-3.ensures ∙ ap (under limits) c.in-Ok-clone.ensures.cases) refl
    (subst (λ (schema : Declarations). TookHeader limits schema (at (start limits) left_before) (at c.take_header.new.reader left_after)) (sym c.in-Ok-new.ensures.ok)
    (subst (λ (reader : LineState). TookHeader limits c.in_ok-schema.schema (at reader left_before) (at c.take_header.new.reader left_after)) c.in-Ok.ensures
    c.in_ok-schema.ensures.took))
