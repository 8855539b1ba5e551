use Rattle.std.proofs.Common.{◌++◌, ◌∷◌, [], take, ap, sym, ◌∙◌, append_assoc}
use Rattle.uni_schema.specs.Print.{deny_lines}
use Rattle.uni_base.specs.Lines.{lined}
use Rattle.uni_schema.proofs.LineLists.{deny_next}
use Rattle.uni_schema.proofs.print.add_denials.Goals as goal

pub loop-no-preserved : goal.loop-no-preserved
loop-no-preserved c =
    c.in_ok-add_denial.ensures
    ∙ ap (λ x. x ++ lined (deny_lines (c.type_def.result.now ∷ []))) c.loop-no.invariant
    ∙ append_assoc c.args.text.now (lined (deny_lines (take c.loop-no.no c.args.schema.now.types))) (lined (deny_lines (c.type_def.result.now ∷ [])))
    ∙ ap (λ x. c.args.text.now ++ x) (sym (deny_next c.args.schema.now.types c.loop-no.no c.type_def.result.now c.type_def.ensures.at))
