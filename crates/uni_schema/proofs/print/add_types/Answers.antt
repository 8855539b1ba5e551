use Rattle.std.proofs.Common.{◌++◌, ◌∷◌, [], map, take, ap, sym, ◌∙◌, append_assoc}
use Rattle.uni_schema.specs.Print.{type_line}
use Rattle.uni_base.specs.Lines.{lined}
use Rattle.uni_schema.proofs.LineLists.{lined_next}
use Rattle.uni_schema.proofs.print.add_types.Goals as goal

pub loop-no-preserved : goal.loop-no-preserved
loop-no-preserved c =
    c.in_ok-add_type.ensures
    ∙ ap (λ x. x ++ lined (type_line c.args.schema.now c.type_def.result.now ∷ [])) c.loop-no.invariant
    ∙ append_assoc c.args.text.now (lined (map (type_line c.args.schema.now) (take c.loop-no.no c.args.schema.now.types))) (lined (type_line c.args.schema.now c.type_def.result.now ∷ []))
    ∙ ap (λ x. c.args.text.now ++ x) (sym (lined_next (type_line c.args.schema.now) c.args.schema.now.types c.loop-no.no c.type_def.result.now c.type_def.ensures.at))
