use Rattle.std.proofs.Common.{◌++◌, ◌∷◌, [], map, take, ap, sym, ◌∙◌, append_assoc}
use Rattle.uni_schema.specs.Print.{vertical_line}
use Rattle.uni_base.specs.Lines.{lined}
use Rattle.uni_schema.proofs.LineLists.{lined_next}
use Rattle.uni_schema.proofs.print.add_verticals.Goals as goal

pub loop-no-preserved : goal.loop-no-preserved
loop-no-preserved c =
    c.in_ok-add_vertical.ensures
    ∙ ap (λ x. x ++ lined (vertical_line c.vertical.result.now ∷ [])) c.loop-no.invariant
    ∙ append_assoc c.args.text.now (lined (map vertical_line (take c.loop-no.no c.args.schema.now.verticals))) (lined (vertical_line c.vertical.result.now ∷ []))
    ∙ ap (λ x. c.args.text.now ++ x) (sym (lined_next vertical_line c.args.schema.now.verticals c.loop-no.no c.vertical.result.now c.vertical.ensures.at))
