use Rattle.std.proofs.Common.{sym, ap, ◌∙◌}
use Rattle.uni_base.specs.declared.edge.Key.TheVariants.{Id}
use Rattle.uni_table.specs.Contents.{Contents, without_from}
use Rattle.uni_table.specs.GraphState.{GraphState}
use Rattle.uni_table.proofs.Leaving.{without_leaving-none, without_leaving-more}
use Rattle.uni_table.proofs.table.gone.remove_leaving.Goals as goal

pub loop-type_no-init : goal.loop-type_no-init
loop-type_no-init c = ap (λ (t : Contents). record c.args.graph.now { contents = t }) (sym (without_leaving-none c.args.graph.now.contents c.args.id))

pub loop-type_no-preserved : goal.loop-type_no-preserved
loop-type_no-preserved c =
    c.remove_from.ensures ∙ ap (λ (g : GraphState). record g { contents = without_from g.contents c.loop-type_no.type_no (Id c.args.id) }) c.loop-type_no.invariant
    ∙ ap (λ (t : Contents). record c.args.graph.now { contents = t }) (without_leaving-more c.args.graph.now.contents c.loop-type_no.type_no c.args.id)
