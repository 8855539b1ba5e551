use Rattle.std.proofs.Common.{ap, ◌∙◌, slice_get}
use Rattle.uni_table.specs.declared.graph.rows.Rows.{Rows}
use Rattle.uni_table.proofs.GraphEnds.{pop-kept, popped}
use Rattle.uni_table.proofs.graph.rows.Rows.end_first.Goals as goal

pub returns-clause-kept : goal.returns-clause-kept
returns-clause-kept c =
    let old = c.mark_ended.new.self in
    let new : Rows = record old { ends = c.pop_first.new.self } in
    let first = c.requires.first in
    pop-kept c.args.publish old new c.mark_ended.ensures.kept (first.0, c.args.number) first.2 c.mark_ended.ensures.marked
    (popped c.pop_first.result old.ends c.pop_first.new.self c.pop_first.ensures.removal c.pop_first.ensures.updates c.pop_first.ensures.variant.1 (first.0, c.args.number)
    (ap (λ s. slice_get s.keys 0) c.mark_ended.ensures.ends ∙ first.1))
