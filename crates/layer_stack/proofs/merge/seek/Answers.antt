use Rattle.std.proofs.Common.{not, set, ap, ◌∙◌, sym}
use Rattle.std.proofs.lemmas.List.Edits.{map_over_more}
use Rattle.uni_base.specs.Cursors.{is_before}
use Rattle.layer_stack.specs.Stacks.{PartValue, part_where}
use Rattle.layer_stack.proofs.merge.seek.Goals as goal

pub loop-part-preserved : goal.loop-part-preserved
loop-part-preserved c =
    let f : PartValue → PartValue = part_where (λ k. not (is_before k c.args.from.now)) in
    ap (set c.loop-part.parts c.loop-part.part-index) (c.seek.ensures ∙ ap f (sym c.part-item.is))
    ∙ map_over_more f c.args.parts.now c.loop-part.parts c.loop-part.part-index c.part-item.result c.loop-part-test.true c.loop-part.invariant c.part-item.is
