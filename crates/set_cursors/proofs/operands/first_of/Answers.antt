use Rattle.std.proofs.Common.{map, take}
use Rattle.std.proofs.lemmas.List.{map_more}
use Rattle.set_cursors.proofs.FirstKeys.{first_more}
use Rattle.set_cursors.proofs.operands.first_of.Goals as goal

pub loop-operand-preserved : goal.loop-operand-preserved
loop-operand-preserved g c =
    let remaining = g.C.DocCursor.remaining in
    let more = map_more remaining c.args.operands.now c.loop-operand.operand-index c.operand-item.result c.loop-operand-test.true in
    let first = first_more (map remaining (take c.loop-operand.operand-index c.args.operands.now)) (remaining c.operand-item.result) c.peek.ensures.ranked in
    cc
