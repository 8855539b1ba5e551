use Rattle.std.proofs.Common.{arith}
use Rattle.uni_base.specs.Cursors.{keys_from}
use Rattle.set_cursors.proofs.Moved.{moved_more}
use Rattle.set_cursors.proofs.operands.seek_all.Goals as goal

pub loop-i-preserved : goal.loop-i-preserved
loop-i-preserved g c =
    moved_more g.C.DocCursor.remaining (keys_from c.args.from.now) c.args.operands.now.items c.loop-i.operands.items c.loop-i.i c.index_mut.result.now
    (omega (arith, c.args.operands.now.ok.0)) c.loop-i.invariant c.index_mut.ensures.value c.seek.new.self c.seek.ensures
