use Rattle.std.proofs.Common.{◌<◌, [], length, subst, sym, arith}
use Rattle.uni_base.specs.KeySets.{without}
use Rattle.set_cursors.specs.Firsts.{HasNoneBefore, is_first}
use Rattle.set_cursors.proofs.Moved.{at_old, moved_more, stays_more}
use Rattle.set_cursors.proofs.operands.pass_all.Goals as goal

pub pass-requires : goal.pass-requires
pass-requires g c =
    let view = g.C.DocCursor.remaining in
    let at = at_old view (without c.args.key.now) c.args.operands.now.items c.loop-i.operands.items c.loop-i.i c.index_mut.result.now
    (omega (arith, c.args.operands.now.ok.0)) c.loop-i.invariant.moved c.index_mut.ensures.value [] in
    subst (HasNoneBefore c.args.key.now) (sym at) (c.requires c.loop-i.i)

pub loop-i-preserved : goal.loop-i-preserved
loop-i-preserved g c =
    let view = g.C.DocCursor.remaining in
    let within : c.loop-i.i < length c.args.operands.now.items = omega (arith, c.args.operands.now.ok.0) in
    record {
      moved = moved_more view (without c.args.key.now) c.args.operands.now.items c.loop-i.operands.items c.loop-i.i c.index_mut.result.now
          within c.loop-i.invariant.moved c.index_mut.ensures.value c.pass.new.operand c.pass.ensures.passes;
      stays = stays_more view (without c.args.key.now) c.args.operands.now.items c.loop-i.operands.items c.loop-i.i c.index_mut.result.now
          within c.loop-i.invariant.moved c.index_mut.ensures.value (is_first c.args.key.now) c.pass.new.operand c.pass.ensures.stays [] c.loop-i.invariant.stays;
    }
