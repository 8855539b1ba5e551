use Rattle.std.proofs.Common.{not, refl, arith}
use Rattle.uni_base.specs.declared.entity.DocKey.{DocKey}
use Rattle.uni_base.specs.Cursors.{is_before}
use Rattle.set_cursors.proofs.Commons.{first_at, first_moved}
use Rattle.set_cursors.proofs.leap.seek_first.Goals as goal

pub returns-in-Some-clause-moves : goal.returns-in-Some-clause-moves
returns-in-Some-clause-moves g c =
    let ops = c.args.operands.now.items in
    let some = c.in-Some.ensures.variant.0 refl in
    first_moved g.C.DocCursor.remaining (λ (k : DocKey). not (is_before k c.args.from.now)) ops c.in-Some.first.now c.seek.new.self
    (first_at ops c.in-Some.first.now (omega (arith, some, c.args.operands.now.ok.0)) c.in-Some.ensures.value) c.seek.ensures
