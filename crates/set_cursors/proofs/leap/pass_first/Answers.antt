use Rattle.std.proofs.Common.{map, not, subst}
use Rattle.std.specs.Ordering.{is_eq}
use Rattle.uni_base.specs.declared.entity.DocKey.{DocKey}
use Rattle.uni_base.specs.RankOrder.{doc_cmp}
use Rattle.set_cursors.specs.Firsts.{HasNoneBefore}
use Rattle.set_cursors.proofs.Commons.{first_at, first_moved, first_view, none_before_first, some_operands}
use Rattle.set_cursors.proofs.leap.pass_first.Goals as goal

pub pass-requires : goal.pass-requires
pass-requires g c =
    let view = g.C.DocCursor.remaining in
    let ops = c.args.operands.now.items in
    let at = first_at ops c.index_mut.result.now (some_operands view ops c.args.key.now c.requires.first_is) c.index_mut.ensures.value in
    subst (HasNoneBefore c.args.key.now) (first_view view ops c.index_mut.result.now at) (none_before_first c.args.key.now (map view ops) (c.requires.all_there c.args.key.now cc) 0)

pub returns-clause-moves : goal.returns-clause-moves
returns-clause-moves g c =
    let view = g.C.DocCursor.remaining in
    let ops = c.args.operands.now.items in
    let at = first_at ops c.index_mut.result.now (some_operands view ops c.args.key.now c.requires.first_is) c.index_mut.ensures.value in
    first_moved view (λ (k : DocKey). not (is_eq (doc_cmp c.args.key.now k))) ops c.index_mut.result.now c.pass.new.operand at c.pass.ensures.passes
