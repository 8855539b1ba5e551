use Rattle.std.proofs.Common.{Option, map, refl, sym, subst, arith, set}
use Rattle.std.proofs.lemmas.List.{length-map}
use Rattle.uni_base.specs.declared.entity.DocKey.{DocKey}
use Rattle.set_cursors.specs.Leaps.{IsAsked}
use Rattle.set_cursors.proofs.Asked.{asked_all, set_unmoved, start_asking, step_end, step_on}
use Rattle.set_cursors.proofs.leap.ask_all.Goals as goal

pub loop-i-init : goal.loop-i-init
loop-i-init g c = record { asking = start_asking c.args.key.now (map g.C.DocCursor.remaining c.args.operands.now.items) c.requires.bounds; few = omega arith; rises = omega arith; unmoved = λ e. refl }

pub returns-in_err-latest-clause-asked : goal.returns-in_err-latest-clause-asked
returns-in_err-latest-clause-asked g c =
    let view = g.C.DocCursor.remaining in
    subst (λ (o : Option DocKey). IsAsked c.args.key.now o (map view c.args.operands.now.items) (map view (set c.loop-i.operands.items c.loop-i.i c.ask.new.operand))) (sym c.from_residual.ensures)
    (step_end view c.args.key.now c.loop-i.latest c.args.operands.now.items c.loop-i.operands.items c.loop-i.i c.index_mut.result.now c.ask.new.operand
    (omega (arith, c.args.operands.now.ok.0)) c.loop-i.invariant.asking c.index_mut.ensures.value c.ask.ensures.moves c.in_err-latest.ensures.at)

pub returns-in_err-latest-clause-few : goal.returns-in_err-latest-clause-few
returns-in_err-latest-clause-few g c = omega (arith, c.loop-i.invariant.few, c.ask.ensures.few, c.loop-i-test.true, c.len-i-end.ensures)

pub loop-i-preserved : goal.loop-i-preserved
loop-i-preserved g c =
    let view = g.C.DocCursor.remaining in
    record {
      asking = step_on view c.args.key.now c.loop-i.latest c.args.operands.now.items c.loop-i.operands.items c.loop-i.i c.index_mut.result.now c.ask.new.operand
          (omega (arith, c.args.operands.now.ok.0)) c.loop-i.invariant.asking c.index_mut.ensures.value c.ask.ensures.moves c.in_ok-latest.latest c.in_ok-latest.ensures.at c.ask.ensures.ranked;
      few = omega (arith, c.loop-i.invariant.few, c.ask.ensures.few);
      rises = omega (arith, c.loop-i.invariant.rises, c.ask.ensures.rises);
      unmoved = λ same. set_unmoved view c.loop-i.operands.items c.loop-i.i c.index_mut.result.now c.ask.new.operand (map view c.args.operands.now.items) c.index_mut.ensures.value
          (c.ask.ensures.unmoved (omega (arith, same, c.loop-i.invariant.rises))) (c.loop-i.invariant.unmoved (omega (arith, same, c.ask.ensures.rises)));
    }

pub returns-clause-asked : goal.returns-clause-asked
returns-clause-asked g c =
    let view = g.C.DocCursor.remaining in
    asked_all c.args.key.now c.loop-i.latest (map view c.args.operands.now.items) (map view c.loop-i.operands.items) c.loop-i.i
    (omega (arith, c.args.operands.now.ok.0, c.requires.some, length-map c.args.operands.now.items view)) (omega (arith, c.args.operands.now.ok.0, length-map c.args.operands.now.items view)) c.loop-i.invariant.asking

pub returns-in_err-latest-clause-unmoved : goal.returns-in_err-latest-clause-unmoved
returns-in_err-latest-clause-unmoved g c same =
    let view = g.C.DocCursor.remaining in
    set_unmoved view c.loop-i.operands.items c.loop-i.i c.index_mut.result.now c.ask.new.operand (map view c.args.operands.now.items) c.index_mut.ensures.value
    (c.ask.ensures.unmoved (omega (arith, same, c.loop-i.invariant.rises))) (c.loop-i.invariant.unmoved (omega (arith, same, c.ask.ensures.rises)))
