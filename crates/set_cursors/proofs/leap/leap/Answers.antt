use Rattle.std.proofs.Common.{List, [], Option, ◌∙◌, ap, sym, subst, refl, slice_get, get_or, map, arith}
use Rattle.std.proofs.lemmas.List.{length-map}
use Rattle.std.specs.Ordering.{is_eq}
use Rattle.uni_base.specs.declared.entity.DocKey.{DocKey}
use Rattle.set_cursors.specs.Leaps.{HasReached}
use Rattle.set_cursors.proofs.Shared.{IsPart_refl, IsPart_trans, KeepsShared_refl, KeepsShared_trans, asked_bounds, asked_ended, asked_keeps, asked_nearer, later_from, start_some, start_none, start_bounds, start_among}
use Rattle.set_cursors.proofs.Weights.{last_paid, round_paid, start_paid}
use Rattle.set_cursors.proofs.Reached.{reached_nowhere, reached_there, same_on}
use Rattle.set_cursors.proofs.leap.leap.Goals as goal

pub loop-at-init : goal.loop-at-init
loop-at-init g c =
    let view = g.C.DocCursor.remaining in
    let first = c.in_ok-first.ensures.value ∙ ap (λ (xs : List g.row.C.Denot). slice_get xs 0) c.deref.ensures.value in
    record {
      some = omega (arith, c.args.operands.now.ok.0, start_some view c.args.operands.now.items c.in_ok-first.field-0.now first);
      keeps = KeepsShared_refl (map view c.args.operands.now.items);
      bounds = start_bounds view c.args.operands.now.items c.in_ok-first.field-0.now first c.in_ok-key.key c.in_ok-key.ensures.first c.peek.ensures.ranked;
      is_among = start_among view c.args.operands.now.items c.in_ok-first.field-0.now first c.in_ok-key.key c.in_ok-key.ensures.first;
      parts = IsPart_refl (map view c.args.operands.now.items);
      same = λ i within b late. refl;
      rises = omega arith;
      unmoved = λ e. refl;
      paid = start_paid c.args.moves.now c.in_ok-key.key (map view c.args.operands.now.items);
    }

pub loop-at-smaller : goal.loop-at-smaller
loop-at-smaller g c =
    let view = g.C.DocCursor.remaining in
    asked_nearer c.loop-at.key c.ask_all.result (map view c.loop-at.operands.items) (map view c.ask_all.new.operands.items) c.ask_all.ensures.asked c.in_ok-at.at c.in_ok-at.was
    (ap is_eq (sym c.cmp.ensures) ∙ sym c.is_eq.ensures ∙ c.if-is_eq.false) c.loop-at.invariant.is_among

pub loop-at-preserved : goal.loop-at-preserved
loop-at-preserved g c =
    let view = g.C.DocCursor.remaining in
    let inits = map view c.args.operands.now.items in
    let mids = map view c.loop-at.operands.items in
    let news = map view c.ask_all.new.operands.items in
    let reached = c.ask_all.ensures.asked.reached c.in_ok-at.at c.in_ok-at.was in
    let other = ap is_eq (sym c.cmp.ensures) ∙ sym c.is_eq.ensures ∙ c.if-is_eq.false in
    let some = c.loop-at.invariant.some in
    record {
      some = omega (arith, some, c.loop-at.operands.ok.0, c.ask_all.new.operands.ok.0, c.ask_all.ensures.asked.count, length-map c.loop-at.operands.items view, length-map c.ask_all.new.operands.items view);
      keeps = KeepsShared_trans inits mids news c.loop-at.invariant.keeps (asked_keeps c.loop-at.key c.ask_all.result mids news c.ask_all.ensures.asked);
      bounds = asked_bounds c.loop-at.key c.ask_all.result mids news c.ask_all.ensures.asked c.in_ok-at.at c.in_ok-at.was;
      is_among = reached.is_among;
      parts = λ i. IsPart_trans (get_or inits i []) (get_or mids i []) (get_or news i []) (c.loop-at.invariant.parts i) (c.ask_all.ensures.asked.parts i);
      same = same_on c.loop-at.key c.in_ok-at.at inits mids news c.loop-at.invariant.keeps.count reached c.loop-at.invariant.same;
      rises = omega (arith, c.loop-at.invariant.rises, c.ask_all.ensures.rises);
      unmoved = λ e. c.ask_all.ensures.unmoved (omega (arith, e, c.loop-at.invariant.rises)) ∙ c.loop-at.invariant.unmoved (omega (arith, e, c.ask_all.ensures.rises));
      paid = round_paid c.args.moves.now c.loop-at.moves c.ask_all.new.moves c.loop-at.key c.ask_all.result inits mids news c.loop-at.invariant.paid c.loop-at.invariant.keeps.count
          (omega (arith, c.ask_all.ensures.few, c.loop-at.operands.ok.0, c.loop-at.invariant.keeps.count, length-map c.loop-at.operands.items view)) c.ask_all.ensures.asked c.in_ok-at.at c.in_ok-at.was
          (later_from c.loop-at.key c.in_ok-at.at reached.not_before other);
    }

pub returns-in_err-key : goal.returns-in_err-key
returns-in_err-key g c =
    let view = g.C.DocCursor.remaining in
    let lists = map view c.args.operands.now.items in
    subst (λ (o : Option DocKey). HasReached o c.args.moves.now c.args.moves.now lists lists) (sym c.from_residual-in_err-key.ensures)
    (reached_nowhere c.args.moves.now c.args.moves.now lists lists (KeepsShared_refl lists) (IsPart_refl lists)
    (start_none view c.args.operands.now.items c.in_ok-first.field-0.now (c.in_ok-first.ensures.value ∙ ap (λ (xs : List g.row.C.Denot). slice_get xs 0) c.deref.ensures.value) c.in_err-key.ensures.first)
    (λ i within. omega arith) (omega arith) (λ e. refl))

pub returns-in_err-at : goal.returns-in_err-at
returns-in_err-at g c =
    let view = g.C.DocCursor.remaining in
    let inits = map view c.args.operands.now.items in
    let mids = map view c.loop-at.operands.items in
    let news = map view c.ask_all.new.operands.items in
    let asked = c.ask_all.ensures.asked in
    subst (λ (o : Option DocKey). HasReached o c.args.moves.now c.ask_all.new.moves inits news) (sym c.from_residual-in_err-at.ensures)
    (reached_nowhere c.args.moves.now c.ask_all.new.moves inits news (KeepsShared_trans inits mids news c.loop-at.invariant.keeps (asked_keeps c.loop-at.key c.ask_all.result mids news asked))
    (λ i. IsPart_trans (get_or inits i []) (get_or mids i []) (get_or news i []) (c.loop-at.invariant.parts i) (asked.parts i))
    (asked_ended c.loop-at.key c.ask_all.result mids news asked c.in_err-at.was)
    (last_paid c.args.moves.now c.loop-at.moves c.ask_all.new.moves c.loop-at.key c.ask_all.result inits mids news c.loop-at.invariant.paid c.loop-at.invariant.keeps.count
    (omega (arith, c.ask_all.ensures.few, c.loop-at.operands.ok.0, c.loop-at.invariant.keeps.count, length-map c.loop-at.operands.items view)) asked)
    (omega (arith, c.loop-at.invariant.rises, c.ask_all.ensures.rises))
    (λ e. c.ask_all.ensures.unmoved (omega (arith, e, c.loop-at.invariant.rises)) ∙ c.loop-at.invariant.unmoved (omega (arith, e, c.ask_all.ensures.rises))))

pub returns-then-is_eq : goal.returns-then-is_eq
returns-then-is_eq g c =
    let view = g.C.DocCursor.remaining in
    let ops = c.loop-at.operands in
    let inits = map view c.args.operands.now.items in
    let mids = map view ops.items in
    let asked = c.in_ok-at.ensures.asked in
    reached_there c.args.moves.now c.loop-at.moves c.ask_all.new.moves c.loop-at.key c.in_ok-at.at inits mids (map view c.ask_all.new.operands.items) asked
    (ap is_eq (sym c.cmp.ensures) ∙ sym c.is_eq.ensures ∙ c.if-is_eq.true) c.loop-at.invariant.keeps c.loop-at.invariant.parts c.loop-at.invariant.same c.loop-at.invariant.paid
    (omega (arith, c.loop-at.invariant.some, ops.ok.0, length-map ops.items view))
    (omega (arith, c.ask_all.ensures.few, ops.ok.0, c.loop-at.invariant.keeps.count, length-map ops.items view))
    (omega (arith, c.loop-at.invariant.rises, c.ask_all.ensures.rises))
    (λ e. c.ask_all.ensures.unmoved (omega (arith, e, c.loop-at.invariant.rises)) ∙ c.loop-at.invariant.unmoved (omega (arith, e, c.ask_all.ensures.rises)))
