use Rattle.std.proofs.Common.{rules, arith, ◌≡◌, ◌<◌, ◌≤◌, length, get_or, All, ap, ◌∙◌, sym, subst}
use Rattle.std.proofs.lemmas.List.{take_all}
use Rattle.uni_base.specs.Cursors.{IsRanked}
use Rattle.layer_stack.specs.declared.directory.Span.{Span}
use Rattle.layer_stack.specs.declared.place.TermKey.{TermKey}
use Rattle.layer_stack.specs.Spans.{spanned, delete_rows}
use Rattle.layer_stack.proofs.Told.{ranked_more, count_more}
use Rattle.layer_stack.proofs.runs.are_in_turn.Goals as goal

pub loop-term-preserved : goal.loop-term-preserved
loop-term-preserved c =
    let runs = c.args.runs.now in let keys = c.args.keys.now in let i = c.loop-term._term-index in let e = c.loop-term-item.result in
    let at : get_or runs i e ≡ e = sym c.loop-term-item.is in
    let within = subst (λ (x : TermKey × Span). (x.1.from < x.1.to) × (x.1.to ≤ length keys)) at (c.requires i e c.loop-term-test.true) in
    let ranked : IsRanked (spanned e.1 keys) = subst IsRanked c.part.ensures (c.if-not-is_ranked.ensures {u = tt} (search rules)) in
    record {
      ranked = ranked_more runs keys i e c.loop-term-test.true c.loop-term.invariant.ranked (subst (λ (x : TermKey × Span). IsRanked (spanned x.1 keys)) (sym at) ranked);
      count = count_more runs keys i e c.loop-term.at c.loop-term-test.true at c.loop-term.invariant.count c.if-span-at.false (omega (arith, within.0)) within.1;
    }

pub returns : goal.returns
returns c = λ all.
    let runs = c.args.runs.now in let keys = c.args.keys.now in
    let whole = take_all c.loop-term._term-index runs c.loop-term-test.false in
    let end : c.loop-term.at ≡ length keys = search (rules, all) in
    record {
      ranked = subst (All (λ (e : TermKey × Span). IsRanked (spanned e.1 keys))) whole c.loop-term.invariant.ranked;
      count = ap (λ rs. length (delete_rows rs keys)) (sym whole) ∙ c.loop-term.invariant.count ∙ end;
    }
