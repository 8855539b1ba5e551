use Rattle.std.proofs.Common.{rules, arith, ◌≡◌, ℕ, ◌+◌, ◌<◌, ◌++◌, ◌∷◌, [], true, length, take, set, get_or, slice_get, Some, sym, ap, subst, ◌∙◌}
use Rattle.std.proofs.lemmas.List.{length-set, take_all, take_more}
use Rattle.std.proofs.lemmas.Option.{get_or_from_slice_get}
use Rattle.layer_stack.specs.Marks.{mark_of, AreMarked}
use Rattle.layer_stack.specs.declared.place.TermKey.{TermKey}
use Rattle.layer_stack.specs.declared.term_spans.TermSpans.{TermSpans}
use Rattle.layer_stack.proofs.Marked.{one_marked}
use Rattle.layer_stack.proofs.marks.Marks.of.Goals as goal

pub loop-at-preserved : goal.loop-at-preserved
loop-at-preserved c =
    let es = c.args.spans.now.entries in let at = c.loop-at.at in let marks = c.loop-at.marks.items in
    let low : at < length es = search (rules, arith) in
    let e : TermKey × TermSpans = (c.unwrap.result.0.now, c.unwrap.result.1.now) in
    let there : slice_get es at ≡ Some e = search rules in
    let first : take (at + 1) es ≡ take at es ++ e ∷ [] = take_more es at e low ∙ ap (λ x. take at es ++ x ∷ []) (get_or_from_slice_get es at e e there) in
    let mark : c.mark_of.result ≡ mark_of e.0 = search rules in (
      length-set marks c.mark_of.result true ∙ c.loop-at.invariant.0,
      subst (AreMarked (set marks c.mark_of.result true)) (sym first)
          (subst (λ n. AreMarked (set marks n true) (take at es ++ e ∷ [])) (sym mark) (one_marked marks (take at es) e c.loop-at.invariant.1)),
    )

pub returns : goal.returns
returns c =
    let es = c.args.spans.now.entries in
    let all : length es ≡ c.loop-at.at = search (rules, arith) in
    subst (AreMarked c.loop-at.marks.items) (take_all c.loop-at.at es (omega (arith, all))) c.loop-at.invariant.1
