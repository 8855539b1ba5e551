use Rattle.std.proofs.Common.{rules, arith, ◌≡◌, ◌≤◌, Some, None, length, slice_get, refl, sym, ap, ◌∙◌, subst}
use Rattle.std.specs.declared.cmp.Ordering.TheVariants.{Less, Equal, Greater}
use Rattle.std.specs.FinMap.{is_sorted}
use Rattle.std.specs.Prelude.{T}
use Rattle.layer_base.proofs.Placed.{none_past, same_placed}
use Rattle.layer_stack.specs.declared.place.TermKey.{TermKey}
use Rattle.layer_stack.specs.declared.term_spans.TermSpans.{TermSpans}
use Rattle.layer_stack.specs.Directories.{puts_in, deletes_in}
use Rattle.layer_stack.specs.Places.{term_cmp}
use Rattle.layer_stack.proofs.Directories.{answer_by}
use Rattle.layer_stack.proofs.Order.{term_total}
use Rattle.layer_stack.proofs.Passed.{before_more, all_before, next_after}
use Rattle.layer_stack.proofs.directory.Directory.spans_from.Goals as goal

pub loop-at-init : goal.loop-at-init
loop-at-init c = c.requires

pub loop-at-preserved : goal.loop-at-preserved
loop-at-preserved c =
    let row : TermKey × TermSpans = (c.in_ok-found.found.now, c.in_ok-found.spans.now) in
    let at : slice_get c.args.self.now c.loop-at.at ≡ Some row = ap (λ es. slice_get es c.loop-at.at) (sym c.self.view_is) ∙ sym (c.in_ok-found.ensures {u = tt}).entry in
    let less : term_cmp row.0 c.args.term.now ≡ Less = search rules in
    before_more c.args.term.now c.args.self.now c.loop-at.at row at less c.loop-at.invariant

pub returns-in_err-found-clause-puts : goal.returns-in_err-found-clause-puts
returns-in_err-found-clause-puts c =
    let none : slice_get c.args.self.now c.loop-at.at ≡ None = ap (λ es. slice_get es c.loop-at.at) (sym c.self.view_is) ∙ sym (c.in_err-found.ensures {u = tt}).entry in
    answer_by puts_in refl c.args.term.now c.self.inside.spans.entries c.args.self.now c.self.invariant.0 c.self.view_is c.from_residual.result (c.from_residual.ensures ∙ sym (all_before c.args.term.now c.args.self.now c.loop-at.at (none_past c.args.self.now c.loop-at.at none) c.loop-at.invariant))

pub returns-in_err-found-clause-deletes : goal.returns-in_err-found-clause-deletes
returns-in_err-found-clause-deletes c =
    let none : slice_get c.args.self.now c.loop-at.at ≡ None = ap (λ es. slice_get es c.loop-at.at) (sym c.self.view_is) ∙ sym (c.in_err-found.ensures {u = tt}).entry in
    answer_by deletes_in refl c.args.term.now c.self.inside.spans.entries c.args.self.now c.self.invariant.0 c.self.view_is c.from_residual.result (c.from_residual.ensures ∙ sym (all_before c.args.term.now c.args.self.now c.loop-at.at (none_past c.args.self.now c.loop-at.at none) c.loop-at.invariant))

pub returns-in-Equal-clause-puts : goal.returns-in-Equal-clause-puts
returns-in-Equal-clause-puts c =
    let row : TermKey × TermSpans = (c.in_ok-found.found.now, c.in_ok-found.spans.now) in
    let at : slice_get c.args.self.now c.loop-at.at ≡ Some row = ap (λ es. slice_get es c.loop-at.at) (sym c.self.view_is) ∙ sym (c.in_ok-found.ensures {u = tt}).entry in
    let sorted : T (is_sorted term_cmp c.args.self.now) = subst (λ es. T (is_sorted term_cmp es)) c.self.view_is c.self.invariant.0.sorted in
    let same : term_cmp row.0 c.args.term.now ≡ Equal = search rules in
    answer_by puts_in refl c.args.term.now c.self.inside.spans.entries c.args.self.now c.self.invariant.0 c.self.view_is (Some row.1) (sym (same_placed term_cmp term_total c.args.term.now c.args.self.now sorted c.loop-at.at row at same))

pub returns-in-Equal-clause-deletes : goal.returns-in-Equal-clause-deletes
returns-in-Equal-clause-deletes c =
    let row : TermKey × TermSpans = (c.in_ok-found.found.now, c.in_ok-found.spans.now) in
    let at : slice_get c.args.self.now c.loop-at.at ≡ Some row = ap (λ es. slice_get es c.loop-at.at) (sym c.self.view_is) ∙ sym (c.in_ok-found.ensures {u = tt}).entry in
    let sorted : T (is_sorted term_cmp c.args.self.now) = subst (λ es. T (is_sorted term_cmp es)) c.self.view_is c.self.invariant.0.sorted in
    let same : term_cmp row.0 c.args.term.now ≡ Equal = search rules in
    answer_by deletes_in refl c.args.term.now c.self.inside.spans.entries c.args.self.now c.self.invariant.0 c.self.view_is (Some row.1) (sym (same_placed term_cmp term_total c.args.term.now c.args.self.now sorted c.loop-at.at row at same))

pub returns-in-Greater-clause-puts : goal.returns-in-Greater-clause-puts
returns-in-Greater-clause-puts c =
    let row : TermKey × TermSpans = (c.in_ok-found.found.now, c.in_ok-found.spans.now) in
    let at : slice_get c.args.self.now c.loop-at.at ≡ Some row = ap (λ es. slice_get es c.loop-at.at) (sym c.self.view_is) ∙ sym (c.in_ok-found.ensures {u = tt}).entry in
    let sorted : T (is_sorted term_cmp c.args.self.now) = subst (λ es. T (is_sorted term_cmp es)) c.self.view_is c.self.invariant.0.sorted in
    let above : term_cmp row.0 c.args.term.now ≡ Greater = search rules in
    answer_by puts_in refl c.args.term.now c.self.inside.spans.entries c.args.self.now c.self.invariant.0 c.self.view_is None (sym (next_after c.args.term.now c.args.self.now c.loop-at.at sorted row at above c.loop-at.invariant))

pub returns-in-Greater-clause-deletes : goal.returns-in-Greater-clause-deletes
returns-in-Greater-clause-deletes c =
    let row : TermKey × TermSpans = (c.in_ok-found.found.now, c.in_ok-found.spans.now) in
    let at : slice_get c.args.self.now c.loop-at.at ≡ Some row = ap (λ es. slice_get es c.loop-at.at) (sym c.self.view_is) ∙ sym (c.in_ok-found.ensures {u = tt}).entry in
    let sorted : T (is_sorted term_cmp c.args.self.now) = subst (λ es. T (is_sorted term_cmp es)) c.self.view_is c.self.invariant.0.sorted in
    let above : term_cmp row.0 c.args.term.now ≡ Greater = search rules in
    answer_by deletes_in refl c.args.term.now c.self.inside.spans.entries c.args.self.now c.self.invariant.0 c.self.view_is None (sym (next_after c.args.term.now c.args.self.now c.loop-at.at sorted row at above c.loop-at.invariant))

pub returns-clause-puts : goal.returns-clause-puts
returns-clause-puts c =
    let past : length c.self.inside.spans.entries ≤ c.loop-at.at = search (rules, arith) in
    answer_by puts_in refl c.args.term.now c.self.inside.spans.entries c.args.self.now c.self.invariant.0 c.self.view_is None (sym (all_before c.args.term.now c.args.self.now c.loop-at.at (subst (λ es. length es ≤ c.loop-at.at) c.self.view_is past) c.loop-at.invariant))

pub returns-clause-deletes : goal.returns-clause-deletes
returns-clause-deletes c =
    let past : length c.self.inside.spans.entries ≤ c.loop-at.at = search (rules, arith) in
    answer_by deletes_in refl c.args.term.now c.self.inside.spans.entries c.args.self.now c.self.invariant.0 c.self.view_is None (sym (all_before c.args.term.now c.args.self.now c.loop-at.at (subst (λ es. length es ≤ c.loop-at.at) c.self.view_is past) c.loop-at.invariant))
