use Rattle.std.proofs.Common.{rules, arith, ◌≡◌, ◌-◌, ◌==◌, ◌&&◌, true, length, suc, ◌∙◌, sym, subst}
use Rattle.std.specs.Ordering.{eq_by_cmp}
use Rattle.std.proofs.lemmas.List.{get_or_read}
use Rattle.layer_stack.specs.declared.directory.Span.{Span}
use Rattle.layer_stack.specs.declared.place.TermKey.{TermKey}
use Rattle.layer_stack.specs.Places.{term_cmp}
use Rattle.layer_stack.proofs.Told.{goes_on}
use Rattle.layer_stack.proofs.runs.note_row.Goals as goal

pub returns-then-goes_on-clause-ok : goal.returns-then-goes_on-clause-ok
returns-then-goes_on-clause-ok c =
    let runs = c.args.runs.now.items in let n = c.len-count.result - 1 in
    let run = c.index_mut.result.now in let read = c.index.result.now in
    let count : c.len-count.result ≡ length runs = search rules in
    let long : length runs ≡ suc n = omega (arith, count, c.if-count-gt0.true) in
    let same : read ≡ run = get_or_read runs n read (omega (arith, long)) c.index.ensures run ∙ sym c.index_mut.ensures.value in
    goes_on runs c.args.term.now c.args.at n run long (sym c.index_mut.ensures.value)
    (subst (λ (e : TermKey × Span). ((e.1.to == c.args.at) && eq_by_cmp term_cmp e.0 c.args.term.now) ≡ true) same (sym c.goes_on.ensures ∙ c.if-goes_on.true))
