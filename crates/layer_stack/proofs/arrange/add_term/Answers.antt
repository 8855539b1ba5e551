use Rattle.std.proofs.Common.{◌≡◌, ◌++◌, ◌∷◌, [], take, ap, ◌∙◌, sym, append-nil}
use Rattle.std.proofs.lemmas.Grind.{flat_map-append}
use Rattle.std.proofs.lemmas.List.{take_more}
use Rattle.layer_stack.specs.Runs.{numbered, run_items}
use Rattle.layer_stack.specs.Spans.{spanned}
use Rattle.layer_stack.proofs.arrange.add_term.Goals as goal

pub loop-term-preserved : goal.loop-term-preserved
loop-term-preserved c =
    let runs = c.args.runs.now in let xs = numbered c.args.keys.now in let i = c.loop-term._term-index in let e = c.loop-term-item.result in
    let added : c.add_numbers.new.group.items ≡ c.loop-term.group.items ++ spanned e.1 xs = c.in_ok-add_numbers.ensures {u = tt} in
    added ∙ ap (λ l. l ++ spanned e.1 xs) c.loop-term.invariant
    ∙ sym (ap (λ rs. run_items rs xs) (take_more runs i e c.loop-term-test.true ∙ ap (λ x. take i runs ++ x ∷ []) (sym c.loop-term-item.is))
    ∙ flat_map-append (λ r. spanned r.1 xs) (take i runs) (e ∷ []) ∙ ap (λ l. run_items (take i runs) xs ++ l) (append-nil (spanned e.1 xs)))
