use Rattle.std.proofs.Common.{rules, ◌≡◌, Some, sym, ap, ◌∙◌, subst}
use Rattle.std.specs.declared.cmp.Ordering.TheVariants.{Equal, Greater}
use Rattle.std.specs.Ordering.{ordering_reverse}
use Rattle.layer_stack.specs.declared.joined.Joined.{Joined}
use Rattle.layer_stack.specs.declared.place.TermKey.{TermKey}
use Rattle.layer_stack.specs.Directories.{IsNext}
use Rattle.layer_stack.specs.Places.{term_cmp}
use Rattle.layer_stack.proofs.Order.{term_total, term_apart}
use Rattle.layer_stack.proofs.joined.lesser.Goals as goal

pub returns-in-Equal-clause-deletes : goal.returns-in-Equal-clause-deletes
returns-in-Equal-clause-deletes c =
    let put = c.args.put.now in let deleted = c.args.deleted.now in
    let same : term_cmp put.0 deleted.0 ≡ Equal = search rules in
    ap (λ (t : TermKey). Some (t, deleted.1)) (sym (term_apart put.0 deleted.0 same) ∙ sym c.term.ensures)

pub returns-in-Greater-clause-puts : goal.returns-in-Greater-clause-puts
returns-in-Greater-clause-puts c =
    let put = c.args.put.now in let deleted = c.args.deleted.now in
    let above : term_cmp put.0 deleted.0 ≡ Greater = search rules in
    subst (λ (j : Joined). IsNext j.term j.puts (Some put)) (sym c.delete_alone.ensures) (term_total.antisymm deleted.0 put.0 ∙ ap ordering_reverse above)
