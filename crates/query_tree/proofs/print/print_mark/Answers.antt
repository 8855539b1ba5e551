use Rattle.std.proofs.Common.{◌++◌, ap, sym, ◌∙◌}
use Rattle.std.proofs.lemmas.Result.{on_ok_weaker}
use Rattle.query_tree.specs.declared.query.Mark.{Mark}
use Rattle.query_tree.specs.Text.{mark_text}
use Rattle.query_tree.proofs.Appends.{appended}
use Rattle.query_tree.proofs.print.print_mark.Goals as goal

pub returns-in_ok-add-in-Hits : goal.returns-in_ok-add-in-Hits
returns-in_ok-add-in-Hits c =
    on_ok_weaker c.print_number.result
    (λ written.
    appended c.args.out.now _ _ _ _ c.in_ok-add-in-Hits.ensures written
    ∙ ap (λ (mark : Mark). c.args.out.now ++ mark_text mark) (sym c.in-Hits.is))
    c.print_number.ensures

pub returns-in_ok-add-in-Weight-2 : goal.returns-in_ok-add-in-Weight-2
returns-in_ok-add-in-Weight-2 c =
    on_ok_weaker c.print_number-in-Weight-2.result
    (λ written.
    appended c.args.out.now _ _ _ _
    (appended c.args.out.now _ _ _ _
    (appended c.args.out.now _ _ _ _ c.in_ok-add-in-Weight.ensures c.in_ok-print_number-in-Weight.ensures)
    c.in_ok-add-in-Weight-2.ensures)
    written
    ∙ ap (λ (mark : Mark). c.args.out.now ++ mark_text mark) (sym c.in-Weight.is))
    c.print_number-in-Weight-2.ensures
