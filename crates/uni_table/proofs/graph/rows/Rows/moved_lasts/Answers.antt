use Rattle.std.proofs.Common.{◌++◌, get_or, take, refl, sym, ap, ◌∙◌}
use Rattle.std.proofs.lemmas.List.{get_or_default}
use Rattle.std.specs.List.{filter_map}
use Rattle.std.specs.Option.{option_to_list}
use Rattle.uni_table.specs.GraphChanges.{moved_last_at}
use Rattle.uni_table.proofs.Filters.{filter_map-more, listed-option}
use Rattle.uni_table.proofs.graph.rows.Rows.moved_lasts.Goals as goal

pub loop-number-preserved : goal.loop-number-preserved
loop-number-preserved c =
    let xs = c.as_slice-number-items.result.now in
    let number = get_or xs c.loop-number.number-index 0 in
    let f = moved_last_at c.args.self.now in
    c.in_ok-push_some.ensures ∙ ap (λ o. c.loop-number.places.items ++ option_to_list o) c.moved_last.ensures
    ∙ ap (λ cs. cs ++ option_to_list (f number)) c.loop-number.invariant
    ∙ ap (λ ys. filter_map f (take c.loop-number.number-index xs) ++ ys) (listed-option (f number))
    ∙ sym (filter_map-more f xs c.loop-number.number-index number (f number) c.loop-number-test.true (get_or_default xs c.loop-number.number-index 0 number c.loop-number-test.true) refl)
