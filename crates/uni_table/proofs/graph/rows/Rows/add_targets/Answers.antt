use Rattle.std.proofs.Common.{◌++◌, take, refl, sym, ap, ◌∙◌, append_assoc, get_or}
use Rattle.std.proofs.lemmas.List.{get_or_default}
use Rattle.std.specs.List.{filter_map}
use Rattle.std.specs.Option.{option_to_list}
use Rattle.uni_table.specs.GraphSources.{led_to}
use Rattle.uni_table.specs.declared.graph.numbers.SlotState.TheVariants.{Gone}
use Rattle.uni_table.specs.declared.graph.sources.FarEnd.{FarEnd}
use Rattle.uni_table.proofs.Filters.{filter_map-more, listed-option}
use Rattle.uni_table.proofs.graph.rows.Rows.add_targets.Goals as goal

pub add_led-requires : goal.add_led-requires
add_led-requires c = c.requires c.loop-end.end-index (record { target = 0; state = Gone }) c.loop-end-test.true

pub loop-end-preserved : goal.loop-end-preserved
loop-end-preserved c =
    let ends = c.args.ends.now in
    let i = c.loop-end.end-index in
    let end : FarEnd = get_or ends i (record { target = 0; state = Gone }) in
    let f = led_to c.args.self.now in
    c.in_ok-add_led.ensures ∙ ap (λ ts. ts ++ option_to_list (f end)) c.loop-end.invariant
    ∙ append_assoc c.args.targets.now.items (filter_map f (take i ends)) (option_to_list (f end))
    ∙ ap (λ ts. c.args.targets.now.items ++ ts)
    (ap (λ ts. filter_map f (take i ends) ++ ts) (listed-option (f end))
    ∙ sym (filter_map-more f ends i end (f end) c.loop-end-test.true (get_or_default ends i (record { target = 0; state = Gone }) end c.loop-end-test.true) refl))
