use Rattle.std.proofs.Common.{◌≡◌, ◌++◌, get_or, take, refl, sym, ap, subst, ◌∙◌, append-nil, append_assoc, arith}
use Rattle.std.proofs.lemmas.List.{get_or_default, take_all}
use Rattle.std.specs.List.{filter_map}
use Rattle.std.specs.Option.{option_to_list}
use Rattle.uni_table.specs.GraphOrder.{affected_at, AddsMoved}
use Rattle.uni_table.proofs.Filters.{filter_map-more, listed-option}
use Rattle.uni_table.proofs.WalkedOnce.{are-affected}
use Rattle.uni_table.proofs.graph.rows.Rows.affected_edges.Goals as goal

pub loop-place-init : goal.loop-place-init
loop-place-init c =
    let moved = c.add_moved.new.edges.items in
    (moved, subst (λ old. AddsMoved c.args.self.now old moved) c.in_ok-edges.ensures.items c.in_ok-add_moved.ensures, sym (append-nil moved))

pub loop-place-preserved : goal.loop-place-preserved
loop-place-preserved c =
    let xs = c.as_slice-place-items.result.now in
    let place = get_or xs c.loop-place.place-index 0 in
    let f = affected_at c.args.self.now in
    let so_far = c.loop-place.invariant in (
      so_far.0,
      so_far.1,
      c.in_ok-add_affected.ensures ∙ ap (λ es. es ++ option_to_list (f place)) so_far.2
          ∙ append_assoc so_far.0 (filter_map f (take c.loop-place.place-index xs)) (option_to_list (f place))
          ∙ ap (λ ys. so_far.0 ++ ys)
          (ap (λ ys. filter_map f (take c.loop-place.place-index xs) ++ ys) (listed-option (f place))
          ∙ sym (filter_map-more f xs c.loop-place.place-index place (f place) c.loop-place-test.true (get_or_default xs c.loop-place.place-index 0 place c.loop-place-test.true) refl)),
    )

pub returns : goal.returns
returns c =
    let xs = c.as_slice-place-items.result.now in
    let found = c.loop-place.invariant in
    let f = affected_at c.args.self.now in
    let whole : take c.loop-place.place-index xs ≡ xs = take_all c.loop-place.place-index xs (omega (arith, c.loop-place-test.false)) in
    are-affected c.args.self.now c.requires found.0 c.loop-place.edges.items found.1
    (found.2 ∙ ap (λ ys. found.0 ++ filter_map f ys) (whole ∙ c.as_slice-place-items.ensures.value))
