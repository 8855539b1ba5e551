use Rattle.std.proofs.Common.{◌≡◌, ◌-◌, ◌∙◌, suc, sym, ap, subst, drop, reverse, ◌++◌, arith}
use Rattle.std.specs.List.{filter_map}
use Rattle.std.specs.Map.{keys_of}
use Rattle.uni_table.specs.GraphRows.{held_at, held_by, slot_named}
use Rattle.uni_table.proofs.GraphPlaces.{entry-at}
use Rattle.uni_table.proofs.GraphWalks.{IsAlong, along-start, picked-start, along-within, along-next, next-le, picked-next, reverse-cons}
use Rattle.uni_table.proofs.graph.rows.Rows.add_at.Goals as goal

pub loop-number-init : goal.loop-number-init
loop-number-init c =
    let rows = c.args.self.now in
    record {
      along = subst (IsAlong rows c.args.side c.args.index) (sym c.last-number.ensures) (along-start rows c.requires c.args.side c.args.index);
      done =
          sym (ap (λ n. c.args.held.now.items ++ reverse (filter_map (held_at rows c.args.side c.args.index) (drop n rows.edges.entries))) c.last-number.ensures
          ∙ ap (λ xs. c.args.held.now.items ++ reverse xs) (picked-start rows c.requires c.args.side c.args.index) ∙ Rattle.std.proofs.lemmas.List.append-nil c.args.held.now.items);
    }

pub next-number-requires : goal.next-number-requires
next-number-requires c =
    let here : c.loop-number.number ≡ suc (c.loop-number.number - 1) = omega arith in
    along-within c.args.self.now c.requires c.args.side c.args.index c.loop-number.number (c.loop-number.number - 1) here c.loop-number.invariant.along

pub loop-number-smaller : goal.loop-number-smaller
loop-number-smaller c =
    let rows = c.args.self.now in
    let i = c.loop-number.number - 1 in
    let here : c.loop-number.number ≡ suc (c.loop-number.number - 1) = omega arith in
    let along = c.loop-number.invariant.along in
    let e = entry-at rows.edges.entries i (along-within rows c.requires c.args.side c.args.index c.loop-number.number i here along) in
    omega (arith, here, c.next-number.ensures e.0 e.1, next-le rows c.requires c.args.side c.args.index c.loop-number.number i here along e.0 e.1)

pub loop-number-preserved : goal.loop-number-preserved
loop-number-preserved c =
    let rows = c.args.self.now in
    let i = c.loop-number.number - 1 in
    let here : c.loop-number.number ≡ suc (c.loop-number.number - 1) = omega arith in
    let along = c.loop-number.invariant.along in
    let e = entry-at rows.edges.entries i (along-within rows c.requires c.args.side c.args.index c.loop-number.number i here along) in
    let next = c.next-number.ensures e.0 e.1 in
    record {
      along = subst (IsAlong rows c.args.side c.args.index) (sym next) (along-next rows c.requires c.args.side c.args.index c.loop-number.number i here along e.0 e.1);
      done =
          c.in_ok-add_held.ensures e.0 e.1
          ∙ reverse-cons c.args.held.now.items c.loop-number.held.items (held_by (slot_named (keys_of rows.sources.entries) (keys_of rows.ids.entries) e.0))
          (filter_map (held_at rows c.args.side c.args.index) (drop c.loop-number.number rows.edges.entries))
          (filter_map (held_at rows c.args.side c.args.index) (drop c.next-number.result rows.edges.entries))
          c.loop-number.invariant.done
          (ap (λ n. filter_map (held_at rows c.args.side c.args.index) (drop n rows.edges.entries)) next
          ∙ picked-next rows c.requires c.args.side c.args.index c.loop-number.number i here along e.0 e.1);
    }
