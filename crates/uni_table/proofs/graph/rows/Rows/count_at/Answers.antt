use Rattle.std.proofs.Common.{◌≡◌, ◌+◌, ◌-◌, ◌∙◌, suc, sym, ap, subst, drop, length, is_some, arith}
use Rattle.std.specs.List.{filter_map}
use Rattle.std.specs.Map.{keys_of}
use Rattle.chained_rows.specs.Counts.{one_if}
use Rattle.uni_table.specs.GraphRows.{held_at, held_by, slot_named}
use Rattle.uni_table.proofs.GraphPlaces.{entry-at}
use Rattle.uni_table.proofs.GraphWalks.{IsAlong, along-start, picked-start, along-within, along-next, next-le, picked-next, length-cons, held-live, picked-few, one_if-le}
use Rattle.uni_table.proofs.graph.rows.Rows.count_at.Goals as goal

pub loop-number-init : goal.loop-number-init
loop-number-init c =
    let rows = c.args.self.now in
    record {
      along = subst (IsAlong rows c.args.side c.args.index) (sym c.last-number.ensures) (along-start rows c.requires c.args.side c.args.index);
      done =
          sym (ap (λ n. length (filter_map (held_at rows c.args.side c.args.index) (drop n rows.edges.entries))) c.last-number.ensures
          ∙ ap length (picked-start rows c.requires c.args.side c.args.index));
    }

pub is_live-requires : goal.is_live-requires
is_live-requires c =
    let here : c.loop-number.number ≡ suc (c.loop-number.number - 1) = omega arith in
    along-within c.args.self.now c.requires c.args.side c.args.index c.loop-number.number (c.loop-number.number - 1) here c.loop-number.invariant.along

pub next-number-requires : goal.next-number-requires
next-number-requires c =
    let here : c.loop-number.number ≡ suc (c.loop-number.number - 1) = omega arith in
    along-within c.args.self.now c.requires c.args.side c.args.index c.loop-number.number (c.loop-number.number - 1) here c.loop-number.invariant.along

pub overflow_add-count : goal.overflow_add-count
overflow_add-count c = omega (arith, c.loop-number.invariant.done, c.as_count-count.ensures, one_if-le c.is_live.result, picked-few c.args.self.now c.requires c.args.side c.args.index c.loop-number.number)

pub loop-number-smaller : goal.loop-number-smaller
loop-number-smaller c =
    let rows = c.args.self.now in
    let i = c.loop-number.number - 1 in
    let here : c.loop-number.number ≡ suc (c.loop-number.number - 1) = omega arith in
    let along = c.loop-number.invariant.along in
    let e = entry-at rows.edges.entries i (along-within rows c.requires c.args.side c.args.index c.loop-number.number i here along) in
    omega (arith, here, c.next-number.ensures e.0 e.1, next-le rows c.requires c.args.side c.args.index c.loop-number.number i here along e.0 e.1)

pub loop-number-preserved : goal.loop-number-preserved
loop-number-preserved c =
    let rows = c.args.self.now in
    let i = c.loop-number.number - 1 in
    let here : c.loop-number.number ≡ suc (c.loop-number.number - 1) = omega arith in
    let along = c.loop-number.invariant.along in
    let e = entry-at rows.edges.entries i (along-within rows c.requires c.args.side c.args.index c.loop-number.number i here along) in
    let next = c.next-number.ensures e.0 e.1 in
    let held = held_by (slot_named (keys_of rows.sources.entries) (keys_of rows.ids.entries) e.0) in
    let live : c.is_live.result ≡ is_some held = c.is_live.ensures e.0 e.1 ∙ sym (held-live (keys_of rows.sources.entries) (keys_of rows.ids.entries) e.0) in
    record {
      along = subst (IsAlong rows c.args.side c.args.index) (sym next) (along-next rows c.requires c.args.side c.args.index c.loop-number.number i here along e.0 e.1);
      done =
          ap (λ m. c.loop-number.count + m) (c.as_count-count.ensures ∙ ap one_if live)
          ∙ length-cons held
          (filter_map (held_at rows c.args.side c.args.index) (drop c.loop-number.number rows.edges.entries))
          (filter_map (held_at rows c.args.side c.args.index) (drop c.next-number.result rows.edges.entries))
          c.loop-number.count c.loop-number.invariant.done
          (ap (λ n. filter_map (held_at rows c.args.side c.args.index) (drop n rows.edges.entries)) next
          ∙ picked-next rows c.requires c.args.side c.args.index c.loop-number.number i here along e.0 e.1);
    }
