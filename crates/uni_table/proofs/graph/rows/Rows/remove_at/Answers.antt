use Rattle.std.proofs.Common.{◌≡◌, ◌-◌, ◌∙◌, suc, sym, ap, refl, subst, arith}
use Rattle.std.specs.Map.{keys_of}
use Rattle.chained_rows.specs.Chains.{changed_from}
use Rattle.chained_rows.proofs.Places.{keys-written}
use Rattle.uni_table.specs.GraphRows.{gone_at, gone}
use Rattle.uni_table.proofs.GraphPlaces.{entry-at}
use Rattle.uni_table.proofs.GraphWalks.{IsAlong, along-start, along-within, along-next, next-le, along-moved, gone-start, gone-next, gone-all}
use Rattle.uni_table.proofs.graph.rows.Rows.remove_at.Goals as goal

pub loop-number-init : goal.loop-number-init
loop-number-init c =
    let rows = c.args.self.now in
    record {
      kept = c.requires;
      published = refl;
      along = subst (IsAlong rows c.args.side c.args.index) (sym c.last-number.ensures) (along-start rows c.requires c.args.side c.args.index);
      ids = refl;
      sources = refl;
      done = gone-start rows c.requires c.args.side c.args.index ∙ ap (λ n. changed_from (gone_at c.args.side c.args.index) n rows.edges.entries) (sym c.last-number.ensures);
    }

pub next-number-requires : goal.next-number-requires
next-number-requires c =
    let here : c.loop-number.number ≡ suc (c.loop-number.number - 1) = omega arith in
    along-within c.loop-number.self c.loop-number.invariant.kept c.args.side c.args.index c.loop-number.number (c.loop-number.number - 1) here c.loop-number.invariant.along

pub clear_slot-requires-clause-index : goal.clear_slot-requires-clause-index
clear_slot-requires-clause-index c =
    let here : c.loop-number.number ≡ suc (c.loop-number.number - 1) = omega arith in
    along-within c.loop-number.self c.loop-number.invariant.kept c.args.side c.args.index c.loop-number.number (c.loop-number.number - 1) here c.loop-number.invariant.along

pub loop-number-smaller : goal.loop-number-smaller
loop-number-smaller c =
    let now = c.loop-number.self in
    let kept = c.loop-number.invariant.kept in
    let i = c.loop-number.number - 1 in
    let here : c.loop-number.number ≡ suc (c.loop-number.number - 1) = omega arith in
    let along = c.loop-number.invariant.along in
    let e = entry-at now.edges.entries i (along-within now kept c.args.side c.args.index c.loop-number.number i here along) in
    omega (arith, here, c.next-number.ensures e.0 e.1, next-le now kept c.args.side c.args.index c.loop-number.number i here along e.0 e.1)

pub loop-number-preserved : goal.loop-number-preserved
loop-number-preserved c =
    let rows = c.args.self.now in
    let now = c.loop-number.self in
    let kept = c.loop-number.invariant.kept in
    let i = c.loop-number.number - 1 in
    let here : c.loop-number.number ≡ suc (c.loop-number.number - 1) = omega arith in
    let along = c.loop-number.invariant.along in
    let e = entry-at now.edges.entries i (along-within now kept c.args.side c.args.index c.loop-number.number i here along) in
    let next = c.next-number.ensures e.0 e.1 in
    let written = c.clear_slot.ensures.edges e.0.0 e.0.1 e.1 in
    record {
      kept = c.clear_slot.ensures.kept;
      published = c.clear_slot.ensures.published ∙ c.loop-number.invariant.published;
      along =
          along-moved now c.clear_slot.new.self c.args.side c.args.index c.next-number.result (ap keys_of written ∙ keys-written now.edges.entries i (gone e.0).1)
          (subst (IsAlong now c.args.side c.args.index) (sym next) (along-next now kept c.args.side c.args.index c.loop-number.number i here along e.0 e.1));
      ids = c.clear_slot.ensures.ids ∙ c.loop-number.invariant.ids;
      sources = c.clear_slot.ensures.sources ∙ c.loop-number.invariant.sources;
      done =
          written ∙ gone-next rows now kept c.args.side c.args.index c.loop-number.number i here along c.loop-number.invariant.done e.0 e.1
          ∙ ap (λ n. changed_from (gone_at c.args.side c.args.index) n rows.edges.entries) (sym next);
    }

pub returns-clause-edges : goal.returns-clause-edges
returns-clause-edges c =
    let none : c.loop-number.number ≡ 0 = omega arith in
    c.loop-number.invariant.done ∙ ap (λ n. changed_from (gone_at c.args.side c.args.index) n c.args.self.now.edges.entries) none
    ∙ gone-all c.args.side c.args.index c.args.self.now.edges.entries

pub returns-clause-published : goal.returns-clause-published
returns-clause-published c = c.loop-number.invariant.published
