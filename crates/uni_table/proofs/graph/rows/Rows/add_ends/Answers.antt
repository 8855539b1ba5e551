use Rattle.std.proofs.Common.{◌≡◌, ◌-◌, ◌++◌, ◌∙◌, ◌∷◌, [], Some, suc, sym, ap, subst, drop, reverse, arith}
use Rattle.std.specs.List.{filter_map, cons_option}
use Rattle.uni_table.specs.GraphSources.{end_at, far_end}
use Rattle.uni_table.specs.declared.graph.numbers.Side.TheVariants.{Source as From}
use Rattle.uni_table.specs.declared.graph.sources.FarEnd.{FarEnd}
use Rattle.uni_table.proofs.GraphPlaces.{entry-at}
use Rattle.uni_table.proofs.GraphSources.{end-here, end-none}
use Rattle.uni_table.proofs.GraphWalks.{IsAlong, along-start, picks-start, along-within, along-passes, along-next, next-le, picks-next, reverse-cons}
use Rattle.uni_table.proofs.graph.rows.Rows.add_ends.Goals as goal

pub loop-number-init : goal.loop-number-init
loop-number-init c =
    let rows = c.args.self.now in
    let q = c.args.index in
    record {
      along = subst (IsAlong rows From q) (sym c.last-number.ensures) (along-start rows c.requires.kept From q);
      done =
          sym (ap (λ n. c.args.ends.now.items ++ reverse (filter_map (end_at q) (drop n rows.edges.entries))) c.last-number.ensures
          ∙ ap (λ xs. c.args.ends.now.items ++ reverse xs) (picks-start rows c.requires.kept From q (end_at q) (end-none q)) ∙ Rattle.std.proofs.lemmas.List.append-nil c.args.ends.now.items);
    }

pub far_end_by-next-requires : goal.far_end_by-next-requires
far_end_by-next-requires c =
    let here : c.loop-number.number ≡ suc (c.loop-number.number - 1) = omega arith in
    record {
      some = omega (arith, here);
      within = along-within c.args.self.now c.requires.kept From c.args.index c.loop-number.number (c.loop-number.number - 1) here c.loop-number.invariant.along;
      copies = c.requires.copies;
    }

pub loop-number-smaller : goal.loop-number-smaller
loop-number-smaller c =
    let rows = c.args.self.now in
    let i = c.loop-number.number - 1 in
    let here : c.loop-number.number ≡ suc (c.loop-number.number - 1) = omega arith in
    let along = c.loop-number.invariant.along in
    let e = entry-at rows.edges.entries i (along-within rows c.requires.kept From c.args.index c.loop-number.number i here along) in
    omega (arith, here, (c.far_end_by-next.ensures e.0 e.1).1, next-le rows c.requires.kept From c.args.index c.loop-number.number i here along e.0 e.1)

pub loop-number-preserved : goal.loop-number-preserved
loop-number-preserved c =
    let rows = c.args.self.now in
    let q = c.args.index in
    let i = c.loop-number.number - 1 in
    let here : c.loop-number.number ≡ suc (c.loop-number.number - 1) = omega arith in
    let along = c.loop-number.invariant.along in
    let e = entry-at rows.edges.entries i (along-within rows c.requires.kept From q c.loop-number.number i here along) in
    let read = c.far_end_by-next.ensures e.0 e.1 in
    let picked = picks-next rows c.requires.kept From q c.loop-number.number i here along e.0 e.1 (end_at q) (end-none q) in
    let passes = along-passes rows c.requires.kept From q c.loop-number.number i here along e.0 e.1 in
    record {
      along = subst (IsAlong rows From q) (sym read.1) (along-next rows c.requires.kept From q c.loop-number.number i here along e.0 e.1);
      done =
          c.in_ok-push.ensures.items ∙ ap (λ (x : FarEnd). c.loop-number.ends.items ++ x ∷ []) read.0
          ∙ reverse-cons c.args.ends.now.items c.loop-number.ends.items (Some (far_end e.0)) (filter_map (end_at q) (drop c.loop-number.number rows.edges.entries)) (filter_map (end_at q) (drop c.far_end_by-next.result.1 rows.edges.entries))
          c.loop-number.invariant.done
          (ap (λ n. filter_map (end_at q) (drop n rows.edges.entries)) read.1 ∙ picked ∙ ap (λ o. cons_option o (filter_map (end_at q) (drop c.loop-number.number rows.edges.entries))) (end-here q e.0 passes));
    }
