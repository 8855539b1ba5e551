use Rattle.std.proofs.Common.{rules, ◌≡◌, ◌*◌, ◌+◌, ◌-◌, ◌%◌, ◌++◌, ◌∷◌, [], ℕ, List, length, refl, sym, ap, ◌∙◌, arith, codes}
use Rattle.bench_script.specs.BenchScript.{after_draws, after_rounds, asks, ids_ending, later_rounds, updates}
use Rattle.bench_script.proofs.Drawing.{after_more, later_more}
use Rattle.bench_script.proofs.Joined.{joined}
use Rattle.bench_script.proofs.script.add_later_rounds.Goals as goal

pub loop-i-preserved : goal.loop-i-preserved
loop-i-preserved c =
    let people = c.args.people in let x = c.args.draws.now.last in let i = c.loop-i.i in let told = c.args.text.now in
    let ids = ids_ending (i + 1) people in
    record {
      text = joined told (later_rounds people x i) (updates c.loop-i.draws.last ids ++ (codes "publish\ngo\n" ++ asks people)) c.loop-i.text c.add_asks.new.text c.loop-i.invariant.text
          (joined c.loop-i.text (updates c.loop-i.draws.last ids) (codes "publish\ngo\n" ++ asks people) c.add_updates.new.text c.add_asks.new.text c.in_ok-add_updates.ensures.text
          (joined c.add_updates.new.text (codes "publish\ngo\n") (asks people) c.extend_from_slice.new.self c.add_asks.new.text c.in_ok-extend_from_slice.ensures.ok c.in_ok-add_asks.ensures))
          ∙ ap (λ y. told ++ (later_rounds people x i ++ (updates y ids ++ (codes "publish\ngo\n" ++ asks people)))) c.loop-i.invariant.draws
          ∙ ap (λ t. told ++ t) (sym (later_more people x i));
      draws = c.in_ok-add_updates.ensures.draws ∙ ap (after_draws (length ids)) c.loop-i.invariant.draws ∙ sym (after_more people x i);
    }
