use Rattle.std.proofs.Common.{rules, ◌≡◌, ◌*◌, ◌+◌, ◌-◌, ◌%◌, ◌++◌, ◌∷◌, [], ℕ, List, length, refl, sym, ap, ◌∙◌, arith, codes}
use Rattle.bench_script.specs.BenchScript.{after_draws, ids_ending, ids_here, updates}
use Rattle.bench_script.proofs.Drawing.{draws_of_both, ids_more, updates_more}
use Rattle.bench_script.proofs.Joined.{joined}
use Rattle.bench_script.proofs.script.add_updates.Goals as goal

pub loop-i-preserved : goal.loop-i-preserved
loop-i-preserved c =
    let x = c.args.draws.now.last in let i = c.loop-i.i in let told = c.args.text.now in
    let ids = ids_ending c.args.round i in let here = ids_here c.args.round (i + 1) in
    record {
      text = joined told (updates x ids) (updates c.loop-i.draws.last here) c.loop-i.text c.add_update.new.text c.loop-i.invariant.text c.in_ok-add_update.ensures.text
          ∙ ap (λ y. told ++ (updates x ids ++ updates y here)) c.loop-i.invariant.draws
          ∙ ap (λ t. told ++ t) (sym (updates_more x ids here))
          ∙ ap (λ all. told ++ updates x all) (sym (ids_more c.args.round i));
      draws = c.in_ok-add_update.ensures.draws ∙ ap (after_draws (length here)) c.loop-i.invariant.draws ∙ sym (draws_of_both x ids here)
          ∙ ap (λ all. after_draws (length all) x) (sym (ids_more c.args.round i));
    }
