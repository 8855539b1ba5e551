use Rattle.std.proofs.Common.{rules, ◌≡◌, ◌*◌, ◌+◌, ◌-◌, ◌%◌, ◌++◌, ◌∷◌, [], ℕ, List, length, refl, sym, ap, ◌∙◌, arith, codes}
use Rattle.bench_script.specs.BenchScript.{after_draws, edges, edges_of}
use Rattle.bench_script.proofs.Drawing.{draws_six, edges_more}
use Rattle.bench_script.proofs.Joined.{joined}
use Rattle.bench_script.proofs.script.add_edges.Goals as goal

pub loop-i-preserved : goal.loop-i-preserved
loop-i-preserved c =
    let people = c.args.people in let x = c.args.draws.now.last in let i = c.loop-i.i in let told = c.args.text.now in
    record {
      text = joined told (edges people x i) (edges_of people (i + 1) c.loop-i.draws.last) c.loop-i.text c.add_edges_of.new.text c.loop-i.invariant.text c.in_ok-add_edges_of.ensures.text
          ∙ ap (λ y. told ++ (edges people x i ++ edges_of people (i + 1) y)) c.loop-i.invariant.draws
          ∙ ap (λ t. told ++ t) (sym (edges_more people x i));
      draws = c.in_ok-add_edges_of.ensures.draws ∙ ap (after_draws 6) c.loop-i.invariant.draws ∙ sym (draws_six i x);
    }
