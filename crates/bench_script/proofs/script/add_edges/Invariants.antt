-- the edges of the people so far stand there
use Rattle.std.proofs.Common.{◌≡◌, ◌++◌, ◌*◌}
use Rattle.bench_script.specs.BenchScript.{after_draws, edges}
use Rattle.bench_script.proofs.script.add_edges.Given as goal

abbrev pub invariant-loop-i : goal.invariant-loop-i
invariant-loop-i l = record {
  text : l.text ≡ l.fn.text ++ edges l.people l.fn.draws.last l.i;
  draws : l.draws.last ≡ after_draws (6 * l.i) l.fn.draws.last;
}
