-- the later rounds so far stand there
use Rattle.std.proofs.Common.{◌≡◌, ◌++◌}
use Rattle.bench_script.specs.BenchScript.{after_rounds, later_rounds}
use Rattle.bench_script.proofs.script.add_later_rounds.Given as goal

abbrev pub invariant-loop-i : goal.invariant-loop-i
invariant-loop-i l = record {
  text : l.text ≡ l.fn.text ++ later_rounds l.people l.fn.draws.last l.i;
  draws : l.draws.last ≡ after_rounds l.people l.fn.draws.last l.i;
}
