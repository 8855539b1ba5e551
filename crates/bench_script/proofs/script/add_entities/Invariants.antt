-- the people so far stand there
use Rattle.std.proofs.Common.{◌≡◌, ◌++◌}
use Rattle.bench_script.specs.BenchScript.{after_draws, entities}
use Rattle.bench_script.proofs.script.add_entities.Given as goal

abbrev pub invariant-loop-i : goal.invariant-loop-i
invariant-loop-i l = record {
  text : l.text ≡ l.fn.text ++ entities l.fn.draws.last l.i;
  draws : l.draws.last ≡ after_draws l.i l.fn.draws.last;
}
