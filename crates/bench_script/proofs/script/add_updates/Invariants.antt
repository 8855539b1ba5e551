-- the changes of the people so far stand there
use Rattle.std.proofs.Common.{◌≡◌, ◌++◌, length}
use Rattle.bench_script.specs.BenchScript.{after_draws, ids_ending, updates}
use Rattle.bench_script.proofs.script.add_updates.Given as goal

abbrev pub invariant-loop-i : goal.invariant-loop-i
invariant-loop-i l = record {
  text : l.text ≡ l.fn.text ++ updates l.fn.draws.last (ids_ending l.round l.i);
  draws : l.draws.last ≡ after_draws (length (ids_ending l.round l.i)) l.fn.draws.last;
}
