-- the asks so far stand there
use Rattle.std.proofs.Common.{◌≡◌, ◌++◌, ◌-◌}
use Rattle.std.specs.List.{flat_map}
use Rattle.bench_script.specs.BenchScript.{ask_line, one_to}
use Rattle.bench_script.proofs.script.add_asks.Given as goal

abbrev pub invariant-loop-k : goal.invariant-loop-k
invariant-loop-k l = l.text ≡ l.fn.text ++ flat_map (λ n. ask_line l.people (n - 1)) (one_to l.k)
