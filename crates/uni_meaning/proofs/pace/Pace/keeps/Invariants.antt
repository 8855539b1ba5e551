use Rattle.std.proofs.Common.{◌≡◌, drop}
use Rattle.uni_meaning.specs.Standings.{row_at}
use Rattle.uni_meaning.specs.Walking.{all_allow, walkers_from}
use Rattle.uni_meaning.proofs.pace.Pace.keeps.Given as goal

abbrev pub invariant-loop-j : goal.invariant-loop-j
invariant-loop-j l =
    all_allow l.kind l.self.kept (walkers_from 0 l.self.counters.items) (row_at l.columns l.i)
    ≡ all_allow l.kind l.self.kept (walkers_from l.j (drop l.j l.self.counters.items)) (row_at l.columns l.i)
