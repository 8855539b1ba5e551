use Rattle.std.proofs.Common.{◌≡◌, Some, map, take}
use Rattle.uni_meaning.proofs.pace.Pace.enter.Given as goal

abbrev pub invariant-loop-column : goal.invariant-loop-column
invariant-loop-column l = record {
  here : l.self.here ≡ Some l.shard;
  kept : l.self.kept ≡ 0;
  counters : l.self.counters.items ≡ map (λ c. record { mark = c.mark; own = 0 }) (take l.column-index l.columns);
}
