use Rattle.std.proofs.Common.{◌≡◌, drop, length, take}
use Rattle.uni_meaning.specs.Standings.{row_at}
use Rattle.uni_meaning.specs.Walking.{counted_from}
use Rattle.uni_meaning.proofs.pace.count.Given as goal

abbrev pub invariant-loop-j : goal.invariant-loop-j
invariant-loop-j l = record {
  count : length l.counters.items ≡ length l.fn.counters.items;
  done : take l.j l.counters.items ≡ counted_from 0 (row_at l.columns l.i) (take l.j l.fn.counters.items);
  left : drop l.j l.counters.items ≡ drop l.j l.fn.counters.items;
}
