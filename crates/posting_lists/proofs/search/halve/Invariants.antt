use Rattle.std.proofs.Common.{◌≤◌, ◌+◌, ◌-◌}
use Rattle.posting_lists.specs.Search.{AllBefore, NoneBefore, digits}
use Rattle.posting_lists.proofs.search.halve.Given as goal

abbrev pub invariant-loop-at : goal.invariant-loop-at
invariant-loop-at g l = record {
  above : l.low ≤ l.at;
  within : l.at ≤ l.end;
  below : l.end ≤ l.high;
  passed : AllBefore l.from l.keys l.low l.at;
  left : NoneBefore l.from l.keys l.end l.high;
  counted : l.steps + digits (l.end - l.at) ≤ l.initial.steps + digits (l.high - l.low);
}

abbrev pub decreases-loop-at : goal.decreases-loop-at
decreases-loop-at g l = l.end - l.at
