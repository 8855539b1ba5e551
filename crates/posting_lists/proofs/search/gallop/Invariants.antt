use Rattle.std.proofs.Common.{◌≡◌, ◌≤◌, ◌<◌, ◌+◌, ◌-◌}
use Rattle.posting_lists.specs.Search.{AllBefore, digits}
use Rattle.posting_lists.proofs.search.gallop.Given as goal

abbrev pub invariant-loop-stride : goal.invariant-loop-stride
invariant-loop-stride g l = record {
  above : l.low ≤ l.at;
  below : l.at < l.high;
  stride : l.stride + l.low ≡ l.at + 1;
  passed : AllBefore l.from l.keys l.low (l.at + 1);
  counted : l.steps + 1 ≤ l.initial.steps + digits l.stride;
}

abbrev pub decreases-loop-stride : goal.decreases-loop-stride
decreases-loop-stride g l = l.high - l.at
