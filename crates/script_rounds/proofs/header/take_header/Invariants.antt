-- some lines of the header were taken, and not all
use Rattle.std.proofs.Common.{◌≡◌, ◌+◌, ◌-◌, ◌≤◌, length}
use Rattle.script_rounds.specs.Reading.{at}
use Rattle.script_rounds.specs.RoundReads.{Keeps}
use Rattle.script_rounds.proofs.HeaderSteps.{HeaderSoFar}
use Rattle.script_rounds.proofs.header.take_header.Given as goal

abbrev pub invariant-loop-len : goal.invariant-loop-len
invariant-loop-len g l = record {
  so_far : HeaderSoFar l.limits (at l.fn.reader (g.S.Source.left l.fn.source)) (at l.reader (g.S.Source.left l.source)) l.header;
  number : l.reader.lines ≡ l.header.taken;
  in_limit : l.reader.taken ≤ l.reader.limit;
  keeps : Keeps l.limits l.reader;
  quiet : g.S.Source.faults l.source ≡ g.S.Source.faults l.fn.source;
}

-- the bytes that may still come, and those ahead
abbrev pub decreases-loop-len : goal.decreases-loop-len
decreases-loop-len g l = l.reader.limit + 1 + length l.reader.ahead - l.reader.taken
