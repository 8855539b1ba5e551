-- only reads so far, and each takes the reader on
use Rattle.std.proofs.Common.{◌≡◌, ◌+◌, ◌-◌, ◌≤◌, [], if◌then◌else◌}
use Rattle.script_rounds.specs.Reading.{at, Went}
use Rattle.script_rounds.proofs.lines.LineReader.fill.Given as goal

abbrev pub invariant-loop-len : goal.invariant-loop-len
invariant-loop-len g l = record {
  went : Went (at l.fn.self (g.S.Source.left l.fn.source)) (at l.self (g.S.Source.left l.source)) [];
  in_limit : l.self.taken ≤ l.self.limit;
  quiet : g.S.Source.faults l.source ≡ g.S.Source.faults l.fn.source;
}

-- the bytes that may still come, and the end
abbrev pub decreases-loop-len : goal.decreases-loop-len
decreases-loop-len g l = (l.self.limit - l.self.taken) + (if l.self.ended then 0 else 1)
