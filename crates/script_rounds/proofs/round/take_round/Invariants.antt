-- some lines of the round were taken
use Rattle.std.proofs.Common.{◌≡◌, ◌+◌, ◌-◌, ◌≤◌, length}
use Rattle.feed_reader.specs.Names.{AreOf}
use Rattle.script_rounds.specs.Reading.{at}
use Rattle.script_rounds.specs.RoundReads.{Keeps, SoFar}
use Rattle.script_rounds.proofs.round.take_round.Given as goal

abbrev pub invariant-loop-items : goal.invariant-loop-items
invariant-loop-items g l = record {
  so_far : SoFar l.terms (at l.fn.reader (g.S.Source.left l.fn.source)) (at l.reader (g.S.Source.left l.source)) l.items;
  names : AreOf l.terms.schema l.names;
  in_limit : l.reader.taken ≤ l.reader.limit;
  keeps : Keeps l.terms.limits l.reader;
  first : l.first ≡ l.fn.reader.lines;
  quiet : g.S.Source.faults l.source ≡ g.S.Source.faults l.fn.source;
}

-- the bytes that may still come, and those ahead
abbrev pub decreases-loop-items : goal.decreases-loop-items
decreases-loop-items g l = l.reader.limit + 1 + length l.reader.ahead - l.reader.taken
