-- some first rounds were read and answered
use Rattle.std.proofs.Common.{◌≡◌, ◌-◌, None}
use Rattle.unicorn_round.specs.Reads.{GoesOn, Ongoing}
use Rattle.unicorn_round.proofs.script.answer_rounds.Given as goal

abbrev pub invariant-loop-round : goal.invariant-loop-round
invariant-loop-round g l = record {
  ongoing : Ongoing l.fn.limits (g.A.Answering.terms l.answering) (g.A.Answering.stands l.answering) l.rounds (g.S.Source.left l.fn.source) (g.S.Source.left l.source)
      (g.K.Sink.taken l.fn.sink) (g.K.Sink.taken l.sink);
  goes : GoesOn (g.A.Answering.ready l.answering) l.rounds.reader.lines;
  ready : l.rounds.refusal ≡ None;
  reads : g.S.Source.faults l.source ≡ g.S.Source.faults l.fn.source;
  writes : g.K.Sink.faults l.sink ≡ g.K.Sink.faults l.fn.sink;
}

abbrev pub decreases-loop-round : goal.decreases-loop-round
decreases-loop-round g l = l.fn.limits.script - l.rounds.reader.lines
