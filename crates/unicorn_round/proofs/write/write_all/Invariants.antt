-- the sink has the text up to a place
use Rattle.std.proofs.Common.{◌≡◌, ◌≤◌, ◌-◌, take, length}
use Rattle.unicorn_round.specs.Writing.{Took}
use Rattle.unicorn_round.proofs.write.write_all.Given as goal

abbrev pub invariant-loop-count : goal.invariant-loop-count
invariant-loop-count g l = record {
  within : l.count ≤ length l.text;
  took : Took (g.K.Sink.taken l.fn.sink) (take l.count l.text) (g.K.Sink.taken l.sink);
  quiet : g.K.Sink.faults l.sink ≡ g.K.Sink.faults l.fn.sink;
}

abbrev pub decreases-loop-count : goal.decreases-loop-count
decreases-loop-count g l = length l.text - l.count
