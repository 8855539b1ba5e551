use Rattle.std.proofs.Common.{◌≡◌, length, take}
use Rattle.forward_data.specs.Records.{record_of}
use Rattle.forward_data.proofs.stack.ForwardStack.front_lookup.Given as goal

abbrev pub invariant-loop-i : goal.invariant-loop-i
invariant-loop-i l = record {
  newest : l.newest ≡ record_of l.key (take l.i l.self.0);
  hints : length l.hints ≡ length l.initial.hints;
}
