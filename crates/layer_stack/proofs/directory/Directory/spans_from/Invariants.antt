use Rattle.std.proofs.Common.{◌-◌, length, take}
use Rattle.layer_stack.specs.Readers.{AreBefore}
use Rattle.layer_stack.proofs.directory.Directory.spans_from.Given as goal

abbrev pub invariant-loop-at : goal.invariant-loop-at
invariant-loop-at l = AreBefore l.term (take l.at l.self)

abbrev pub decreases-loop-at : goal.decreases-loop-at
decreases-loop-at l = length l.self-inside.spans.entries - l.at
