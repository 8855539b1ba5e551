use Rattle.std.proofs.Common.{◌≡◌}
use Rattle.layer_stack.specs.Stacks.{StandAt, remaining_of}
use Rattle.layer_stack.proofs.Merged.{total_of}
use Rattle.layer_stack.proofs.merge.next.Given as goal

abbrev pub invariant-loop-head : goal.invariant-loop-head
invariant-loop-head l = record {
  same : remaining_of l.parts ≡ remaining_of l.initial.parts;
  stand : StandAt l.head l.parts;
}

abbrev pub decreases-loop-head : goal.decreases-loop-head
decreases-loop-head l = total_of l.parts
