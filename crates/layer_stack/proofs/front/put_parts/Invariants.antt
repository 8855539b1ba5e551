use Rattle.std.proofs.Common.{◌≡◌, length}
use Rattle.layer_stack.specs.Postings.{putting_list}
use Rattle.layer_stack.specs.Stacks.{StandAt, remaining_of}
use Rattle.layer_stack.proofs.front.put_parts.Given as goal

abbrev pub invariant-loop-posting : goal.invariant-loop-posting
invariant-loop-posting l = record {
  put : putting_list l.term (remaining_of l.parts) l.delta ≡ putting_list l.term (remaining_of l.initial.parts) l.initial.delta;
  stand : StandAt l.head l.parts;
}

abbrev pub decreases-loop-posting : goal.decreases-loop-posting
decreases-loop-posting l = length (remaining_of l.parts)
