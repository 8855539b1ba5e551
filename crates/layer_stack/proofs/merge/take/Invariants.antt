use Rattle.std.proofs.Common.{◌≡◌, ◌++◌, map, take, drop}
use Rattle.std.specs.FinMap as finite
use Rattle.uni_base.specs.Cursors.{is_before}
use Rattle.layer_stack.specs.Stacks.{StandAt, part_table, part_where}
use Rattle.layer_stack.proofs.merge.take.Given as goal

abbrev pub invariant-loop-part : goal.invariant-loop-part
invariant-loop-part l = record {
  passed : l.parts ≡ map (part_where (is_before l.key)) (take l.part-index l.initial.parts) ++ drop l.part-index l.initial.parts;
  answer : l.answer ≡ finite.get (part_table (take l.part-index l.initial.parts)) l.key;
  stand : StandAt l.least (take l.part-index l.parts);
}
