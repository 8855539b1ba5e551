use Rattle.std.proofs.Common.{◌≡◌, length, take}
use Rattle.layer_stack.specs.Marks.{AreMarked}
use Rattle.layer_stack.proofs.marks.Marks.of.Given as goal

abbrev pub invariant-loop-at : goal.invariant-loop-at
invariant-loop-at l = (length l.marks.items ≡ 1021) × AreMarked l.marks.items (take l.at l.spans.entries)
