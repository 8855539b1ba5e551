use Rattle.std.proofs.Common.{◌≡◌, take}
use Rattle.std.specs.FinMap as finite
use Rattle.uni_base.specs.declared.entity.DocKey.{DocKey}
use Rattle.layer_base.specs.Layers.{stack_table}
use Rattle.layer_stack.specs.Postings.{place_of}
use Rattle.layer_stack.specs.Stacks.{part_table}
use Rattle.layer_stack.proofs.stack.Stack.cursor.Given as goal

abbrev pub invariant-loop-i : goal.invariant-loop-i
invariant-loop-i l = (k : DocKey) → finite.get (part_table l.parts) k ≡ finite.get (stack_table (take l.i l.self.0)) (place_of l.term k)
