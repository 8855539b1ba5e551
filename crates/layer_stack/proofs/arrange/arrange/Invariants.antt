use Rattle.layer_stack.proofs.Grouped.{IsGrouped}
use Rattle.layer_stack.proofs.arrange.arrange.Given as goal

abbrev pub invariant-loop-i : goal.invariant-loop-i
invariant-loop-i l = IsGrouped l.runs.items l.keys l.from l.i l.arrangement.spans.items l.arrangement.rows.items
