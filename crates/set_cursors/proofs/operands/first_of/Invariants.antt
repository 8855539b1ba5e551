use Rattle.std.proofs.Common.{◌≡◌, map, take, slice_get}
use Rattle.uni_base.specs.KeySets.{united}
use Rattle.set_cursors.proofs.operands.first_of.Given as goal

abbrev pub invariant-loop-operand : goal.invariant-loop-operand
invariant-loop-operand g l = l.first ≡ slice_get (united (map g.C.DocCursor.remaining (take l.operand-index l.operands))) 0
