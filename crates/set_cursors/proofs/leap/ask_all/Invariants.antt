use Rattle.std.proofs.Common.{◌≡◌, ◌+◌, ◌≤◌, map}
use Rattle.set_cursors.proofs.Asked.{Asking}
use Rattle.set_cursors.proofs.leap.ask_all.Given as goal

abbrev pub invariant-loop-i : goal.invariant-loop-i
invariant-loop-i g l = record {
  asking : Asking l.key l.latest (map g.C.DocCursor.remaining l.initial.operands.items) (map g.C.DocCursor.remaining l.operands.items) l.i;
  few : l.moves ≤ l.initial.moves + l.i;
  rises : l.initial.moves ≤ l.moves;
  unmoved : l.moves ≤ l.initial.moves → map g.C.DocCursor.remaining l.operands.items ≡ map g.C.DocCursor.remaining l.initial.operands.items;
}
