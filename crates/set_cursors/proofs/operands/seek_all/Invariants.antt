use Rattle.std.proofs.Common.{◌≡◌, ◌++◌, map, take, drop}
use Rattle.uni_base.specs.Cursors.{keys_from}
use Rattle.set_cursors.proofs.operands.seek_all.Given as goal

abbrev pub invariant-loop-i : goal.invariant-loop-i
invariant-loop-i g l =
    let olds = map g.C.DocCursor.remaining l.initial.operands.items in
    map g.C.DocCursor.remaining l.operands.items ≡ map (keys_from l.from) (take l.i olds) ++ drop l.i olds
