use Rattle.std.proofs.Common.{◌≡◌, ℕ, false, [], ◌++◌, get_or, map, take, drop, slice_get}
use Rattle.uni_base.specs.KeySets.{without}
use Rattle.set_cursors.specs.Firsts.{is_first}
use Rattle.set_cursors.proofs.operands.pass_all.Given as goal

abbrev pub invariant-loop-i : goal.invariant-loop-i
invariant-loop-i g l =
    let olds = map g.C.DocCursor.remaining l.initial.operands.items in
    record {
      moved : map g.C.DocCursor.remaining l.operands.items ≡ map (without l.key) (take l.i olds) ++ drop l.i olds;
      stays : (j : ℕ) → is_first l.key (get_or olds j []) ≡ false → slice_get l.operands.items j ≡ slice_get l.initial.operands.items j;
    }
