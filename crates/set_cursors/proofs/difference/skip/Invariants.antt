use Rattle.std.proofs.Common.{◌≡◌, [], ◌∷◌, length}
use Rattle.uni_base.specs.KeySets.{KeepsKeys}
use Rattle.set_cursors.specs.Filters.{difference}
use Rattle.set_cursors.proofs.PassedPair.{SameFrom}
use Rattle.set_cursors.proofs.difference.skip.Given as goal

abbrev pub invariant-loop-key : goal.invariant-loop-key
invariant-loop-key g l =
    let view = g.C.DocCursor.remaining in
    record {
      keys : difference (view l.first) (view l.second) ≡ difference (view l.initial.first) (view l.initial.second);
      firsts : SameFrom (view l.first) (view l.initial.first) (view l.first);
      seconds : SameFrom (view l.first) (view l.initial.second) (view l.second);
      operands : KeepsKeys (difference (view l.first) (view l.second)) (view l.initial.first ∷ view l.initial.second ∷ []) (view l.first ∷ view l.second ∷ []);
    }

abbrev pub decreases-loop-key : goal.decreases-loop-key
decreases-loop-key g l = length (g.C.DocCursor.remaining l.first)
