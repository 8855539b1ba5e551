use Rattle.std.proofs.Common.{◌≡◌, ℕ, ◌<◌, ◌≤◌, true, [], get_or, length, map, vec_len}
use Rattle.uni_base.specs.Cursors.{keys_from}
use Rattle.uni_base.specs.KeySets.{has_key, united}
use Rattle.set_cursors.specs.Leaps.{HasNoCommonBefore, IsPart}
use Rattle.set_cursors.proofs.Shared.{KeepsShared}
use Rattle.set_cursors.proofs.Weights.{HasPaid}
use Rattle.set_cursors.proofs.Reached.{SameOn}
use Rattle.set_cursors.proofs.leap.leap.Given as goal

abbrev pub invariant-loop-at : goal.invariant-loop-at
invariant-loop-at g l =
    let olds = map g.C.DocCursor.remaining l.initial.operands.items in
    let nows = map g.C.DocCursor.remaining l.operands.items in
    record {
      some : 0 < vec_len l.operands;
      keeps : KeepsShared olds nows;
      bounds : HasNoCommonBefore l.key nows;
      is_among : has_key (united nows) l.key ≡ true;
      parts : (i : ℕ) → IsPart (get_or olds i []) (get_or nows i []);
      same : SameOn l.key olds nows;
      rises : l.initial.moves ≤ l.moves;
      unmoved : l.moves ≤ l.initial.moves → nows ≡ olds;
      paid : HasPaid l.initial.moves l.moves l.key olds nows;
    }

abbrev pub decreases-loop-at : goal.decreases-loop-at
decreases-loop-at g l = length (keys_from l.key (united (map g.C.DocCursor.remaining l.operands.items)))
