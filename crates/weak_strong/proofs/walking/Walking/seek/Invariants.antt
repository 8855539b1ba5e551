use Rattle.std.proofs.Common.{◌≡◌, length, map}
use Rattle.uni_base.specs.Cursors.{keys_from}
use Rattle.uni_base.specs.KeySets.{KeepsKeys}
use Rattle.weak_strong.specs.Walking.{walk_of}
use Rattle.weak_strong.proofs.Passing.{SameOn}
use Rattle.weak_strong.proofs.walking.Walking.seek.Given as goal

abbrev pub invariant-loop-key : goal.invariant-loop-key
invariant-loop-key g l =
    let view = g.C.DocCursor.remaining in
    let rule = l.initial.self.0 in
    record {
      stays : l.self.0 ≡ rule;
      walk : keys_from l.from (walk_of rule (map view l.self.1) l.self.2 l.self.3) ≡ keys_from l.from (walk_of rule (map view l.initial.self.1) l.initial.self.2 l.initial.self.3);
      operands : KeepsKeys (walk_of rule (map view l.self.1) l.self.2 l.self.3) (map view l.initial.self.1) (map view l.self.1);
      same : SameOn (walk_of rule (map view l.self.1) l.self.2 l.self.3) (map view l.initial.self.1) (map view l.self.1);
    }

abbrev pub decreases-loop-key : goal.decreases-loop-key
decreases-loop-key g l = length (walk_of l.self.0 (map g.C.DocCursor.remaining l.self.1) l.self.2 l.self.3)
