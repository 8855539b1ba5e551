use Rattle.std.proofs.Common.{◌≡◌, length, map}
use Rattle.uni_base.specs.KeySets.{united, KeepsKeys}
use Rattle.set_cursors.specs.Passed.{HavePassed}
use Rattle.weak_strong.specs.Marks.{counter_of}
use Rattle.weak_strong.specs.Walking.{IsCounted, walk_of}
use Rattle.weak_strong.proofs.walking.pass_refused.Given as goal

abbrev pub invariant-loop-key : goal.invariant-loop-key
invariant-loop-key g l =
    let olds = map g.C.DocCursor.remaining l.initial.candidates in
    let nows = map g.C.DocCursor.remaining l.candidates in
    let counters = map counter_of l.counters in
    record {
      counted : IsCounted nows counters l.kept;
      walk : walk_of l.rule nows counters l.kept ≡ walk_of l.rule olds counters l.kept;
      operands : KeepsKeys (united nows) olds nows;
      passed : HavePassed (united nows) olds nows;
    }

abbrev pub decreases-loop-key : goal.decreases-loop-key
decreases-loop-key g l = length (united (map g.C.DocCursor.remaining l.candidates))
