use Rattle.std.proofs.Common.{◌≡◌, ◌-◌, Some, drop, map, slice_get}
use Rattle.uni_base.specs.declared.entity.DocKey.{DocKey}
use Rattle.uni_base.specs.KeySets.{united}
use Rattle.weak_strong.specs.Marks.{counter_of}
use Rattle.weak_strong.proofs.Counting.{all_allow}
use Rattle.weak_strong.proofs.walking.is_kept.Given as goal

abbrev pub invariant-loop-i : goal.invariant-loop-i
invariant-loop-i g l =
    let lists = map g.C.DocCursor.remaining l.candidates in
    let counters = map counter_of l.counters in
    (k : DocKey) → slice_get (united lists) 0 ≡ Some k → all_allow l.rule (l.next - 1) k lists counters ≡ all_allow l.rule (l.next - 1) k (drop l.i lists) (drop l.i counters)
