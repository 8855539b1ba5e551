use Rattle.std.proofs.Common.{◌≡◌, ℕ, ◌≤◌, Some, All, get_or, length, map, slice_get}
use Rattle.uni_base.specs.declared.entity.DocKey.{DocKey}
use Rattle.uni_base.specs.KeySets.{holders, united}
use Rattle.weak_strong.specs.declared.rule.Counter.{Counter}
use Rattle.weak_strong.specs.Marks.{counter_of}
use Rattle.weak_strong.proofs.Counting.{counted_to}
use Rattle.weak_strong.proofs.walking.count.Given as goal

abbrev pub invariant-loop-i : goal.invariant-loop-i
invariant-loop-i g l =
    let lists = map g.C.DocCursor.remaining l.candidates in
    record {
      count : length l.counters.items ≡ length l.initial.counters.items;
      untouched : (j : ℕ) (d : Counter) → l.i ≤ j → get_or l.counters.items j d ≡ get_or l.initial.counters.items j d;
      owns : All (λ (counter : Counter). counter.own ≤ l.next) l.counters.items;
      counted : (k : DocKey) → slice_get (united lists) 0 ≡ Some k → map counter_of l.counters.items ≡ counted_to l.i (holders k lists) (map counter_of l.initial.counters.items);
    }
