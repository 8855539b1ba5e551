use Rattle.std.proofs.Common.{◌≡◌, ◌++◌}
use Rattle.std.specs.Vec.Iter.{into_iter_items}
use Rattle.rack_aggregate.specs.Merged.{all_hits}
use Rattle.rack_aggregate.proofs.merge.all_in.Given as goal

abbrev pub invariant-loop-part : goal.invariant-loop-part
invariant-loop-part l = l.hits.items ++ all_hits (into_iter_items l.part-iterator) ≡ all_hits l.fn.parts.items
