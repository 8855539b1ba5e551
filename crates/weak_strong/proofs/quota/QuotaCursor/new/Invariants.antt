use Rattle.std.proofs.Common.{◌≡◌, ◌++◌, map}
use Rattle.std.specs.Vec.Iter.{into_iter_items}
use Rattle.weak_strong.proofs.quota.QuotaCursor.new.Given as goal

abbrev pub invariant-loop-cursor : goal.invariant-loop-cursor
invariant-loop-cursor g l = record {
  all : l.yielded ++ into_iter_items l.cursor-iterator ≡ l.fn.operands.items;
  cursors : l.parts.0 ≡ map (λ o. o.0) l.yielded;
  quotas : l.parts.1 ≡ map (λ o. g.W.Walk.quota o.1) l.yielded;
}
