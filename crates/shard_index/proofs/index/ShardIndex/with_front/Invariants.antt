use Rattle.std.proofs.Common.{◌≡◌, ◌+◌, ◌≤◌, ◌++◌, ◌∷◌, drop, length}
use Rattle.shard_index.proofs.index.ShardIndex.with_front.Given as goal

abbrev pub invariant-loop-i : goal.invariant-loop-i
invariant-loop-i l = (l.index.0 ++ drop l.i l.self.0 ≡ l.fn.layer ∷ drop l.count l.self.0) × (length l.self.0 ≤ l.i + l.index.1)
