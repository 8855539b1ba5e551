use Rattle.std.proofs.Common.{◌≡◌, ℕ, ◌≤◌, ◌<◌, false, slice_get}
use Rattle.layer_base.specs.Lookups.{comes_after}
use Rattle.layer_base.proofs.near.first_after.Given as goal

abbrev pub invariant-loop-at : goal.invariant-loop-at
invariant-loop-at g l = (i : ℕ) → l.from ≤ i → i < l.at → comes_after g.K.Ord.cmp l.key (slice_get l.rows i) ≡ false
