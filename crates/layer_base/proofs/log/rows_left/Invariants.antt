use Rattle.std.proofs.Common.{◌≡◌}
use Rattle.layer_base.proofs.Changes.{kept}
use Rattle.layer_base.proofs.log.rows_left.Given as goal

abbrev pub invariant-loop-key : goal.invariant-loop-key
invariant-loop-key g l = l.rows.items ≡ kept l.yielded
