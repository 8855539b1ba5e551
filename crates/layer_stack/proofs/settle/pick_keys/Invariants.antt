use Rattle.std.proofs.Common.{◌≡◌, map, take}
use Rattle.layer_stack.proofs.settle.pick_keys.Given as goal

abbrev pub invariant-loop-key : goal.invariant-loop-key
invariant-loop-key l = l.keys.items ≡ map (λ e. e.0) (take l.key-index l.rows)
