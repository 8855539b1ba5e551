use Rattle.std.proofs.Common.{◌≡◌, length}
use Rattle.forward_data.proofs.combine.first_hints.Given as goal

abbrev pub invariant-loop-i : goal.invariant-loop-i
invariant-loop-i l = length l.hints.items ≡ l._i
