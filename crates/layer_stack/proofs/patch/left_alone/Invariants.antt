-- what is left after the terms so far
use Rattle.std.proofs.Common.{◌≡◌, ◌+◌, take}
use Rattle.std.specs.FinMap as finite
use Rattle.layer_stack.specs.Based.{count_under}
use Rattle.layer_stack.proofs.patch.left_alone.Given as goal

abbrev pub invariant-loop-term : goal.invariant-loop-term
invariant-loop-term l = l.left + count_under l.rows.puts (take l.term-index l.terms) ≡ finite.len l.rows.puts
