use Rattle.std.proofs.Common.{◌≡◌, ◌+◌, ◌<◌, ℕ, true, get_or}
use Rattle.uni_base.specs.declared.entity.DocKey.{DocKey}
use Rattle.uni_base.specs.Cursors.{is_before}
use Rattle.layer_stack.proofs.runs.is_ranked.Given as goal

abbrev pub invariant-loop-i : goal.invariant-loop-i
invariant-loop-i l = (j : ℕ) (d : DocKey) → j + 1 < l.i → is_before (get_or l.keys j d) (get_or l.keys (j + 1) d) ≡ true
