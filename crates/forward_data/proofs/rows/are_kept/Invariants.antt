-- the records so far are not empty
use Rattle.std.proofs.Common.{take}
use Rattle.forward_data.specs.Combined.{are_kept}
use Rattle.forward_data.proofs.rows.are_kept.Given as goal

abbrev pub invariant-loop-key : goal.invariant-loop-key
invariant-loop-key l = are_kept (take l._key-index l.rows)
