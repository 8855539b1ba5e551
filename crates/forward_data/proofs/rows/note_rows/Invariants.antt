use Rattle.std.proofs.Common.{◌≡◌, ◌++◌, map, take}
use Rattle.layer_base.specs.Among.{bare}
use Rattle.forward_data.proofs.rows.note_rows.Given as goal

abbrev pub invariant-loop-key : goal.invariant-loop-key
invariant-loop-key l = l.keys.items ≡ l.initial.keys.items ++ map bare (take l.key-index l.rows)
