use Rattle.std.proofs.Common.{◌≡◌, false, take, drop}
use Rattle.forward_data.specs.declared.record.RecordKey.{RecordKey}
use Rattle.forward_data.specs.Combined.{is_among, is_changed}
use Rattle.forward_data.proofs.combine.changed_keys.Given as goal

abbrev pub invariant-loop-i : goal.invariant-loop-i
invariant-loop-i l = (k : RecordKey) → is_among k l.log.items ≡ false → is_changed k (drop 1 (take l.i l.stack.0)) ≡ false
