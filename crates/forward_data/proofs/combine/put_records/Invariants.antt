use Rattle.std.proofs.Common.{◌≡◌, length, take}
use Rattle.forward_data.specs.Combined.{putting_records}
use Rattle.forward_data.proofs.combine.put_records.Given as goal

abbrev pub invariant-loop-key : goal.invariant-loop-key
invariant-loop-key l = record {
  records : l.delta ≡ putting_records (take (length l.initial.hints) l.stack.0) (take l.key-index l.keys) l.initial.delta;
  hints : length l.hints ≡ length l.initial.hints;
}
