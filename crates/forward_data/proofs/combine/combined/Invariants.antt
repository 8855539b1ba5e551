use Rattle.std.proofs.Common.{◌≡◌, ◌≤◌, length, take}
use Rattle.forward_data.specs.Records.{record_cmp, records_of}
use Rattle.layer_base.proofs.Among.{is_done}
use Rattle.forward_data.proofs.Combined.{Has}
use Rattle.forward_data.proofs.combine.combined.Given as goal

abbrev pub invariant-loop-key : goal.invariant-loop-key
invariant-loop-key l = record {
  within : l.at ≤ length l.changed;
  hints : length l.hints.items ≡ l.count;
  has : Has (records_of (take l.count l.stack.0)) (is_done record_cmp l.changed l.at (take l.key-index l.rows)) l.delta;
}
