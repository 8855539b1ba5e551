-- the records so far
use Rattle.std.proofs.Common.{◌≡◌, length, take, cond, Some, None}
use Rattle.std.specs.FinMap as finite
use Rattle.forward_data.specs.declared.record.RecordKey.{RecordKey}
use Rattle.forward_data.specs.Combined.{is_among}
use Rattle.forward_data.specs.Records.{record_of}
use Rattle.forward_data.proofs.patch.patch.Given as goal

abbrev pub invariant-loop-key : goal.invariant-loop-key
invariant-loop-key l = record {
  hints : length l.hints.items ≡ l.count;
  is : (q : RecordKey) → finite.get l.delta q ≡ cond (is_among q (take l.key-index l.keys)) (Some (record_of q (take l.count l.stack.0))) None;
}
