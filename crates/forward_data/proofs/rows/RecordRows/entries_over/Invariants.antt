-- the count after the rows so far
use Rattle.std.proofs.Common.{◌≡◌, ◌+◌, ◌≤◌, map, take}
use Rattle.std.specs.FinMap as finite
use Rattle.layer_base.specs.Changes.{after}
use Rattle.forward_data.specs.Records.{replacing}
use Rattle.forward_data.proofs.rows.RecordRows.entries_over.Given as goal

abbrev pub invariant-loop-key : goal.invariant-loop-key
invariant-loop-key l = record {
  counts : l.count ≡ finite.len (after l.base (map replacing (take l.key-index l.key-items)));
  few : l.count ≤ finite.len l.base + l.key-index;
}
