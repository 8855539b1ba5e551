use Rattle.std.proofs.Common.{◌≡◌, ◌+◌, length}
use Rattle.rack_aggregate.specs.Runs.{GivesRun}
use Rattle.rack_aggregate.proofs.racks.run_alone.Given as goal

abbrev pub invariant-loop-shard : goal.invariant-loop-shard
invariant-loop-shard g l = record {
  len : l.from + length l.all.items ≡ l.shard;
  gives : GivesRun (goal.J-post g l.job) l.from l.all.items;
}
