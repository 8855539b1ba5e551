use Rattle.shard_index.specs.Versions.{StandsAt}
use Rattle.version_catalog.proofs.whole.shortest.Given as goal

abbrev pub invariant-loop-other : goal.invariant-loop-other
invariant-loop-other l = StandsAt l.version l.shortest.0 l.vertical l.shard
