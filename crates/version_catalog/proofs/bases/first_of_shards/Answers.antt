use Rattle.std.proofs.Common.{arith}
use Rattle.version_catalog.proofs.bases.first_of_shards.Goals as goal

pub loop-at-preserved : goal.loop-at-preserved
loop-at-preserved c = λ schema all. c.in_ok-add_first.ensures schema (all _ _ (omega (arith, c.loop-at-test.true, c.requires))) (c.loop-at.invariant schema all)
