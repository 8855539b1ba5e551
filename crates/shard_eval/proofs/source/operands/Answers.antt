use Rattle.std.proofs.Common.{subst, sym}
use Rattle.layer_base.specs.Layers.{stack_table}
use Rattle.uni_base.specs.Cursors.{IsRanked}
use Rattle.shard_eval.specs.Found.{found_keys}
use Rattle.shard_eval.specs.Sources.{found_by}
use Rattle.shard_eval.proofs.SourceLists.{ranked_at}
use Rattle.shard_eval.proofs.source.operands.Goals as goal

pub operand-requires : goal.operand-requires
operand-requires c =
    let table = stack_table c.args.stack.now.0 in
    subst (λ s. IsRanked (found_keys (found_by table s.0))) (sym c.loop-source-item.is)
    (ranked_at table c.args.sources.now c.loop-source.source-index c.loop-source-item.result c.loop-source-test.true c.requires)
