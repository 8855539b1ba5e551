use Rattle.std.proofs.Common.{◌∙◌, ap, sym, ◌++◌, List}
use Rattle.layer_base.specs.Layers.{stack_table}
use Rattle.shard_eval.specs.Found.{Found, found_term}
use Rattle.shard_eval.specs.Kept.{up_to}
use Rattle.shard_eval.proofs.ReachedLists.{firsts_more}
use Rattle.shard_eval.proofs.reached.reached_by.Goals as goal

pub loop-leaf-preserved : goal.loop-leaf-preserved
loop-leaf-preserved c =
    let find = found_term (stack_table c.args.stack.now.0) in
    c.in_ok-read_term.ensures {u = tt}
    ∙ ap (λ (fs : List Found). fs ++ up_to c.args.limit (find c.leaf-item.result)) c.loop-leaf.invariant
    ∙ sym (firsts_more c.args.limit find c.args.leaves.now c.loop-leaf.leaf-index c.leaf-item.result c.loop-leaf-test.true c.leaf-item.is)
