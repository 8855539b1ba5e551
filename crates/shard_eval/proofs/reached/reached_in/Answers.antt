use Rattle.std.proofs.Common.{◌∙◌, ap, sym, ◌++◌, List}
use Rattle.shard_eval.specs.Found.{Found}
use Rattle.shard_eval.specs.Kept.{up_to}
use Rattle.shard_eval.specs.Reached.{found_listed}
use Rattle.shard_eval.proofs.ReachedLists.{firsts_more}
use Rattle.shard_eval.proofs.reached.reached_in.Goals as goal

pub loop-list-preserved : goal.loop-list-preserved
loop-list-preserved c =
    c.in_ok-read_list.ensures {u = tt}
    ∙ ap (λ (fs : List Found). fs ++ up_to c.args.limit (found_listed c.list-item.result)) c.loop-list.invariant
    ∙ sym (firsts_more c.args.limit found_listed c.args.lists.now c.loop-list.list-index c.list-item.result c.loop-list-test.true c.list-item.is)
