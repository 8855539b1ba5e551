use Rattle.std.proofs.Common.{◌≡◌, IfOk, take, ap, subst, sym, ◌∙◌}
use Rattle.layer_base.specs.Layers.{stack_table}
use Rattle.layer_stack.specs.Postings.{PostingTable}
use Rattle.shard_index.specs.Rows.{ShardRows, no_rows, stack_rows}
use Rattle.shard_index.proofs.StackLaws.{stack_parts}
use Rattle.shard_eval.specs.Found.{found_all}
use Rattle.shard_eval.specs.Resolution.{found, resolution}
use Rattle.shard_eval.proofs.shard.eval_shard.Goals as goal

pub returns : goal.returns
returns c =
    let layers = c.args.shard.now.0 in
    let same : stack_table c.postings.result.now.0 ≡ (stack_rows layers).postings = ap stack_table c.postings.ensures ∙ sym (ap (λ (rows : ShardRows). rows.postings) (stack_parts no_rows layers)) in
    subst (λ (table : PostingTable). IfOk c.eval.result (λ hits. found_all hits ≡ take c.args.limit (found table (resolution c.args.query.now)))) same c.eval.ensures
