use Rattle.std.proofs.Common.{arith, ◌≤◌, ap, ◌∙◌, take, length}
use Rattle.std.proofs.lemmas.List.{take_all}
use Rattle.layer_base.specs.Layers.{stack_table}
use Rattle.layer_stack.specs.Postings.{putting_all}
use Rattle.forward_data.specs.Records.{records_of}
use Rattle.shard_index.specs.Rows.{ShardChanges, stack_rows}
use Rattle.shard_index.proofs.StackLaws.{merged_stands}
use Rattle.version_catalog.proofs.whole.merged.Goals as goal

pub returns : goal.returns
returns c =
    let layers = c.args.index.now.0 in let n = c.layers-count.result in
    let is = c.in_ok-layer.ensures {u = tt} in
    let long : length layers ≤ n = omega (arith, c.layers-count.ensures) in
    merged_stands layers n c.in_ok-layer.layer
    (ap (λ (l : ShardChanges). l.entities) is ∙ (c.in_ok-entities.ensures {u = tt}).merged)
    (ap (λ (l : ShardChanges). l.postings) is ∙ (c.in_ok-postings.ensures {u = tt}).merged ∙ ap (λ ps. putting_all (stack_table (take n ps))) c.postings.ensures)
    (ap (λ (l : ShardChanges). l.records) is ∙ (c.in_ok-forward.ensures {u = tt}).merged ∙ ap (λ rs. records_of (take n rs)) c.forward_stack.ensures)
    ∙ ap stack_rows (take_all n layers long)
