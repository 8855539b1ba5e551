use Rattle.std.proofs.Common.{rules, ◌≡◌, take, ap, ◌∙◌, sym}
use Rattle.std.specs.Cmp.{nat_cmp_total}
use Rattle.std.specs.FinMap as finite
use Rattle.std.specs.Ordering.{nat_cmp}
use Rattle.layer_base.specs.Layers.{stack_table}
use Rattle.layer_base.proofs.Tables.{get-layer_over}
use Rattle.shard_index.specs.Entities.{rank_over}
use Rattle.shard_index.proofs.EntityRows.{id_apart}
use Rattle.shard_index.proofs.MergedTables.{stack_more}
use Rattle.shard_index.proofs.ranks.rank_in.Goals as goal

pub loop-i-init : goal.loop-i-init
loop-i-init c = sym (finite.get-empty nat_cmp c.args.id)

pub loop-i-preserved : goal.loop-i-preserved
loop-i-preserved c =
    let layers = c.args.layers.now.0 in let i = c.loop-i.i in
    let layer = c.layer.result.now.value in
    let is : c.deref.result.now ≡ layer = search rules in
    c.over-rank.ensures ∙ (λ k. rank_over (is k) c.args.id (c.loop-i.invariant k))
    ∙ sym (ap (λ table. finite.get table c.args.id) (stack_more layers i layer c.layer.ensures) ∙ get-layer_over nat_cmp_total id_apart (stack_table (take i layers)) layer c.args.id)
