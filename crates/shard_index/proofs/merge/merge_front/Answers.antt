use Rattle.std.proofs.Common.{rules, arith, ◌≡◌, ◌++◌, take, ap, ◌∙◌, sym, subst}
use Rattle.std.specs.Prelude.{T}
use Rattle.std.specs.Result.{IfOk}
use Rattle.std.specs.Cmp.{nat_cmp_total}
use Rattle.std.specs.FinMap as finite
use Rattle.std.specs.FinMap.{is_sorted}
use Rattle.std.specs.Ordering.{nat_cmp}
use Rattle.layer_base.specs.Layers.{stack_table}
use Rattle.layer_base.specs.Changes.{after, in_turn}
use Rattle.layer_base.proofs.Tables.{from_sorted-entries}
use Rattle.shard_index.specs.Entities.{putting_entities}
use Rattle.shard_index.proofs.EntityRows.{id_apart}
use Rattle.shard_index.proofs.MergedTables.{logged_more}
use Rattle.shard_index.proofs.merge.merge_front.Goals as goal

pub loop-i-preserved : goal.loop-i-preserved
loop-i-preserved c =
    let layers = c.args.layers.now.0 in
    let layer = c.layer.result.now.value in
    let logged = c.in_ok-log_changes.ensures {u = tt} in
    let is : c.deref.result.now ≡ layer = search rules in
    ap (after {R = nat_cmp} finite.empty) logged ∙ ap (λ l. after {R = nat_cmp} finite.empty (c.loop-i.log.items ++ in_turn l)) is
    ∙ logged_more nat_cmp_total id_apart layers c.loop-i.i layer c.loop-i.log.items c.loop-i.invariant c.layer.ensures

pub of_rows-requires : goal.of_rows-requires
of_rows-requires c =
    let rows = c.in_ok-rows_left.ensures {u = tt} in
    subst (λ rs. T (is_sorted nat_cmp rs)) (sym rows) (finite.entries_sorted (after {R = nat_cmp} finite.empty c.loop-i.log.items))

pub returns : goal.returns
returns c =
    let layers = c.args.layers.now.0 in
    let rows = c.in_ok-rows_left.ensures {u = tt} in
    let all : c.loop-i.i ≡ c.args.count = omega (arith, c.loop-i-test.false, c.loop-i.auto.i-end) in
    let table = ap (finite.from_sorted {R = nat_cmp}) rows ∙ from_sorted-entries (after {R = nat_cmp} finite.empty c.loop-i.log.items) ∙ c.loop-i.invariant ∙ ap (λ n. stack_table (take n layers)) all in
    subst (λ t. IfOk c.of_rows.result (λ layer. layer ≡ putting_entities t)) table c.of_rows.ensures
