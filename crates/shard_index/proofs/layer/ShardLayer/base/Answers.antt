use Rattle.std.proofs.Common.{rules, arith, ◌≡◌, ◌+◌, ◌<◌, Some, length, subst, sym, ap, ◌∙◌}
use Rattle.std.specs.Prelude.{slice_index_or}
use Rattle.std.proofs.lemmas.List.{get_or_default}
use Rattle.std.proofs.lemmas.Result.{IfOk-weaker}
use Rattle.uni_schema.specs.Schema.{Declarations, vertical_at}
use Rattle.shard_index.specs.Numbers.{AreFirsts}
use Rattle.shard_index.specs.Rows.{ShardChanges, layer_over, no_rows}
use Rattle.shard_index.proofs.FullLayers.{layer_stands, layer_within, no_shard}
use Rattle.shard_index.proofs.ShardNumbers.{firsts_long}
use Rattle.shard_index.proofs.StackLaws.{layer_over-empty}
use Rattle.shard_index.proofs.layer.ShardLayer.base.Goals as goal

pub returns-then-shard-vertical : goal.returns-then-shard-vertical
returns-then-shard-vertical c =
    let table = c.args.table.now in let d = c.vertical.result.now in
    let same : c.deref.result.now ≡ table.schema = search rules in
    let at : vertical_at table.schema c.args.vertical ≡ Some d = subst (λ (s : Declarations). vertical_at s c.args.vertical ≡ Some d) same c.vertical.ensures.at in
    IfOk-weaker c.empty.result _ _
    (λ layer is. ap (layer_over no_rows) is ∙ layer_over-empty no_rows ∙ sym (no_shard table.schema table.contents c.args.vertical c.args.shard d at c.vertical.ensures.kept c.if-shard-vertical.true)) c.empty.ensures

pub index-requires : goal.index-requires
index-requires c =
    let table = c.args.table.now in
    let same : c.deref-2.result.now ≡ table.schema = search rules in
    let firsts : AreFirsts table.schema c.in_ok-firsts.firsts.items = subst (λ (s : Declarations). AreFirsts s c.in_ok-firsts.firsts.items) same (c.in_ok-firsts.ensures {u = tt}) in
    let long = firsts_long table.schema c.in_ok-firsts.firsts.items firsts in
    search (rules, arith)

pub overflow_add-index : goal.overflow_add-index
overflow_add-index c =
    let table = c.args.table.now in let d = c.vertical.result.now in let firsts = c.in_ok-firsts.firsts.items in let layers = c.in_ok-layers.layers.items in
    let same : c.deref.result.now ≡ table.schema = search rules in
    let again : c.deref-2.result.now ≡ table.schema = search rules in
    let at : vertical_at table.schema c.args.vertical ≡ Some d = subst (λ (s : Declarations). vertical_at s c.args.vertical ≡ Some d) same c.vertical.ensures.at in
    let are : AreFirsts table.schema firsts = subst (λ (s : Declarations). AreFirsts s firsts) again (c.in_ok-firsts.ensures {u = tt}) in
    let here : c.args.vertical < length firsts = omega (arith, firsts_long table.schema firsts are, c.requires) in
    let first : c.index.result.now ≡ slice_index_or firsts c.args.vertical 0 = c.index.ensures ∙ get_or_default firsts c.args.vertical c.index.result.now 0 here in
    let number : c.index.result.now + c.args.shard ≡ slice_index_or firsts c.args.vertical 0 + c.args.shard = ap (λ n. n + c.args.shard) first in
    let within = layer_within table.schema table.contents firsts are layers (c.in_ok-layers.ensures {u = tt}) c.args.vertical c.args.shard (c.index.result.now + c.args.shard) d at c.if-shard-vertical.false number in
    search (rules, arith)

pub index-requires-2 : goal.index-requires-2
index-requires-2 c =
    let table = c.args.table.now in let d = c.vertical.result.now in let firsts = c.in_ok-firsts.firsts.items in let layers = c.in_ok-layers.layers.items in
    let same : c.deref.result.now ≡ table.schema = search rules in
    let again : c.deref-2.result.now ≡ table.schema = search rules in
    let at : vertical_at table.schema c.args.vertical ≡ Some d = subst (λ (s : Declarations). vertical_at s c.args.vertical ≡ Some d) same c.vertical.ensures.at in
    let are : AreFirsts table.schema firsts = subst (λ (s : Declarations). AreFirsts s firsts) again (c.in_ok-firsts.ensures {u = tt}) in
    let here : c.args.vertical < length firsts = omega (arith, firsts_long table.schema firsts are, c.requires) in
    let first : c.index.result.now ≡ slice_index_or firsts c.args.vertical 0 = c.index.ensures ∙ get_or_default firsts c.args.vertical c.index.result.now 0 here in
    let number : c.index.result.now + c.args.shard ≡ slice_index_or firsts c.args.vertical 0 + c.args.shard = ap (λ n. n + c.args.shard) first in
    let within = layer_within table.schema table.contents firsts are layers (c.in_ok-layers.ensures {u = tt}) c.args.vertical c.args.shard (c.index.result.now + c.args.shard) d at c.if-shard-vertical.false number in
    search (rules, arith)

pub returns : goal.returns
returns c =
    let table = c.args.table.now in let d = c.vertical.result.now in let firsts = c.in_ok-firsts.firsts.items in let layers = c.in_ok-layers.layers.items in
    let same : c.deref.result.now ≡ table.schema = search rules in
    let again : c.deref-2.result.now ≡ table.schema = search rules in
    let at : vertical_at table.schema c.args.vertical ≡ Some d = subst (λ (s : Declarations). vertical_at s c.args.vertical ≡ Some d) same c.vertical.ensures.at in
    let are : AreFirsts table.schema firsts = subst (λ (s : Declarations). AreFirsts s firsts) again (c.in_ok-firsts.ensures {u = tt}) in
    let here : c.args.vertical < length firsts = omega (arith, firsts_long table.schema firsts are, c.requires) in
    let first : c.index.result.now ≡ slice_index_or firsts c.args.vertical 0 = c.index.ensures ∙ get_or_default firsts c.args.vertical c.index.result.now 0 here in
    let number : c.index.result.now + c.args.shard ≡ slice_index_or firsts c.args.vertical 0 + c.args.shard = ap (λ n. n + c.args.shard) first in
    let base : ShardChanges = c.index-2.result.now in
    IfOk-weaker c.share.result _ _
    (λ layer is. ap (layer_over no_rows) is
    ∙ layer_stands table.schema table.contents firsts are layers (c.in_ok-layers.ensures {u = tt}) c.args.vertical c.args.shard (c.index.result.now + c.args.shard) d at c.if-shard-vertical.false number base c.index-2.ensures) c.share.ensures
