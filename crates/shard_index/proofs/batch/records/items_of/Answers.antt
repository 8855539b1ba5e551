use Rattle.std.proofs.Common.{rules, ◌≡◌, List, map, ap, ◌∙◌, subst}
use Rattle.std.specs.FinMap as finite
use Rattle.std.specs.Ordering.{nat_cmp}
use Rattle.std.specs.Result.{IfOk}
use Rattle.uni_base.specs.declared.edge.Held.{Held}
use Rattle.uni_base.specs.declared.edge.Key.TheVariants.{Id}
use Rattle.uni_table.specs.Ranked.{reached_of}
use Rattle.layer_base.specs.Layers.{from_log}
use Rattle.shard_index.specs.ChangedRows.{target_row, row_item}
use Rattle.shard_index.proofs.ReachedItems.{reached_items}
use Rattle.shard_index.proofs.batch.records.items_of.Goals as goal

pub returns : goal.returns
returns c =
    let table = c.args.table.now in let key = c.args.key.now in
    let held : c.as_slice.result.now ≡ reached_of table.schema table.contents key.type_no (Id key.id) = search rules in
    let log : c.in_ok-targets.targets.items ≡ map target_row c.as_slice.result.now = search rules in
    let rows : c.in_ok-rows.rows.items ≡ finite.entries (from_log {R = nat_cmp} c.in_ok-targets.targets.items) = search rules in
    let slice : c.as_slice-2.result.now ≡ c.in_ok-rows.rows.items = c.as_slice-2.ensures.value in
    let all = ap (map row_item) (slice ∙ rows ∙ ap (λ l. finite.entries (from_log {R = nat_cmp} l)) log ∙ ap (λ (hs : List Held). finite.entries (from_log {R = nat_cmp} (map target_row hs))) held)
    ∙ reached_items key.type_no (Id key.id) table.schema table.limits table.contents c.requires.declared c.requires.kept in
    subst (λ items. IfOk c.items.result (λ (x : _). x ≡ items)) all c.items.ensures
