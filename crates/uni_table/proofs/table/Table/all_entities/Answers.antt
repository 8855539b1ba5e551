use Rattle.std.proofs.Common.{subst}
use Rattle.std.specs.Cmp.{nat_cmp_total}
use Rattle.std.proofs.lemmas.Map.Lookups.{exact_unsigned}
use Rattle.uni_table.specs.Changes.{AreEntityChanges, IsEntityChange}
use Rattle.uni_table.specs.Contents.{empty}
use Rattle.uni_table.specs.TableState.{TableState}
use Rattle.uni_table.specs.declared.change.EntityChange.{EntityChange}
use Rattle.uni_table.proofs.InOrder.{exact_in_order}
use Rattle.uni_table.proofs.table.Table.all_entities.Goals as goal

pub returns : goal.returns
returns c =
    let graph = c.self.inside.graph in
    let found = c.in_ok-changes.ensures in
    let told = exact_in_order (λ (x : EntityChange). x.id) nat_cmp_total exact_unsigned (IsEntityChange empty graph.contents) c.in_ok-changes.changes.items c.by_id.result
    found.exact found.apart c.by_id.ensures.permutation c.by_id.ensures.sorted in
    subst (λ (t : TableState). AreEntityChanges empty t.contents c.by_id.result) c.self.view_is (record { exact = told.0; sorted = told.1 })
