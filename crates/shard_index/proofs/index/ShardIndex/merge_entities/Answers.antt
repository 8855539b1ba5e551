use Rattle.std.proofs.Common.{arith, ◌≡◌, ◌∷◌, map, take, drop, ap, ◌∙◌, sym, subst}
use Rattle.std.specs.Cmp.{nat_cmp_total}
use Rattle.std.specs.Result.{IfOk}
use Rattle.std.proofs.lemmas.Result.{IfOk-weaker}
use Rattle.layer_base.specs.Layers.{stack_table}
use Rattle.shard_index.specs.Entities.{EntityChanges, putting_entities}
use Rattle.shard_index.specs.Rows.{ShardChanges, stack_rows}
use Rattle.shard_index.proofs.EntityRows.{id_apart}
use Rattle.shard_index.proofs.IndexParts.{parts_of}
use Rattle.shard_index.proofs.StackLaws.{entities_of-stack}
use Rattle.shard_index.proofs.MergedTables.{front_same}
use Rattle.shard_index.proofs.index.ShardIndex.merge_entities.Goals as goal

pub merge_front-requires : goal.merge_front-requires
merge_front-requires c =
    let parts = parts_of c.self.inside.entities c.self.inside.postings c.self.inside.forward c.args.self.now c.self.invariant c.self.view_is in
    omega (arith, parts.entity_layers, c.requires)

pub returns-clause-merged : goal.returns-clause-merged
returns-clause-merged c =
    let parts = parts_of c.self.inside.entities c.self.inside.postings c.self.inside.forward c.args.self.now c.self.invariant c.self.view_is in
    subst (λ layers. IfOk c.merge_front.result (λ layer. layer ≡ putting_entities (stack_table (take c.args.count layers)))) (sym parts.entities) c.merge_front.ensures

pub returns-clause-same : goal.returns-clause-same
returns-clause-same c =
    let layers = map (λ (l : ShardChanges). l.entities) c.args.self.now.0 in let n = c.args.count in
    IfOk-weaker c.merge_front.result (λ layer. layer ≡ putting_entities (stack_table (take n layers))) (λ layer. stack_table (layer ∷ drop n layers) ≡ (stack_rows c.args.self.now.0).entities)
    (λ (layer : EntityChanges) is. ap (λ l. stack_table (l ∷ drop n layers)) is ∙ front_same nat_cmp_total id_apart layers n ∙ sym (entities_of-stack c.args.self.now.0)) (returns-clause-merged c)
