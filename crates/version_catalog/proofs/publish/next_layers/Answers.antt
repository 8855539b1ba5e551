use Rattle.std.proofs.lemmas.Bool.Decides.{nat_tests}
use Rattle.std.proofs.Common.{arith, ap, ◌≡◌, ◌==◌, true, List, [], ◌∷◌, length, refl, sym, ◌∙◌, subst}
use Rattle.std.specs.List.{AllZip}
use Rattle.uni_base.specs.declared.edge.EdgeRef.{EdgeRef}
use Rattle.uni_table.specs.Contents.{Contents, ended}
use Rattle.uni_table.specs.Lists.{ending}
use Rattle.uni_table.specs.TableState.{TableState}
use Rattle.shard_index.specs.Batches.{TakesOver, TakeOver, all_shards}
use Rattle.version_catalog.proofs.Folds.{ended_nothing}
use Rattle.version_catalog.proofs.publish.next_layers.Goals as goal

no_item : (edges : List EdgeRef) → (length edges == 0) ≡ true → edges ≡ []
no_item [] e = refl
no_item (x ∷ edges) e = absurd (grind (arith, nat_tests))

pub returns-then-is_empty : goal.returns-then-is_empty
returns-then-is_empty g c =
    let table = c.args.table.now in let made = c.in_ok-layers_of.field-0 in
    let none : ending table.contents c.args.publish ≡ [] = sym (c.in_ok-ending.ensures {u = tt}) ∙ no_item c.in_ok-ending.field-0 (sym c.is_empty-2.ensures ∙ c.if-is_empty.true) in
    subst (λ (t : Contents). AllZip (TakesOver table.schema table.published t) (all_shards table.schema) made.items) (sym (ended_nothing table.contents c.args.publish none))
    (c.requires.layers table made (record { shown = c.args.table; shows = refl; says = record { met = c.in_ok-layers_of.ensures {u = tt} } }))

pub returns : goal.returns
returns g c =
    let made = c.in_ok-layers_of-2.field-0 in
    subst (λ (t : TableState). TakeOver t (all_shards t.schema) made.items) (c.end.ensures ∙ ap (λ (t : TableState). record t { contents = ended t.contents c.args.publish }) (c.in_ok-ended.ensures {u = tt}))
    (c.requires.layers _ made (record { shown = _; shows = refl; says = record { met = c.in_ok-layers_of-2.ensures {u = tt} } }))
