use Rattle.std.proofs.Common.{◌≡◌, ◌++◌, ◌∷◌, [], length, sym, subst, ap, ◌∙◌}
use Rattle.uni_schema.specs.Schema.{Declarations}
use Rattle.uni_table.specs.Journals.{fold_of}
use Rattle.shard_index.specs.Batches.{all_shards}
use Rattle.shard_index.specs.Versions.{VersionState, AreStacks}
use Rattle.shard_index.proofs.Standing.{are_stacks}
use Rattle.version_catalog.specs.Spread.{spread, with_layers}
use Rattle.version_catalog.specs.States.{version_in}
use Rattle.version_catalog.proofs.Growth.{spread_long, gained_now}
use Rattle.version_catalog.proofs.Paired.{AllZip-length}
use Rattle.version_catalog.proofs.turns.lengthen.Goals as goal

pub longer_version-requires-clause-shards : goal.longer_version-requires-clause-shards
longer_version-requires-clause-shards c =
    let settings = c.requires.0 in let st = c.requires.2 in
    ap length c.deref-3.ensures.value ∙ AllZip-length _ (all_shards settings.schema) c.args.layers.now.layers.items c.requires.4
    ∙ sym (ap (λ (v : VersionState). length (all_shards v.schema)) c.deref-2.ensures ∙ ap (λ (schema : Declarations). length (all_shards schema)) st.schema)

pub longer_version-requires-clause-stacks : goal.longer_version-requires-clause-stacks
longer_version-requires-clause-stacks c =
    let settings = c.requires.0 in let st = c.requires.2 in
    let schema : c.deref-2.result.now.schema ≡ settings.schema = ap (λ (v : VersionState). v.schema) c.deref-2.ensures ∙ st.schema in
    ap (λ (s : Declarations). length (spread s c.deref-3.result.now)) schema ∙ ap (λ ls. length (spread settings.schema ls)) c.deref-3.ensures.value
    ∙ spread_long c.args.state.now settings c.requires.1 st c.args.batch.now c.args.layers.now.layers.items c.requires.4
    ∙ sym (ap (λ (v : VersionState). length v.stacks) c.deref-2.ensures)

pub longer_version-requires-clause-stand : goal.longer_version-requires-clause-stand
longer_version-requires-clause-stand c =
    let settings = c.requires.0 in let journal = c.requires.1 in let st = c.requires.2 in let batch = c.args.batch.now in let layers = c.args.layers.now.layers.items in
    let stacks = (version_in c.args.state.now).stacks in
    let stand : AreStacks settings.schema (with_layers stacks (spread settings.schema layers)) =
    are_stacks settings.schema (fold_of settings.schema (journal ++ batch ∷ [])) (with_layers stacks (spread settings.schema layers)) (gained_now c.args.state.now settings journal st batch layers c.requires.4) in
    subst (λ (v : VersionState). AreStacks v.schema (with_layers v.stacks (spread v.schema c.deref-3.result.now))) (sym c.deref-2.ensures)
    (subst (λ ls. AreStacks (version_in c.args.state.now).schema (with_layers stacks (spread (version_in c.args.state.now).schema ls))) (sym c.deref-3.ensures.value)
    (subst (λ (s : Declarations). AreStacks s (with_layers stacks (spread s layers))) (sym st.schema) stand))
