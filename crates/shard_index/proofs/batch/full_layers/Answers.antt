use Rattle.std.proofs.Common.{rules, arith, ◌≡◌, map, length, sym, ◌∙◌, ap, refl, subst}
use Rattle.std.proofs.lemmas.List.{with_items_is}
use Rattle.std.proofs.lemmas.Result.{IfOk-weaker}
use Rattle.uni_table.specs.Changes.{AreEntityChanges}
use Rattle.uni_table.specs.Contents.{empty}
use Rattle.uni_table.specs.Sources.{AreSources}
use Rattle.uni_table.proofs.Kept.{nothing_kept}
use Rattle.shard_index.specs.Batches.{all_shards, TakeFrom}
use Rattle.shard_index.specs.BatchEdges.{HasEntities}
use Rattle.shard_index.specs.FullEdges.{NotesAll, NotesSources}
use Rattle.shard_index.specs.Notes.{noted_layer}
use Rattle.shard_index.proofs.BatchRuns.{notes_taken}
use Rattle.shard_index.proofs.FullEdges.{all_read}
use Rattle.shard_index.proofs.batch.full_layers.Goals as goal

pub returns : goal.returns
returns c =
    let table = c.args.table.now in let state = c.in_ok-sources.sources in let entities = c.as_slice.result.now in
    let first = c.in_ok-notes.notes in let second = c.note_sources.new.notes in
    let kept = c.entity_notes.ensures.kept in
    let changed : AreEntityChanges empty table.contents entities = search rules in
    let has : HasEntities empty table first.items = (entities, changed, (c.in_ok-notes.ensures {u = tt}).noted) in
    let as_many : length second ≡ first.len = search (rules, arith) in
    let are : AreSources (length table.schema.types) table.contents state = c.in_ok-sources.ensures {u = tt} in
    let read : NotesSources table state.sources 0 (length state.sources) first.items second =
    subst (λ n. NotesSources table state.sources 0 n first.items second) c.len-all.ensures
    (subst (λ notes. NotesSources table state.sources 0 c.len-all.result notes second) c.deref_mut.ensures.value (c.in_ok-note_sources.ensures {u = tt}).noted) in
    let all : NotesAll table first.items second = all_read table kept state.sources first.items second state refl are read in
    let taken = notes_taken table empty (nothing_kept table.schema table.limits) kept first.items second has all in
    IfOk-weaker c.layers.result _ _ (λ layers is. subst (TakeFrom table.schema empty table.contents (all_shards table.schema)) (sym (is ∙ ap (map noted_layer) (with_items_is first second as_many))) taken) c.layers.ensures
