use Rattle.std.proofs.Common.{rules, arith, ◌≡◌, map, length, sym, ◌∙◌, ap, subst}
use Rattle.std.proofs.lemmas.List.{with_items_is}
use Rattle.std.proofs.lemmas.Result.{IfOk-weaker}
use Rattle.shard_index.specs.Batches.{all_shards, TakeOver}
use Rattle.shard_index.specs.BatchEdges.{HasEntities, NotesRun, run_length}
use Rattle.shard_index.specs.Notes.{noted_layer}
use Rattle.shard_index.proofs.BatchRuns.{notes_taken, run_whole}
use Rattle.shard_index.proofs.batch.batch_layers.Goals as goal

pub returns : goal.returns
returns c =
    let table = c.args.table.now in let edges = c.in_ok-edges.edges in
    let first = c.in_ok-notes.notes in let second = c.note.new.notes in
    let kept = c.schema.ensures.kept in
    let has : HasEntities table.published table first.items = (c.in_ok-notes.ensures {u = tt}).noted in
    let as_many : length second ≡ first.len = search (rules, arith) in
    let read : NotesRun table edges 0 (run_length edges) first.items second =
    subst (λ n. NotesRun table edges 0 n first.items second) c.len.ensures
    (subst (λ notes. NotesRun table edges 0 c.len.result notes second) c.deref_mut.ensures.value (c.in_ok-note.ensures {u = tt}).noted) in
    let all = run_whole table kept edges first.items second (c.in_ok-edges.ensures {u = tt}) read in
    let taken = notes_taken table table.published c.schema.ensures.published_kept kept first.items second has all in
    IfOk-weaker c.layers.result _ _ (λ layers is. subst (TakeOver table (all_shards table.schema)) (sym (is ∙ ap (map noted_layer) (with_items_is first second as_many))) taken) c.layers.ensures
