-- The edges of a batch, noted a run at a time.
use Rattle.std.proofs.Common.{arith, ◌≡◌, ◌≤◌, ◌+◌, ◌-◌, ℕ, List, [], ◌++◌, length, map, replicate, take, drop, refl, sym, ◌∙◌, ap, subst, append_assoc, take-add}
use Rattle.std.proofs.lemmas.List.{drop-drop, take_all}
use Rattle.uni_table.specs.declared.change.EdgeChange.{EdgeChange}
use Rattle.uni_table.specs.Contents.{Contents}
use Rattle.uni_table.specs.TableState.{IsKept, TableState}
use Rattle.shard_index.specs.declared.batch.batch_edges.BatchEdges.{BatchEdges}
use Rattle.shard_index.specs.declared.batch.batch_edges.BatchEdges.TheVariants.{Whole, Changed}
use Rattle.shard_index.specs.declared.batch.notes.ShardNotes.{ShardNotes}
use Rattle.shard_index.specs.Batches.{all_shards, AreAllChanges, TakeFrom}
use Rattle.shard_index.specs.BatchEdges.{AreOfBatch, HasEntities, NotesRun, run_length}
use Rattle.shard_index.specs.FullEdges.{NotesAll}
use Rattle.shard_index.specs.Notes.{AreNoted, NotesEdges, no_notes, noted_layer, with_all}
use Rattle.shard_index.proofs.BatchShards.{batch_taken, none_noted}
use Rattle.shard_index.proofs.FullEdges.{all_read, parts_read}
use Rattle.shard_index.proofs.NotesJoined.{all_joined}

-- a run, and the one after it
pub run_after : {X : Type 0} (xs : List X) (from mid to : ℕ) → from ≤ mid → mid ≤ to → take (mid - from) (drop from xs) ++ take (to - mid) (drop mid xs) ≡ take (to - from) (drop from xs)
run_after xs from mid to low high =
    let at : from + (mid - from) ≡ mid = omega (arith, low) in
    let both : mid - from + (to - mid) ≡ to - from = omega (arith, low, high) in
    ap (λ ys. take (mid - from) (drop from xs) ++ take (to - mid) ys) (sym (drop-drop (mid - from) from xs ∙ ap (λ k. drop k xs) at))
    ∙ sym (take-add (mid - from) (to - mid) (drop from xs)) ∙ ap (λ k. take k (drop from xs)) both

-- those up to a place, and those from there on that were noted apart
pub run_joined : (table : TableState) → IsKept table.schema table.limits table.contents → (edges : BatchEdges) (from mid to : ℕ) (old new later : List ShardNotes) → from ≤ mid → mid ≤ to
    → NotesRun table edges from mid old new → NotesRun table edges mid to (replicate (length (all_shards table.schema)) no_notes) later → NotesRun table edges from to old (with_all new later)
run_joined table kept (Whole sources) from mid to old new later low high so_far next = parts_read table kept sources.sources from mid to old new later high so_far next
run_joined table kept (Changed changes) from mid to old new later low high so_far next = λ removed placed edges before.
    let one = take (mid - from) (drop from changes) in let other = take (to - mid) (drop mid changes) in
    subst (λ es. AreNoted table removed placed es (with_all new later)) (append_assoc edges one other ∙ ap (λ es. edges ++ es) (run_after changes from mid to low high))
    (all_joined table removed placed (edges ++ one) other (all_shards table.schema) new later (so_far removed placed edges before) (next [] [] [] (none_noted table)))

-- exactly the edges that differ are noted once all of a batch are
pub run_whole : (table : TableState) → IsKept table.schema table.limits table.contents → (edges : BatchEdges) (old new : List ShardNotes) → AreOfBatch table edges → NotesRun table edges 0 (run_length edges) old new
    → (cs : List EdgeChange) × AreAllChanges table.published table.contents cs × NotesEdges table cs old new
run_whole table kept (Whole sources) old new are read =
    let all : NotesAll table old new = all_read table kept sources.sources old new sources refl are.1 read in
    subst (λ (was : Contents). (cs : List EdgeChange) × AreAllChanges was table.contents cs × NotesEdges table cs old new) (sym are.0) all
run_whole table kept (Changed changes) old new are read =
    (changes, are.exact, subst (λ cs. NotesEdges table cs old new) (take_all (length changes - 0) changes (omega arith)) read)

-- what was noted of the entities of a batch, and of its edges, makes its layers
pub notes_taken : (table : TableState) (old : Contents) → IsKept table.schema table.limits old → IsKept table.schema table.limits table.contents → (first second : List ShardNotes)
    → HasEntities old table first → (cs : List EdgeChange) × AreAllChanges old table.contents cs × NotesEdges table cs first second → TakeFrom table.schema old table.contents (all_shards table.schema) (map noted_layer second)
notes_taken table old old_kept kept first second has all = batch_taken table old old_kept kept has.0 has.1 all.0 all.1 second (all.2 has.0 has.0 [] has.2)
