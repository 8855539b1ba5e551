use Rattle.std.proofs.Common.{rules, arith, ◌≡◌, ◌≤◌, ◌+◌, ◌-◌, ◌/◌, ℕ, suc, zero, ◌∷◌, List, drop, length, replicate, subst, sym, ◌∙◌, ap, Vec, Global}
use Rattle.std.proofs.lemmas.List.{length-replicate, with_items_is}
use Rattle.std.proofs.lemmas.List.Elements.{All-drop}
use Rattle.std.proofs.lemmas.Result.{on_ok_weaker}
use Rattle.std.specs.List.{All}
use Rattle.std.specs.Result.{OnOk}
use Rattle.uni_table.specs.TableState.{TableState}
use Rattle.shard_index.specs.declared.batch.notes.ShardNotes.{ShardNotes}
use Rattle.shard_index.specs.Batches.{all_shards}
use Rattle.shard_index.specs.BatchEdges.{AreBlank, NotesRun}
use Rattle.shard_index.specs.Notes.{no_notes, with_all}
use Rattle.shard_index.proofs.BatchRuns.{run_joined}
use Rattle.shard_index.proofs.batch.halves.+halves.Goals as goal

-- of spare notes from a place on, the first and the others
blank_parts : (table : TableState) (n : ℕ) (spare rest back : List (Vec ShardNotes Global)) (later : Vec ShardNotes Global) → rest ≡ drop n spare → rest ≡ later ∷ back → All (AreBlank table) spare
    → AreBlank table later × All (AreBlank table) back
blank_parts table n spare rest back later is parts all =
    let blank : All (AreBlank table) (later ∷ back) = subst (All (AreBlank table)) (sym is ∙ parts) (All-drop (AreBlank table) n spare all) in
    (blank zero later (omega arith), λ k d low. blank (suc k) d (omega (arith, low)))

pub note_among-note_both-done-requires-clause-later :
    goal.note_among-note_both-done-requires-clause-later
note_among-note_both-done-requires-clause-later g t c κs within =
    let table = c.args.table.now in
    let blank = blank_parts table (length c.args.spare.now / 2) c.args.spare.now c.split_at_mut-front.result.1.now c.in-Some.back.now c.in-Some.later.now c.split_at_mut-front.ensures.back c.in-Some.ensures.cases.0 c.requires.spare in
    ap length (c.deref_mut.ensures.value ∙ blank.0) ∙ length-replicate (length (all_shards table.schema)) no_notes

pub note_among-note_both-done-requires-clause-back :
    goal.note_among-note_both-done-requires-clause-back
note_among-note_both-done-requires-clause-back g t c κs within =
    (blank_parts c.args.table.now (length c.args.spare.now / 2) c.args.spare.now c.split_at_mut-front.result.1.now c.in-Some.back.now c.in-Some.later.now c.split_at_mut-front.ensures.back c.in-Some.ensures.cases.0 c.requires.spare).1

pub note_among-append_notes-requires : goal.note_among-append_notes-requires
note_among-append_notes-requires g t c =
    let table = c.args.table.now in let later = c.note_both-done.new.later in
    let blank = blank_parts table (length c.args.spare.now / 2) c.args.spare.now c.split_at_mut-front.result.1.now c.in-Some.back.now c.in-Some.later.now c.split_at_mut-front.ensures.back c.in-Some.ensures.cases.0 c.requires.spare in
    let all : length c.deref_mut.result.now ≡ length (all_shards table.schema) = ap length (c.deref_mut.ensures.value ∙ blank.0) ∙ length-replicate (length (all_shards table.schema)) no_notes in
    let as_many : length later ≡ c.in-Some.later.now.len = search (rules, arith) in
    let taken : c.replace.result.items ≡ later = ap (λ (v : Vec ShardNotes Global). v.items) c.replace.ensures.value ∙ with_items_is c.in-Some.later.now later as_many in
    ap length taken ∙ c.note_both-done.ensures.later_count ∙ all ∙ sym (c.note_both-done.ensures.count ∙ c.requires.count)

pub note_among-returns-clause-noted : goal.note_among-returns-clause-noted
note_among-returns-clause-noted g t c =
    let table = c.args.table.now in let edges = c.args.edges.now in let from = c.args.from in let to = c.args.to in
    let old = c.args.notes.now in let mid = c.note_both-done.new.notes in let later = c.note_both-done.new.later in
    let blank = blank_parts table (length c.args.spare.now / 2) c.args.spare.now c.split_at_mut-front.result.1.now c.in-Some.back.now c.in-Some.later.now c.split_at_mut-front.ensures.back c.in-Some.ensures.cases.0 c.requires.spare in
    let as_many : length later ≡ c.in-Some.later.now.len = search (rules, arith) in
    let taken : c.replace.result.items ≡ later = ap (λ (v : Vec ShardNotes Global). v.items) c.replace.ensures.value ∙ with_items_is c.in-Some.later.now later as_many in
    let middle : ℕ = from + (to - from) / 2 in
    let low : from ≤ middle = omega arith in
    let high : middle ≤ to = omega (arith, c.requires.within) in
    let front : NotesRun table edges from middle old mid = subst (λ r. OnOk r (NotesRun table edges from middle old mid)) (c.in_ok-done.was {u = tt}) c.note_both-done.ensures.front in
    let back : NotesRun table edges middle to (replicate (length (all_shards table.schema)) no_notes) later =
    subst (λ blanks. NotesRun table edges middle to blanks later) (c.deref_mut.ensures.value ∙ blank.0)
    (subst (λ r. OnOk r (NotesRun table edges middle to c.deref_mut.result.now later)) (c.in_ok-also.was {u = tt}) c.note_both-done.ensures.back) in
    on_ok_weaker c.append_notes.result
    (λ (is : c.append_notes.new.notes ≡ with_all mid c.replace.result.items).
    subst (NotesRun table edges from to old) (sym (is ∙ ap (with_all mid) taken)) (run_joined table c.requires.kept.0 edges from middle to old mid later low high front back))
    c.append_notes.ensures.joined
