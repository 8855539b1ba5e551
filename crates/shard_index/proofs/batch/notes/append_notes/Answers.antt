use Rattle.std.proofs.Common.{rules, arith, ℕ, ◌+◌, ◌≡◌, ◌<◌, ◌++◌, ◌∷◌, [], List, length, get_or, slice_set, refl, sym, ap, ◌∙◌, append_assoc}
use Rattle.std.proofs.lemmas.List.{length-append}
use Rattle.std.specs.Vec.Iter.{into_iter_items}
use Rattle.shard_index.specs.declared.batch.notes.ShardNotes.{ShardNotes}
use Rattle.shard_index.specs.Notes.{with_all, with_notes}
use Rattle.shard_index.proofs.NotesJoined.{with_more, with_none}
use Rattle.shard_index.proofs.batch.notes.append_notes.Goals as goal

fewer : (past : List ShardNotes) (shard : ShardNotes) (rest : List ShardNotes) {n : ℕ} → length (past ++ shard ∷ rest) ≡ n → length past < n
fewer past shard rest is = omega (arith, is, length-append past (shard ∷ rest))

length-push : (past : List ShardNotes) (shard : ShardNotes) → length (past ++ shard ∷ []) ≡ length past + 1
length-push past shard = length-append past (shard ∷ [])

pub loop-shard-init : goal.loop-shard-init
loop-shard-init c = record { all = search rules; at = refl; notes = sym (with_none c.args.notes.now) }

pub loop-shard-preserved : goal.loop-shard-preserved
loop-shard-preserved c =
    let old : List ShardNotes = c.args.notes.now in let past : List ShardNotes = c.loop-shard.yielded in let shard : ShardNotes = c.in-Some.shard in let found : ShardNotes = c.index-notes-at.result in
    let rest : List ShardNotes = into_iter_items c.next.new.self in
    let whole : past ++ shard ∷ rest ≡ c.args.later.items = ap (λ (ms : List ShardNotes). past ++ ms) (sym (c.in-Some.ensures {u = tt}).steps.0) ∙ c.loop-shard.invariant.all in
    let low : length past < length old = fewer past shard rest (ap length whole ∙ c.requires) in
    let step : c.append.new.self ≡ with_notes (get_or (with_all old past) (length past) found) shard =
    c.in_ok-append.ensures {u = tt} ∙ (λ i. with_notes (get_or (c.loop-shard.invariant.notes i) (c.loop-shard.invariant.at i) found) shard) in
    record {
      all = append_assoc past (shard ∷ []) rest ∙ whole;
      at = ap (λ n. n + 1) c.loop-shard.invariant.at ∙ sym (length-push past shard);
      notes = (λ i. slice_set (c.loop-shard.invariant.notes i) (c.loop-shard.invariant.at i) (step i)) ∙ with_more old past shard found low;
    }
