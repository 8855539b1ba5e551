use Rattle.std.proofs.Common.{rules, ◌≡◌, ◌+◌, ◌++◌, ◌∷◌, [], length, ℕ, ap, ◌∙◌, sym, subst}
use Rattle.std.specs.Result.{OnOk}
use Rattle.std.specs.FinMap as finite
use Rattle.std.proofs.lemmas.List.{length-append}
use Rattle.std.proofs.lemmas.Result.{on_ok_weaker, on_err_weaker}
use Rattle.uni_base.specs.declared.entity.DocKey.{DocKey}
use Rattle.layer_base.specs.Layers.{from_log}
use Rattle.layer_base.proofs.Tables.{from_log-push}
use Rattle.layer_stack.specs.Places.{place_cmp}
use Rattle.layer_stack.specs.Postings.{deleting, place_of}
use Rattle.layer_stack.specs.Runs.{Adds, AreWithin}
use Rattle.layer_stack.specs.Spans.{put_rows, delete_rows}
use Rattle.layer_stack.proofs.Told.{told_more, tagged_kept, within_noted}
use Rattle.layer_stack.proofs.delta.Delta.delete.Goals as goal

pub invariant_of-self-2 : goal.invariant_of-self-2
invariant_of-self-2 c =
    let pushed : c.push.new.self.items ≡ c.self.inside.deleted.items ++ c.args.key ∷ [] = search rules in
    let at : c.len-at.result ≡ length (c.self.inside.deleted.items) = search rules in
    let long : length (c.push.new.self.items) ≡ length (c.self.inside.deleted.items) + 1 = ap length pushed ∙ length-append (c.self.inside.deleted.items) (c.args.key ∷ []) in
    let ok = subst (λ n. OnOk c.note_row.result (Adds c.self.inside.deletes.items c.args.term n c.note_row.new.runs.items)) at c.note_row.ensures.ok in
    let within = subst (λ (n : ℕ). AreWithin n c.note_row.new.runs.items) (sym long) (within_noted c.note_row.result (length (c.self.inside.deleted.items)) c.self.inside.deletes.items c.note_row.new.runs.items c.args.term ok c.note_row.ensures.err c.self.invariant.0) in
    (within, c.self.invariant.1)

pub returns-clause-ok : goal.returns-clause-ok
returns-clause-ok c =
    let pushed : c.push.new.self.items ≡ c.self.inside.deleted.items ++ c.args.key ∷ [] = search rules in
    let at : c.len-at.result ≡ length (c.self.inside.deleted.items) = search rules in
    let ok = subst (λ n. OnOk c.note_row.result (Adds c.self.inside.deletes.items c.args.term n c.note_row.new.runs.items)) at c.note_row.ensures.ok in
    on_ok_weaker c.note_row.result
    (λ adds.
    let step : from_log {R = place_cmp} (delete_rows c.note_row.new.runs.items (c.push.new.self.items)) ≡ finite.insert (from_log {R = place_cmp} (delete_rows c.self.inside.deletes.items (c.self.inside.deleted.items))) (place_of c.args.term c.args.key) tt =
    ap (λ xs. from_log {R = place_cmp} (delete_rows c.note_row.new.runs.items xs)) pushed
    ∙ ap (λ rows. from_log {R = place_cmp} rows) (told_more (c.self.inside.deleted.items) c.args.key (λ t (k : DocKey). (place_of t k, tt)) c.self.inside.deletes.items c.note_row.new.runs.items c.args.term adds c.self.invariant.0)
    ∙ from_log-push (delete_rows c.self.inside.deletes.items (c.self.inside.deleted.items)) (place_of c.args.term c.args.key) tt in
    (λ i. record { deletes = step i; puts = from_log (put_rows c.self.inside.puts.items c.self.inside.postings) }) ∙ ap (λ v. deleting v (place_of c.args.term c.args.key)) c.self.view_is)
    ok

pub returns-clause-err : goal.returns-clause-err
returns-clause-err c =
    let pushed : c.push.new.self.items ≡ c.self.inside.deleted.items ++ c.args.key ∷ [] = search rules in
    on_err_weaker c.note_row.result
    (λ same.
    let step : from_log {R = place_cmp} (delete_rows c.note_row.new.runs.items (c.push.new.self.items)) ≡ from_log {R = place_cmp} (delete_rows c.self.inside.deletes.items (c.self.inside.deleted.items)) =
    (λ i. from_log {R = place_cmp} (delete_rows (same i) (pushed i))) ∙ ap (λ rows. from_log {R = place_cmp} rows) (tagged_kept (c.self.inside.deleted.items) c.args.key (λ t (k : DocKey). (place_of t k, tt)) c.self.inside.deletes.items c.self.invariant.0) in
    (λ i. record { deletes = step i; puts = from_log (put_rows c.self.inside.puts.items c.self.inside.postings) }) ∙ c.self.view_is)
    c.note_row.ensures.err
