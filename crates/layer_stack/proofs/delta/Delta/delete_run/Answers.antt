use Rattle.std.proofs.Common.{rules, ◌≡◌, ◌++◌, ◌∷◌, [], length, map, List, refl, ap, ◌∙◌, sym}
use Rattle.std.proofs.lemmas.Result.{on_ok_weaker}
use Rattle.layer_base.specs.Layers.{from_log}
use Rattle.layer_stack.specs.declared.directory.Span.{Span}
use Rattle.layer_stack.specs.declared.place.TermKey.{TermKey}
use Rattle.layer_stack.specs.Places.{place_cmp}
use Rattle.layer_stack.specs.Postings.{PostingChanges, deleting_rows}
use Rattle.layer_stack.specs.Runs.{span_at}
use Rattle.layer_stack.specs.Spans.{delete_row, delete_rows, put_rows, spanned}
use Rattle.layer_stack.proofs.Appended.{log_after}
use Rattle.layer_stack.proofs.Told.{tagged_run}
use Rattle.layer_stack.proofs.delta.Delta.delete_run.Goals as goal

pub returns : goal.returns
returns c =
    let old = c.self.inside.deleted.items in let runs : List (TermKey × Span) = c.self.inside.deletes.items in
    let t = c.args.term.now in let ks = spanned c.args.span c.args.keys.now in
    let pushed : c.extend_from_slice.new.self.items ≡ old ++ ks = (c.in_ok-extend_from_slice.ensures {u = tt}).items in
    let from : c.len-from.result ≡ length old = search rules in
    let to : c.len-to.result ≡ length (old ++ ks) = search rules ∙ ap length pushed in
    on_ok_weaker c.add_run.result
    (λ added.
    let rows : delete_rows c.add_run.new.runs.items c.extend_from_slice.new.self.items ≡ delete_rows (runs ++ (t, span_at (length old) (length (old ++ ks))) ∷ []) (old ++ ks) =
    (λ i. delete_rows (added i) (pushed i)) ∙ (λ i. delete_rows (runs ++ (t, span_at (from i) (to i)) ∷ []) (old ++ ks)) in
    let step = ap (from_log {R = place_cmp}) (rows ∙ tagged_run delete_row runs t old ks c.self.invariant.0) ∙ log_after (delete_rows runs old) (map (delete_row t) ks) in
    (λ i. record { deletes = step i; puts = from_log (put_rows c.self.inside.puts.items c.self.inside.postings) }) ∙ ap (deleting_rows (map (delete_row t) ks)) c.self.view_is)
    c.add_run.ensures.ok
