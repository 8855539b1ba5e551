use Rattle.std.proofs.Common.{rules, ◌≡◌, ◌++◌, ◌∷◌, [], length, List, refl, ap, ◌∙◌, sym}
use Rattle.std.proofs.lemmas.Result.{on_ok_weaker}
use Rattle.layer_base.specs.Layers.{from_log}
use Rattle.layer_stack.specs.declared.directory.Span.{Span}
use Rattle.layer_stack.specs.declared.place.TermKey.{TermKey}
use Rattle.layer_stack.specs.Places.{place_cmp}
use Rattle.layer_stack.specs.Postings.{PostingChanges, putting_list}
use Rattle.layer_stack.specs.Runs.{span_at}
use Rattle.layer_stack.specs.Spans.{delete_rows, put_rows, spanned}
use Rattle.layer_stack.proofs.Combined.{list_deletes, log_list, put_row}
use Rattle.layer_stack.proofs.Told.{tagged_run}
use Rattle.layer_stack.proofs.delta.Delta.put_run.Goals as goal

pub returns : goal.returns
returns c =
    let old = c.self.inside.postings in let runs : List (TermKey × Span) = c.self.inside.puts.items in
    let t = c.args.term.now in let ps = spanned c.args.span c.args.postings.now in
    let pushed : c.append.new.self ≡ old ++ ps = c.in_ok-append.ensures.ok in
    let from : c.len-from.result ≡ length old = search rules in
    let to : c.len-to.result ≡ length (old ++ ps) = c.len-to.ensures ∙ ap length pushed in
    let before : PostingChanges = record { deletes = from_log (delete_rows c.self.inside.deletes.items c.self.inside.deleted.items); puts = from_log (put_rows runs old) } in
    on_ok_weaker c.add_run.result
    (λ added.
    let rows : put_rows c.add_run.new.runs.items c.append.new.self ≡ put_rows (runs ++ (t, span_at (length old) (length (old ++ ps))) ∷ []) (old ++ ps) =
    (λ i. put_rows (added i) (pushed i)) ∙ (λ i. put_rows (runs ++ (t, span_at (from i) (to i)) ∷ []) (old ++ ps)) in
    let step : from_log {R = place_cmp} (put_rows c.add_run.new.runs.items c.append.new.self) ≡ (putting_list t ps before).puts =
    ap (from_log {R = place_cmp}) (rows ∙ tagged_run put_row runs t old ps c.self.invariant.1) ∙ log_list t ps (put_rows runs old) before refl in
    let same = sym (list_deletes t ps before) in
    (λ i. record { deletes = same i; puts = step i }) ∙ ap (putting_list t ps) c.self.view_is)
    c.add_run.ensures.ok
