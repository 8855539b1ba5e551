use Rattle.std.proofs.Common.{arith, ◌≡◌, ◌<◌, List, length, map, take, sym, ap, ◌∙◌}
use Rattle.layer_stack.specs.declared.directory.Span.{Span}
use Rattle.layer_stack.specs.declared.place.TermKey.{TermKey}
use Rattle.layer_stack.specs.Postings.{deleting_rows}
use Rattle.layer_stack.specs.Spans.{delete_row, delete_rows, spanned}
use Rattle.layer_stack.proofs.Appended.{deleting_rows-append, one_run}
use Rattle.layer_stack.proofs.delta.Delta.append_deletes.Goals as goal

pub loop-at-preserved : goal.loop-at-preserved
loop-at-preserved c =
    let runs : List (TermKey × Span) = c.args.runs.now in let at = c.loop-at.at in let run = c.index-runs-at.result in
    let below : at < length runs = omega (arith, c.loop-at-test.true, c.loop-at.auto.at-end) in
    let more = map (delete_row run.0) (spanned run.1 c.args.keys.now) in
    c.in_ok-delete_run.ensures {u = tt} ∙ ap (deleting_rows more) c.loop-at.invariant
    ∙ sym (deleting_rows-append (delete_rows (take at runs) c.args.keys.now) more c.args.self.now)
    ∙ ap (λ rs. deleting_rows rs c.args.self.now) (sym (one_run runs at run below c.index-runs-at.is delete_row c.args.keys.now))
