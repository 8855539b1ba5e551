use Rattle.std.proofs.Common.{arith, ◌≡◌, ◌<◌, List, length, map, take, sym, ap, ◌∙◌}
use Rattle.layer_stack.specs.declared.directory.Span.{Span}
use Rattle.layer_stack.specs.declared.place.TermKey.{TermKey}
use Rattle.layer_stack.specs.Postings.{putting_rows}
use Rattle.layer_stack.specs.Spans.{put_rows, spanned}
use Rattle.layer_stack.proofs.Appended.{list_rows, putting_rows-append, one_run}
use Rattle.layer_stack.proofs.Combined.{put_row}
use Rattle.layer_stack.proofs.delta.Delta.append_puts.Goals as goal

pub loop-at-preserved : goal.loop-at-preserved
loop-at-preserved c =
    let runs : List (TermKey × Span) = c.args.runs.now in let at = c.loop-at.at in let run = c.index-runs-at.result in
    let below : at < length runs = omega (arith, c.loop-at-test.true, c.loop-at.auto.at-end) in
    let more = map (put_row run.0) (spanned run.1 c.args.postings.now) in
    c.in_ok-put_run.ensures {u = tt} ∙ list_rows run.0 (spanned run.1 c.args.postings.now) c.loop-at.self ∙ ap (putting_rows more) c.loop-at.invariant
    ∙ sym (putting_rows-append (put_rows (take at runs) c.args.postings.now) more c.args.self.now)
    ∙ ap (λ rs. putting_rows rs c.args.self.now) (sym (one_run runs at run below c.index-runs-at.is put_row c.args.postings.now))
