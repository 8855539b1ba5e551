use Rattle.std.proofs.Common.{rules, ◌≡◌, sym, ap, ◌∙◌}
use Rattle.std.proofs.lemmas.Result.{on_ok_weaker}
use Rattle.layer_base.proofs.Tables.{put_all-log}
use Rattle.layer_stack.specs.Postings.{deleting_rows, joined, putting_rows}
use Rattle.layer_stack.specs.Spans.{delete_rows, put_rows}
use Rattle.layer_stack.proofs.Order.{place_total, place_apart}
use Rattle.layer_stack.proofs.delta.Delta.append.Goals as goal

pub returns : goal.returns
returns c =
    let old = c.args.self.now in
    let deletes = delete_rows c.later.inside.deletes.items c.later.inside.deleted.items in
    let puts = put_rows c.later.inside.puts.items c.later.inside.postings in
    let deleted : c.append_deletes.new.self ≡ deleting_rows deletes old = search rules in
    on_ok_weaker c.append_puts.result
    (λ put.
    search rules ∙ ap (putting_rows puts) deleted
    ∙ (λ i. record { deletes = sym (put_all-log place_total place_apart deletes old.deletes) i; puts = sym (put_all-log place_total place_apart puts old.puts) i })
    ∙ ap (joined old) c.later.view_is)
    c.append_puts.ensures
