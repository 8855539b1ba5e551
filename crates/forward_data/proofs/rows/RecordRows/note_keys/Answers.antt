use Rattle.std.proofs.Common.{◌≡◌, ◌++◌, map, ap, ◌∙◌, sym, subst}
use Rattle.std.specs.FinMap as finite
use Rattle.std.specs.Result.{OnOk}
use Rattle.layer_base.specs.Among.{bare}
use Rattle.forward_data.specs.Records.{record_cmp}
use Rattle.forward_data.proofs.rows.RecordRows.note_keys.Goals as goal

pub returns : goal.returns
returns c =
    let old = c.args.keys.now.items in let rows = c.self.inside.rows.items in
    subst (λ items. OnOk c.note_rows.result (c.note_rows.new.keys.items ≡ items))
    (ap (λ rs. old ++ map bare rs) (c.deref.ensures.value ∙ sym (finite.entries-from_sorted record_cmp rows c.self.invariant.0)) ∙ ap (λ v. old ++ map bare (finite.entries v)) c.self.view_is) c.note_rows.ensures
