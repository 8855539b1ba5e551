use Rattle.std.proofs.Common.{ap, ◌∙◌, sym}
use Rattle.std.specs.FinMap as finite
use Rattle.std.specs.FinMap.Entries.{find}
use Rattle.forward_data.specs.Records.{record_cmp}
use Rattle.forward_data.proofs.rows.RecordRows.record_near.Goals as goal

pub returns : goal.returns
returns c =
    c.look_up_near.ensures.value ∙ ap (find record_cmp c.args.key.now) c.deref.ensures.value ∙ sym (finite.get-from_sorted record_cmp c.self.inside.rows.items c.args.key.now c.self.invariant.0) ∙ ap (λ records. finite.get records c.args.key.now) c.self.view_is
