use Rattle.std.proofs.Common.{ap, ◌∙◌, sym}
use Rattle.std.specs.FinMap as finite
use Rattle.forward_data.specs.Records.{record_cmp}
use Rattle.forward_data.proofs.Based.{kept_full}
use Rattle.forward_data.proofs.rows.RecordRows.is_full.Goals as goal

pub returns : goal.returns
returns c told k e =
    let rows = c.self.inside.rows.items in
    kept_full rows (c.self.invariant.1 told) k (sym (finite.get-from_sorted record_cmp rows k c.self.invariant.0) ∙ ap (λ v. finite.get v k) c.self.view_is ∙ e)
