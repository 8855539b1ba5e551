use Rattle.std.proofs.Common.{rules, arith, ◌≡◌, length, ap, ◌∙◌, sym}
use Rattle.std.specs.FinMap as finite
use Rattle.forward_data.specs.Records.{record_cmp}
use Rattle.forward_data.proofs.rows.RecordRows.len.Goals as goal

pub returns-clause-len : goal.returns-clause-len
returns-clause-len c =
    let rows = c.self.inside.rows.items in
    let count : c.len.result ≡ length rows = search rules in
    count ∙ sym (finite.len-entries (finite.from_sorted {R = record_cmp} rows) ∙ ap length (finite.entries-from_sorted record_cmp rows c.self.invariant.0)) ∙ ap finite.len c.self.view_is

pub returns-clause-few : goal.returns-clause-few
returns-clause-few c = omega (arith, c.len.ensures, c.self.inside.rows.ok.1, c.self.inside.rows.small)
