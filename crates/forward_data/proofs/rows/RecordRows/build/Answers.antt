use Rattle.std.proofs.Common.{rules, ◌≡◌, ap, ◌∙◌, sym, subst}
use Rattle.std.specs.Prelude.{T}
use Rattle.std.specs.FinMap as finite
use Rattle.std.specs.FinMap.{is_sorted}
use Rattle.layer_base.specs.Layers.{from_log}
use Rattle.layer_base.proofs.Tables.{from_sorted-entries}
use Rattle.forward_data.specs.Combined.{are_kept}
use Rattle.forward_data.specs.Records.{record_cmp}
use Rattle.forward_data.proofs.rows.RecordRows.build.Goals as goal

pub invariant_of-result : goal.invariant_of-result
invariant_of-result c =
    let last : c.in_ok-rows.rows.items ≡ finite.entries (from_log {R = record_cmp} c.delta.inside.log.items) = search rules in (
      subst (λ rows. T (is_sorted record_cmp rows)) (sym last) (finite.entries_sorted (from_log {R = record_cmp} c.delta.inside.log.items)),
      λ told. subst are_kept c.deref.ensures.value (c.are_kept-is_full.ensures told),
    )

pub returns : goal.returns
returns c =
    let last : c.in_ok-rows.rows.items ≡ finite.entries (from_log {R = record_cmp} c.delta.inside.log.items) = search rules in
    ap (finite.from_sorted {R = record_cmp}) last ∙ from_sorted-entries (from_log {R = record_cmp} c.delta.inside.log.items) ∙ c.delta.view_is
