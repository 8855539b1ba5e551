use Rattle.std.proofs.Common.{◌≡◌, Some, ap, ◌∙◌}
use Rattle.std.specs.Option.{option_map}
use Rattle.std.proofs.lemmas.Option.{slice_get-map}
use Rattle.indexmap.specs.Layout.{set_value_at}
use Rattle.uni_table.specs.GraphRows.{is_live, written}
use Rattle.uni_table.specs.declared.graph.numbers.EdgeNo.{EdgeNo}
use Rattle.uni_table.specs.declared.graph.numbers.Slot.{Slot}
use Rattle.chained_rows.proofs.Places.{written-same}
use Rattle.uni_table.proofs.GraphPlaces.{entry-at}
use Rattle.uni_table.proofs.Results.{on_err}
use Rattle.uni_table.proofs.graph.edges.write_slot.Goals as goal

pub returns-in_ok-write-in-Some-clause-entries : goal.returns-in_ok-write-in-Some-clause-entries
returns-in_ok-write-in-Some-clause-entries c = λ n slot at.
    let es = c.args.edges.now.entries in
    let both : Some c.in-Some.slot.now ≡ Some slot = c.in-Some.ensures.value ∙ slice_get-map (λ (e : EdgeNo × Slot). e.1) es c.args.index ∙ ap (option_map (λ (e : EdgeNo × Slot). e.1)) at in
    let same : c.in-Some.slot.now ≡ slot = cc in
    ap (set_value_at es c.args.index) (c.in_ok-write-in-Some.ensures.ok ∙ ap (λ s. written s c.args.state c.args.end) same)

pub returns-in_ok-write-in-Some-clause-was : goal.returns-in_ok-write-in-Some-clause-was
returns-in_ok-write-in-Some-clause-was c = λ n slot at.
    let es = c.args.edges.now.entries in
    let both : Some c.in-Some.slot.now ≡ Some slot = c.in-Some.ensures.value ∙ slice_get-map (λ (e : EdgeNo × Slot). e.1) es c.args.index ∙ ap (option_map (λ (e : EdgeNo × Slot). e.1)) at in
    let same : c.in-Some.slot.now ≡ slot = cc in
    c.is_live-was.ensures ∙ ap (λ s. is_live s.state) (c.slot.ensures ∙ same)

pub returns-in_err-write-in-Some-clause-err : goal.returns-in_err-write-in-Some-clause-err
returns-in_err-write-in-Some-clause-err c =
    let es = c.args.edges.now.entries in
    let e = entry-at es c.args.index c.requires in
    let both : Some c.in-Some.slot.now ≡ Some e.0.1 = c.in-Some.ensures.value ∙ slice_get-map (λ (x : EdgeNo × Slot). x.1) es c.args.index ∙ ap (option_map (λ (x : EdgeNo × Slot). x.1)) e.1 in
    let same : c.in-Some.slot.now ≡ e.0.1 = cc in
    on_err c.from_residual.result (ap (set_value_at es c.args.index) (c.in_err-write-in-Some.ensures.err ∙ same) ∙ written-same es c.args.index e.0.0 e.0.1 e.1)
