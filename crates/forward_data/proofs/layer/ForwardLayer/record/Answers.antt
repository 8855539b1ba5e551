use Rattle.std.proofs.Common.{rules, ◌≡◌, Option, Global, ◌∙◌, ap, sym}
use Rattle.std.specs.Option.{option_map}
use Rattle.std.specs.FinMap as finite
use Rattle.std.specs.declared.sync.Arc.{Arc}
use Rattle.forward_data.specs.declared.rows.RecordRows.{RecordRows}
use Rattle.forward_data.specs.Combined.{layer_of}
use Rattle.forward_data.specs.Records.{Records, records_over, under}
use Rattle.forward_data.proofs.Newest.{get-over}
use Rattle.forward_data.proofs.layer.ForwardLayer.record.Goals as goal

pub returns-in-Some : goal.returns-in-Some
returns-in-Some c =
    let l = c.self.inside in let rows : Records = l.rows.value in let base : Records = c.in-Some.base.value in
    let value : records_over base rows ≡ c.args.self.now = ap (λ (o : Option (Arc RecordRows Global)). layer_of rows (option_map (λ (b : Arc RecordRows Global). b.value) o)) (sym c.in-Some.is) ∙ c.self.view_is in
    let one : c.deref.result.now ≡ rows = search rules in let two : c.deref-in-Some.result.now ≡ base = search rules in
    let k = c.args.key.now in
    c.over.ensures ∙ (λ i. under ((c.record-own.ensures ∙ ap (λ (v : Records). finite.get v k) one) i) (finite.get (two i) k)) ∙ sym (get-over base rows k) ∙ ap (λ (v : Records). finite.get v k) value
