use Rattle.std.proofs.Common.{rules, ◌≡◌, [], refl, ap, ◌∙◌, sym}
use Rattle.std.specs.Option.{unwrap_or}
use Rattle.std.specs.FinMap as finite
use Rattle.forward_data.specs.Records.{record_cmp, record_key}
use Rattle.forward_data.proofs.Newest.{record_more}
use Rattle.forward_data.proofs.stack.ForwardStack.lookup.Goals as goal

pub loop-i-init : goal.loop-i-init
loop-i-init c = sym (ap (λ f. unwrap_or f []) (finite.get-empty record_cmp (record_key c.args.type_no c.args.id)))

pub loop-i-preserved : goal.loop-i-preserved
loop-i-preserved c =
    let key = record_key c.args.type_no c.args.id in let layers = c.args.self.now.0 in
    let layer = c.layer.result.now.value in
    let is : c.deref.result.now ≡ layer = search rules in
    let said = c.record.ensures ∙ ap (λ l. finite.get l key) is in
    c.newer-newest.ensures ∙ (λ i. unwrap_or (said i) (c.loop-i.invariant i)) ∙ sym (record_more key layers c.loop-i.i layer (finite.get layer key) c.layer.ensures refl)
