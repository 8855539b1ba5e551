use Rattle.std.proofs.Common.{rules, arith, ◌≡◌, [], take, length, refl, ap, ◌∙◌, sym}
use Rattle.std.specs.Option.{unwrap_or}
use Rattle.std.specs.FinMap as finite
use Rattle.forward_data.specs.Records.{record_cmp, record_of}
use Rattle.forward_data.proofs.Newest.{record_more}
use Rattle.forward_data.proofs.stack.ForwardStack.front_lookup.Goals as goal

pub loop-i-init : goal.loop-i-init
loop-i-init c = record {
  newest = sym (ap (λ f. unwrap_or f []) (finite.get-empty record_cmp (c.args.key.now)));
  hints = search rules;
}

pub loop-i-preserved : goal.loop-i-preserved
loop-i-preserved c =
    let key = c.args.key.now in let layers = c.args.self.now.0 in
    let layer = c.layer.result.now.value in
    let is : c.deref.result.now ≡ layer = search rules in
    let said = c.record_near.ensures ∙ ap (λ l. finite.get l key) is in
    record {
      newest = c.newer-newest.ensures ∙ (λ i. unwrap_or (said i) (c.loop-i.invariant.newest i)) ∙ sym (record_more key layers c.loop-i.i layer (finite.get layer key) c.layer.ensures refl);
      hints = search (rules, arith);
    }

pub returns-clause-record : goal.returns-clause-record
returns-clause-record c =
    let all : c.loop-i.i ≡ length c.args.hints.now = omega (arith, c.loop-i-test.false, c.loop-i.auto.i-end, c.loop-i.invariant.hints) in
    c.loop-i.invariant.newest ∙ ap (λ n. record_of c.args.key.now (take n c.args.self.now.0)) all
