use Rattle.std.proofs.Common.{rules, arith, ◌≡◌, ◌≤◌, ◌++◌, ◌∷◌, [], cond, length, take, Some, None, ap, ◌∙◌, sym}
use Rattle.std.specs.FinMap as finite
use Rattle.std.specs.Ordering.{eq_by_cmp}
use Rattle.std.proofs.lemmas.List.{take_more, take_all, with_items_is}
use Rattle.forward_data.specs.Combined.{is_among}
use Rattle.forward_data.specs.Records.{Records, record_cmp, record_of}
use Rattle.forward_data.proofs.Based.{patch_more}
use Rattle.forward_data.proofs.Order.{record_total}
use Rattle.forward_data.proofs.patch.patch.Goals as goal

pub loop-key-init : goal.loop-key-init
loop-key-init c = record {
  hints = c.in_ok-hints.ensures {u = tt};
  is = λ q. ap (λ (d : Records). finite.get d q) c.new-delta.ensures ∙ finite.get-empty record_cmp q;
}

pub loop-key-preserved : goal.loop-key-preserved
loop-key-preserved c =
    let layers = take c.args.count c.args.stack.now.0 in let es = c.args.keys.now in let i = c.loop-key.key-index in let e = c.loop-key-item.result in let old = c.loop-key.delta in
    let count : length c.deref_mut.result.now ≡ c.args.count = search rules in
    let long : length c.front_lookup-items.new.hints ≡ c.loop-key.hints.len = search (rules, arith) in
    let newest : c.in_ok-copy_of.field-0 ≡ record_of e.0 layers = c.in_ok-copy_of.ensures {u = tt} ∙ c.front_lookup-items.ensures.record ∙ ap (λ n. record_of e.0 (take n c.args.stack.now.0)) count in
    record {
      hints = ap length (with_items_is c.loop-key.hints c.front_lookup-items.new.hints long) ∙ c.front_lookup-items.ensures.hints ∙ count;
      is = λ q.
          ap (λ (d : Records). finite.get d q) c.in_ok-replace.ensures.ok ∙ finite.get-insert record_total old e.0 c.in_ok-copy_of.field-0 q ∙ ap (cond (eq_by_cmp record_cmp q e.0) (Some c.in_ok-copy_of.field-0)) (c.loop-key.invariant.is q)
          ∙ patch_more layers (take i es) e c.in_ok-copy_of.field-0 newest q
          ∙ ap (λ ks. cond (is_among q ks) (Some (record_of q layers)) None) (sym (take_more es i e c.loop-key-test.true ∙ ap (λ x. take i es ++ x ∷ []) (sym c.loop-key-item.is)));
    }

pub returns : goal.returns
returns c q =
    let layers = take c.args.count c.args.stack.now.0 in let es = c.args.keys.now in
    let whole : length es ≤ c.loop-key.key-index = omega (arith, c.loop-key-test.false) in
    c.loop-key.invariant.is q ∙ ap (λ ks. cond (is_among q ks) (Some (record_of q layers)) None) (take_all c.loop-key.key-index es whole)
