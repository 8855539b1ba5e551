use Rattle.std.proofs.Common.{rules, arith, ◌≡◌, ◌<◌, ◌≤◌, ◌++◌, ◌∷◌, [], T, List, map, take, length, is_some, Bor, ap, ◌∙◌, sym, subst}
use Rattle.std.specs.FinMap as finite
use Rattle.std.specs.FinMap.{is_sorted}
use Rattle.std.proofs.lemmas.List.{take_more, take_all}
use Rattle.layer_base.specs.Changes.{after}
use Rattle.forward_data.specs.declared.record.ForwardItem.{ForwardItem}
use Rattle.forward_data.specs.declared.record.RecordKey.{RecordKey}
use Rattle.forward_data.specs.Combined.{counted}
use Rattle.forward_data.specs.Records.{record_cmp, replacing}
use Rattle.forward_data.proofs.Based.{count_more, counted_most, earlier_apart, is_some-map, some_known}
use Rattle.forward_data.proofs.rows.RecordRows.entries_over.Goals as goal

pub counted-count-requires-clause-known : goal.counted-count-requires-clause-known
counted-count-requires-clause-known c there =
    let base = c.args.base.now in let items = c.deref-key-items.result.now in let i = c.loop-key.key-index in let e = c.loop-key-item.result in
    let sorted = subst (λ (rs : List (RecordKey × List ForwardItem)). T (is_sorted record_cmp rs)) (sym c.deref-key-items.ensures.value) c.self.invariant.0 in
    let apart = earlier_apart items i e sorted c.loop-key-test.true c.loop-key-item.is in
    let known : c.is_some.result ≡ is_some (finite.get base e.0) = c.is_some.ensures ∙ sym (is_some-map (λ (r : Bor (List ForwardItem)). r.now) c.record.result) ∙ ap is_some c.record.ensures in
    let some : 0 < finite.len (after base (map replacing (take i items))) = some_known (take i items) e base apart (sym known ∙ there) in
    omega (arith, some, c.loop-key.invariant.counts)

pub loop-key-preserved : goal.loop-key-preserved
loop-key-preserved c =
    let base = c.args.base.now in let items = c.deref-key-items.result.now in let i = c.loop-key.key-index in let e = c.loop-key-item.result in
    let sorted = subst (λ (rs : List (RecordKey × List ForwardItem)). T (is_sorted record_cmp rs)) (sym c.deref-key-items.ensures.value) c.self.invariant.0 in
    let apart = earlier_apart items i e sorted c.loop-key-test.true c.loop-key-item.is in
    let known : c.is_some.result ≡ is_some (finite.get base e.0) = c.is_some.ensures ∙ sym (is_some-map (λ (r : Bor (List ForwardItem)). r.now) c.record.result) ∙ ap is_some c.record.ensures in
    let most = counted_most c.is_some.result e.1 c.loop-key.count in
    record {
      counts = c.counted-count.ensures ∙ (λ j. counted (known j) e.1 (c.loop-key.invariant.counts j)) ∙ sym (count_more (take i items) e base apart)
          ∙ sym (ap (λ rs. finite.len (after base (map replacing rs))) (take_more items i e c.loop-key-test.true ∙ ap (λ x. take i items ++ x ∷ []) (sym c.loop-key-item.is)));
      few = omega (arith, most, c.counted-count.ensures, c.loop-key.invariant.few);
    }

pub returns-clause-entries : goal.returns-clause-entries
returns-clause-entries c =
    let base = c.args.base.now in let items = c.deref-key-items.result.now in
    let whole : take c.loop-key.key-index items ≡ items = take_all c.loop-key.key-index items (omega (arith, c.loop-key-test.false)) in
    let own : items ≡ finite.entries c.args.self.now = c.deref-key-items.ensures.value ∙ sym (finite.entries-from_sorted record_cmp c.self.inside.rows.items c.self.invariant.0) ∙ ap finite.entries c.self.view_is in
    c.loop-key.invariant.counts ∙ ap (λ rs. finite.len (after base (map replacing rs))) (whole ∙ own)

pub returns-clause-few : goal.returns-clause-few
returns-clause-few c =
    let items = c.deref-key-items.result.now in
    let own : length items ≡ finite.len c.args.self.now = ap length (c.deref-key-items.ensures.value ∙ sym (finite.entries-from_sorted record_cmp c.self.inside.rows.items c.self.invariant.0) ∙ ap finite.entries c.self.view_is) ∙ sym (finite.len-entries c.args.self.now) in
    let within : c.loop-key.key-index ≤ length items = search (rules, arith) in
    omega (arith, own, within, c.loop-key.invariant.few, c.requires)
