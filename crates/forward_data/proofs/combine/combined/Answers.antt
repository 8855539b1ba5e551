use Rattle.std.proofs.Common.{rules, arith, ◌≡◌, ◌+◌, ◌-◌, ◌++◌, ◌∷◌, [], List, cond, false, length, take, drop, get_or, ap, ◌∙◌, sym, subst}
use Rattle.std.proofs.lemmas.List.{take_more, take_all, with_items_is}
use Rattle.forward_data.specs.declared.record.ForwardItem.{ForwardItem}
use Rattle.forward_data.specs.declared.record.RecordKey.{RecordKey}
use Rattle.forward_data.specs.Combined.{is_among, putting_record, putting_records}
use Rattle.forward_data.specs.Records.{Records, record_cmp, record_of, records_of}
use Rattle.layer_base.proofs.Among.{is_done}
use Rattle.forward_data.proofs.Combined.{Has, done_start, done_records, done_row, all_done}
use Rattle.forward_data.proofs.combine.combined.Goals as goal

pub loop-key-init : goal.loop-key-init
loop-key-init c =
    let layers = take c.args.count c.args.stack.now.0 in
    record {
      within = omega arith;
      hints = c.in_ok-hints.ensures {u = tt};
      has = subst (λ (d : Records). Has (records_of layers) (is_done record_cmp {X = List ForwardItem} c.args.changed.now 0 []) d) (sym c.new-delta.ensures) (done_start layers c.args.changed.now);
    }

pub loop-key-preserved : goal.loop-key-preserved
loop-key-preserved c =
    let layers = take c.args.count c.args.stack.now.0 in let changed = c.args.changed.now in let rows = c.args.rows.now in
    let at = c.loop-key.at in let to = c.first_after-to.result in let i = c.loop-key.key-index in let e = c.loop-key-item.result in let d1 = c.put_records.new.delta in
    let here : get_or rows i e ≡ e = sym c.loop-key-item.is in
    let alone : is_among e.0 changed ≡ false → e.1 ≡ record_of e.0 layers =
    subst (λ (x : RecordKey × List ForwardItem). is_among x.0 changed ≡ false → x.1 ≡ record_of x.0 layers) here (c.requires.alone.each i e c.loop-key-test.true) in
    let count : length c.deref_mut.result.now ≡ c.args.count = search rules in
    let long : length c.put_records.new.hints ≡ c.loop-key.hints.len = search (rules, arith) in
    let records : d1 ≡ putting_records layers (take (to - at) (drop at changed)) c.loop-key.delta =
    c.in_ok-put_records.ensures.records ∙ ap (λ n. putting_records (take n c.args.stack.now.0) (take (to - at) (drop at changed)) c.loop-key.delta) count in
    let has = subst (λ (d : Records). Has (records_of layers) (is_done record_cmp changed to (take i rows)) d) (sym records) (done_records layers changed at to (take i rows) c.loop-key.delta c.first_after-to.ensures.within.0 c.first_after-to.ensures.within.1 c.loop-key.invariant.has) in
    let more : take i rows ++ e ∷ [] ≡ take (i + 1) rows = sym (take_more rows i e c.loop-key-test.true ∙ ap (λ x. take i rows ++ x ∷ []) here) in
    let put : c.put_unchanged.new.delta ≡ cond (is_among e.0 changed) d1 (putting_record e.0 e.1 d1) =
    c.in_ok-put_unchanged.ensures {u = tt} ∙ ap (λ (items : List ForwardItem). cond (is_among e.0 changed) d1 (putting_record e.0 items d1)) c.as_slice.ensures in
    record {
      within = c.first_after-to.ensures.within.1;
      hints = ap length (with_items_is c.loop-key.hints c.put_records.new.hints long) ∙ c.put_records.ensures.hints ∙ count;
      has = subst (λ (d : Records). Has (records_of layers) (is_done record_cmp changed to (take (i + 1) rows)) d) (sym put)
          (subst (λ (rs : List (RecordKey × List ForwardItem)). Has (records_of layers) (is_done record_cmp changed to rs) (cond (is_among e.0 changed) d1 (putting_record e.0 e.1 d1))) more
          (done_row layers changed to (take i rows) e d1 alone has));
    }

pub returns : goal.returns
returns c =
    let layers = take c.args.count c.args.stack.now.0 in let changed = c.args.changed.now in let rows = c.args.rows.now in
    let at = c.loop-key.at in let all = length changed in let i = c.loop-key.key-index in
    let count : length c.deref_mut-2.result.now ≡ c.args.count = search rules in
    let records : c.put_records-2.new.delta ≡ putting_records layers (take (all - at) (drop at changed)) c.loop-key.delta =
    c.in_ok-put_records-2.ensures.records ∙ ap (λ n. putting_records (take n c.args.stack.now.0) (take (all - at) (drop at changed)) c.loop-key.delta) count in
    let has = subst (λ (d : Records). Has (records_of layers) (is_done record_cmp changed all (take i rows)) d) (sym records) (done_records layers changed at all (take i rows) c.loop-key.delta c.loop-key.invariant.within (omega arith) c.loop-key.invariant.has) in
    let whole : take i rows ≡ rows = take_all i rows (omega (arith, c.loop-key-test.false)) in
    all_done layers changed all rows c.put_records-2.new.delta (take_all all changed (omega arith)) c.requires.alone
    (subst (λ (rs : List (RecordKey × List ForwardItem)). Has (records_of layers) (is_done record_cmp changed all rs) c.put_records-2.new.delta) whole has)
