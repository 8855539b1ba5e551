use Rattle.std.proofs.Common.{◌≡◌, ◌++◌, ◌∷◌, [], take, length, ap, ◌∙◌, sym}
use Rattle.std.proofs.lemmas.List.{take_more}
use Rattle.forward_data.specs.Combined.{putting_record, putting_records}
use Rattle.forward_data.specs.Records.{record_of}
use Rattle.forward_data.proofs.Combined.{records_put}
use Rattle.forward_data.proofs.combine.put_records.Goals as goal

pub loop-key-preserved : goal.loop-key-preserved
loop-key-preserved c =
    let layers = take (length c.args.hints.now) c.args.stack.now.0 in let es = c.args.keys.now in let i = c.loop-key.key-index in let e = c.loop-key-item.result in let old = c.args.delta.now in
    let newest : c.front_lookup.result.now ≡ record_of e.0 layers = c.front_lookup.ensures.record ∙ ap (λ n. record_of e.0 (take n c.args.stack.now.0)) c.loop-key.invariant.hints in
    record {
      records = c.in_ok-put_record.ensures {u = tt} ∙ (λ j. putting_record e.0 (newest j) (c.loop-key.invariant.records j))
          ∙ sym (ap (λ xs. putting_records layers xs old) (take_more es i e c.loop-key-test.true ∙ ap (λ x. take i es ++ x ∷ []) (sym c.loop-key-item.is)) ∙ records_put layers (take i es) e old);
      hints = c.front_lookup.ensures.hints ∙ c.loop-key.invariant.hints;
    }
