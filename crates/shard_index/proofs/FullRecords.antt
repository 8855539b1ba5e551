-- Records none of which is empty.
use Rattle.std.proofs.Common.{◌≡◌, List, [], ◌∷◌, Option, None, Some, refl, ◌∙◌, ap}
use Rattle.std.specs.FinMap as finite
use Rattle.forward_data.specs.declared.record.ForwardItem.{ForwardItem}
use Rattle.forward_data.specs.declared.record.RecordKey.{RecordKey}
use Rattle.forward_data.specs.Records.{Records, record_cmp, records_over, AreFull, under}
use Rattle.forward_data.proofs.Newest.{get-over}
use Rattle.forward_data.proofs.Order.{record_total, record_apart}

-- over nothing they stand for themselves
pub records_over_nothing : (records : Records) → AreFull records → records_over finite.empty records ≡ records
records_over_nothing records full =
    finite.same_map record_total record_apart (records_over finite.empty records) records
    (λ q. get-over finite.empty records q ∙ ap (under (finite.get records q)) (finite.get-empty record_cmp q) ∙ by q (finite.get records q) refl)
  where
    by : (q : RecordKey) (f : Option (List ForwardItem)) → finite.get records q ≡ f → under f None ≡ f
    by q None e = refl
    by q (Some []) e = absurd (full q e)
    by q (Some (item ∷ items)) e = refl

-- a layer without records changes none
pub records_unchanged : (records : Records) → records_over records finite.empty ≡ records
records_unchanged records =
    finite.same_map record_total record_apart (records_over records finite.empty) records
    (λ q. get-over records finite.empty q ∙ ap (λ f. under f (finite.get records q)) (finite.get-empty record_cmp q))
