-- The order of records is total, and tells all of them apart.
use Rattle.std.specs.Cmp.{IsTotalOrder, then_total, on_total, nat_cmp_total}
use Rattle.std.specs.Ordering.{nat_cmp}
use Rattle.std.proofs.lemmas.Map.Lookups.{exact_unsigned}
use Rattle.layer_base.specs.Layers.{TellsApart}
use Rattle.layer_base.proofs.Sorted.{both_equal}
use Rattle.forward_data.specs.declared.record.RecordKey.{RecordKey}
use Rattle.forward_data.specs.Records.{record_cmp}

pub record_total : IsTotalOrder record_cmp
record_total = then_total (on_total (λ (k : RecordKey). k.type_no) nat_cmp_total) (on_total (λ (k : RecordKey). k.id) nat_cmp_total)

pub record_apart : TellsApart record_cmp
record_apart a b e =
    let both = both_equal (nat_cmp a.type_no b.type_no) (nat_cmp a.id b.id) e in
    let types = exact_unsigned a.type_no b.type_no both.0 in
    let ids = exact_unsigned a.id b.id both.1 in
    λ i. record { type_no = types i; id = ids i }
