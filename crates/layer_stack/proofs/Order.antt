-- The order of terms and places is total, and tells all of them apart.
use Rattle.std.specs.Cmp.{IsTotalOrder, then_total, on_total}
use Rattle.uni_base.specs.RankOrder.{doc_cmp}
use Rattle.uni_base.proofs.RankedLemmas.{doc_total, exact_key}
use Rattle.layer_base.specs.Layers.{TellsApart}
use Rattle.layer_base.proofs.Sorted.{both_equal}
use Rattle.layer_stack.specs.declared.place.Place.{Place}
use Rattle.layer_stack.specs.Places.{term_cmp, place_cmp}
pub use Rattle.layer_stack.specs.TermOrder.{term_total, term_apart}

pub place_total : IsTotalOrder place_cmp
place_total = then_total (on_total (λ (p : Place). p.term) term_total) (on_total (λ (p : Place). p.key) doc_total)

pub place_apart : TellsApart place_cmp
place_apart a b e =
    let both = both_equal (term_cmp a.term b.term) (doc_cmp a.key b.key) e in
    let terms = term_apart a.term b.term both.0 in
    let keys = exact_key a.key b.key both.1 in
    λ i. record { term = terms i; key = keys i }
