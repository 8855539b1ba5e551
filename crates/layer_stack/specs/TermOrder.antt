-- The order of terms is total, and tells them apart; and what of a term is hashed.
use Rattle.std.specs.Prelude.{◌≡◌, ◌++◌, true}
use Rattle.std.specs.Cmp.{IsTotalOrder, Equal-is, then_total, on_total, nat_cmp_total}
use Rattle.std.specs.Hash as fed
use Rattle.std.specs.Ordering.{nat_cmp, eq_by_cmp}
use Rattle.std.proofs.Common.{ap}
use Rattle.std.proofs.lemmas.Map.Lookups.{exact_unsigned}
use Rattle.layer_base.specs.Layers.{TellsApart}
use Rattle.layer_base.proofs.Sorted.{both_equal}
use Rattle.layer_stack.specs.Places.{term_cmp}
use Rattle.layer_stack.specs.declared.place.TermKey.{TermKey}
use Rattle.uni_base.specs.EdgeOrder.{key_cmp, key_cmp-total}
use Rattle.uni_base.specs.KeyHash.{exact_keys, key_writes}

pub term_total : IsTotalOrder term_cmp
term_total = then_total (on_total (λ (t : TermKey). t.type_no) nat_cmp_total) (on_total (λ (t : TermKey). t.key) key_cmp-total)

pub term_apart : TellsApart term_cmp
term_apart a b e =
    let both = both_equal (nat_cmp a.type_no b.type_no) (key_cmp a.key b.key) e in
    let types = exact_unsigned a.type_no b.type_no both.0 in
    let keys = exact_keys a.key b.key both.1 in
    λ i. record { type_no = types i; key = keys i }

-- terms that the order does not tell apart are the same
pub exact_terms : (a b : TermKey) → eq_by_cmp term_cmp a b ≡ true → a ≡ b
exact_terms a b same = term_apart a b ((Equal-is (term_cmp a b)).0 same)

-- the number of its type, and what is hashed of its key
abbrev pub term_writes : TermKey → fed.HashWrites
term_writes term = fed.u16 term.type_no ++ key_writes term.key

-- so equal terms are hashed alike
pub term_alike : (a b : TermKey) → eq_by_cmp term_cmp a b ≡ true → term_writes a ≡ term_writes b
term_alike a b same = ap term_writes (exact_terms a b same)
