-- Sources and edges that are compared as equal are the same.
use Rattle.std.specs.Prelude.{ℕ, ◌≡◌, ◌-◌, ◌==◌, ◌&&◌, Bool, true, false, not, nat_lt, refl}
use Rattle.std.specs.declared.cmp.Ordering.{Ordering}
use Rattle.std.specs.declared.cmp.Ordering.TheVariants.{Less, Equal, Greater}
use Rattle.std.specs.Cmp.{IsTotalOrder}
use Rattle.std.specs.Ordering.{nat_cmp, ordering_then, is_eq}
use Rattle.std.proofs.lemmas.Bool.Decides.{nat_tests}
use Rattle.std.proofs.Common.{arith}
use Rattle.std.proofs.lemmas.Cmp.{on_total, then_total, nat_cmp_total}
use Rattle.std.proofs.lemmas.Map.Lookups.{CmpEqualImpliesEq, exact_unsigned}
use Rattle.uni_base.specs.declared.edge.Key.{Key}
use Rattle.uni_base.specs.declared.edge.Key.TheVariants.{Id, Word}
use Rattle.uni_base.specs.EdgeOrder.{edge_cmp, key_cmp, key_cmp-total}
use Rattle.uni_base.specs.KeyHash.{exact_keys}
use Rattle.uni_table.specs.declared.graph.numbers.Source.{Source}

-- whether two are the same type and key
abbrev pub source_eq : Source → Source → Bool
source_eq a b = a.type_no == b.type_no && is_eq (key_cmp a.key b.key)

-- whether a number of a source is noted at a place: that of the id of its key, if there are so many ids, and the
-- number counted from 1 is one of 32 bits
abbrev pub is_noted_at : ℕ → Key → ℕ → ℕ → Bool
is_noted_at ids (Id id) number place = (place == id - 1) && (nat_lt place ids && not (number == 4294967295))
is_noted_at ids (Word text) number place = false

is_equal : (o : Ordering) → is_eq o ≡ true → o ≡ Equal
is_equal Less e = cc
is_equal Equal e = refl
is_equal Greater e = cc

pub exact_sources : (a b : Source) → source_eq a b ≡ true → a ≡ b
exact_sources a b same = by (a.type_no == b.type_no) refl same
  where
    by : (t : Bool) → (a.type_no == b.type_no) ≡ t → (t && is_eq (key_cmp a.key b.key)) ≡ true → a ≡ b
    by true at rest =
        let types : a.type_no ≡ b.type_no = grind (arith, nat_tests) in
        let keys : a.key ≡ b.key = exact_keys a.key b.key (is_equal (key_cmp a.key b.key) rest) in
        λ j. record { type_no = types j; key = keys j }
    by false at rest = cc

-- the order of edges is total
pub edge_total : IsTotalOrder edge_cmp
edge_total = then_total (on_total (λ e. e.type_no) nat_cmp_total) (then_total (on_total (λ e. e.key) key_cmp-total) (on_total (λ e. e.target) nat_cmp_total))

-- and edges that it does not tell apart are the same
pub exact_edges : CmpEqualImpliesEq edge_cmp
exact_edges a b same = types (nat_cmp a.type_no b.type_no) refl same
  where
    made : nat_cmp a.type_no b.type_no ≡ Equal → key_cmp a.key b.key ≡ Equal → nat_cmp a.target b.target ≡ Equal → a ≡ b
    made t k n = λ j. record { type_no = exact_unsigned a.type_no b.type_no t j; key = exact_keys a.key b.key k j; target = exact_unsigned a.target b.target n j }

    keys : nat_cmp a.type_no b.type_no ≡ Equal → (o : Ordering) → key_cmp a.key b.key ≡ o → ordering_then o (nat_cmp a.target b.target) ≡ Equal → a ≡ b
    keys t Less at rest = cc
    keys t Equal at rest = made t at rest
    keys t Greater at rest = cc

    types : (o : Ordering) → nat_cmp a.type_no b.type_no ≡ o → ordering_then o (ordering_then (key_cmp a.key b.key) (nat_cmp a.target b.target)) ≡ Equal → a ≡ b
    types Less at rest = cc
    types Equal at rest = keys at (key_cmp a.key b.key) refl rest
    types Greater at rest = cc
