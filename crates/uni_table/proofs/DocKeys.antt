-- The keys of entities in rank order.
use Rattle.std.proofs.lemmas.Bool.{and_parts}
use Rattle.std.proofs.Common.{◌≡◌, ◌&&◌, Bool, true, false, refl, sym, ◌∙◌, ap, rules}
use Rattle.std.specs.Cmp.{IsTotalOrder}
use Rattle.std.specs.declared.cmp.Ordering.{Ordering}
use Rattle.std.specs.declared.cmp.Ordering.TheVariants.{Less, Equal, Greater}
use Rattle.std.specs.Ordering.{nat_cmp, is_eq, eq_by_cmp, ordering_reverse}
use Rattle.uni_base.specs.declared.entity.DocKey.{DocKey}
use Rattle.uni_base.specs.RankOrder.{doc_cmp}
use Rattle.std.specs.Cmp.Rules.{comparing}
use Rattle.uni_table.proofs.Compared.{same_number, is_eq-then}

pub doc_total : IsTotalOrder doc_cmp
doc_total = search (comparing, rules)

pub and_false : (t : Bool) → (t && false) ≡ false
and_false true = refl
and_false false = refl

-- keys of entities that differ are told apart
pub ids_differ : (b c : DocKey) → is_eq (nat_cmp b.id c.id) ≡ false → eq_by_cmp doc_cmp b c ≡ false
ids_differ b c ids =
    is_eq-then (nat_cmp c.rank.0 b.rank.0) (nat_cmp b.id c.id) ∙ ap (λ t. is_eq (nat_cmp c.rank.0 b.rank.0) && t) ids ∙ and_false (is_eq (nat_cmp c.rank.0 b.rank.0))

-- keys that rank order does not tell apart are the same
pub exact_key : (x y : DocKey) → doc_cmp x y ≡ Equal → x ≡ y
exact_key x y e =
    let both = and_parts (is_eq (nat_cmp y.rank.0 x.rank.0)) (is_eq (nat_cmp x.id y.id)) (sym (is_eq-then (nat_cmp y.rank.0 x.rank.0) (nat_cmp x.id y.id)) ∙ ap is_eq e) in
    let ranks : x.rank.0 ≡ y.rank.0 = sym (same_number y.rank.0 x.rank.0 both.0) in
    let ids : x.id ≡ y.id = same_number x.id y.id both.1 in
    λ i. record { rank = record { 0 = ranks i }; id = ids i }

-- two keys tie in either order
pub flips : (x y : DocKey) → eq_by_cmp doc_cmp x y ≡ eq_by_cmp doc_cmp y x
flips x y = ap is_eq (doc_total.antisymm x y) ∙ turned (doc_cmp y x)
  where
    turned : (o : Ordering) → is_eq (ordering_reverse o) ≡ is_eq o
    turned Less = refl
    turned Equal = refl
    turned Greater = refl
