-- Edges that start alike.
use Rattle.std.proofs.Common.{◌≡◌, ◌==◌, ◌&&◌, ℕ, Bool, true, false, arith, refl}
use Rattle.std.proofs.lemmas.Bool.Decides.{nat_tests}
use Rattle.std.specs.Cmp.{tied_itself}
use Rattle.std.specs.Ordering.{is_eq}
use Rattle.uni_base.specs.declared.edge.Held.{Held}
use Rattle.uni_base.specs.EdgeOrder.{key_cmp, key_cmp-total}
use Rattle.uni_base.specs.KeyHash.{exact_keys}
use Rattle.shard_index.specs.Begun.{starts_as}
use Rattle.shard_index.proofs.LoggedMaps.{equal_of}

-- two edges start alike
pub record Alike (x y : Held) : Type 0 where
  pub types : x.edge.type_no ≡ y.edge.type_no
  pub keys : x.edge.key ≡ y.edge.key

pub alike_from : (x y : Held) → starts_as x y ≡ true → Alike x y
alike_from x y same = by (x.edge.type_no == y.edge.type_no) refl same
  where
    by : (t : Bool) → (x.edge.type_no == y.edge.type_no) ≡ t → (t && is_eq (key_cmp x.edge.key y.edge.key)) ≡ true → Alike x y
    by true at rest =
        let types : x.edge.type_no ≡ y.edge.type_no = grind (arith, nat_tests) in
        record { types = types; keys = exact_keys x.edge.key y.edge.key (equal_of (key_cmp x.edge.key y.edge.key) rest) }
    by false at rest = cc

pub number_itself : (n : ℕ) → (n == n) ≡ true
number_itself n = grind (arith, nat_tests)

pub starts_itself : (x : Held) → starts_as x x ≡ true
starts_itself x = λ i. number_itself x.edge.type_no i && is_eq (tied_itself key_cmp-total x.edge.key i)
