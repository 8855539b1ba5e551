-- What comparisons of keys tell.
use Rattle.std.proofs.Common.{◌≡◌, ℕ, ◌==◌, ◌&&◌, true}
use Rattle.std.specs.Cmp.{Equal-is}
use Rattle.std.proofs.lemmas.Bool.{eqb-true, and_parts}
use Rattle.std.specs.Ordering.{eq_by_cmp}
use Rattle.uni_base.specs.declared.edge.Key.{Key}
use Rattle.uni_base.specs.EdgeOrder.{key_cmp}
use Rattle.uni_base.specs.KeyHash.{exact_keys}

-- circles that are equal are the same
pub same_circle : (x y : ℕ × Key) → ((x.0 == y.0) && eq_by_cmp key_cmp x.1 y.1) ≡ true → x ≡ y
same_circle x y e =
    let both = and_parts (x.0 == y.0) (eq_by_cmp key_cmp x.1 y.1) e in
    let types : x.0 ≡ y.0 = eqb-true x.0 y.0 both.0 in
    let keys : x.1 ≡ y.1 = exact_keys x.1 y.1 ((Equal-is (key_cmp x.1 y.1)).0 both.1) in
    λ i. (types i, keys i)
