-- What comparisons tell.
use Rattle.std.proofs.Common.{◌≡◌, ℕ, ◌==◌, ◌<◌, nat_lt, ◌&&◌, true, false, refl, sym, ◌∙◌, ap, arith}
use Rattle.std.specs.Cmp.{IsTotalOrder}
use Rattle.std.specs.declared.cmp.Ordering.{Ordering}
use Rattle.std.specs.declared.cmp.Ordering.TheVariants.{Less, Equal, Greater}
use Rattle.std.specs.Ordering.{nat_cmp, is_lt, is_eq, ordering_then, ordering_reverse}
use Rattle.std.proofs.lemmas.Bool.Decides.{nat_tests}

pub is_eq-nat_cmp : (a b : ℕ) → is_eq (nat_cmp a b) ≡ (a == b)
is_eq-nat_cmp a b = grind (arith, nat_tests)

-- numbers that compare as equal are the same
pub same_number : (a b : ℕ) → is_eq (nat_cmp a b) ≡ true → a ≡ b
same_number a b e = grind (arith, nat_tests)

pub same_either_way : (a b : ℕ) → (a == b) ≡ (b == a)
same_either_way a b = grind (arith, nat_tests)

-- a number that is found to be below another is
pub below_from : (a b : ℕ) → nat_lt a b ≡ true → a < b
below_from a b e = grind (arith, nat_tests)

pub is_eq-then : (a b : Ordering) → is_eq (ordering_then a b) ≡ (is_eq a && is_eq b)
is_eq-then Less b = refl
is_eq-then Equal b = refl
is_eq-then Greater b = refl

pub equal_from : (o : Ordering) → is_eq o ≡ true → o ≡ Equal
equal_from Less e = cc
equal_from Equal e = refl
equal_from Greater e = cc

-- what is compared with itself is equal to it
pub equal_self : {K : Type 0} {cmp : K → K → Ordering} → IsTotalOrder cmp → (x : K) → cmp x x ≡ Equal
equal_self {K} {cmp} o x = by (cmp x x) (o.antisymm x x)
  where
    by : (r : Ordering) → r ≡ ordering_reverse r → r ≡ Equal
    by Less e = cc
    by Equal e = refl
    by Greater e = cc

-- what is neither above nor equal is below
pub less_from : {K : Type 0} {cmp : K → K → Ordering} (o : IsTotalOrder cmp) (a b : K) → is_lt (cmp b a) ≡ false → is_eq (cmp a b) ≡ false → cmp a b ≡ Less
less_from {K} {cmp} o a b not_above apart = by (cmp a b) (cmp b a) refl (o.antisymm b a) not_above apart
  where
    by : (x y : Ordering) → cmp a b ≡ x → y ≡ ordering_reverse (cmp a b) → is_lt y ≡ false → is_eq x ≡ false → x ≡ Less
    by Less y e f g h = refl
    by Equal y e f g h = absurd cc
    by Greater y e f g h =
        let is : y ≡ Less = f ∙ ap ordering_reverse e in
        let at : is_lt Less ≡ false = ap is_lt (sym is) ∙ g in
        absurd cc
