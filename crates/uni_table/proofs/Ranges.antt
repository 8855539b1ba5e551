-- The numbers from 0 on.
use Rattle.std.proofs.Common.{arith, ◌≡◌, ◌<◌, ◌+◌, ◌++◌, ℕ, zero, suc, nat_eq, false, [], ◌∷◌, ◌∙◌, ap}
use Rattle.std.proofs.lemmas.Bool.Decides.{nat_tests}
use Rattle.std.proofs.lemmas.List.FromFn.{get_or-range_with_len, length-range_with_len}
use Rattle.std.specs.List.{AllByRecursion, Contains, IsDistinct, range_with_len}

below_after : (a b n : ℕ) → a < b → AllByRecursion (λ x. nat_eq a x ≡ false) (range_with_len b n)
below_after a b zero less = tt
below_after a b (suc n) less = (apart a b less, below_after a (b + 1) n (omega (arith, less)))
  where
    apart : (x y : ℕ) → x < y → nat_eq x y ≡ false
    apart x y below = grind (arith, nat_tests, below)

-- no number is there twice
pub range_apart : (a n : ℕ) → IsDistinct nat_eq (range_with_len a n)
unfolding IsDistinct
range_apart a zero = tt
range_apart a (suc n) = (below_after a (a + 1) n (omega arith), range_apart (a + 1) n)

-- each number below the length is there
pub in_range : (n q : ℕ) → q < n → Contains (range_with_len 0 n) q
in_range n q below = (q, omega (arith, below, length-range_with_len 0 n), get_or-range_with_len 0 n q q below ∙ (let same : 0 + q ≡ q = omega arith in same))

range_last : (a n : ℕ) → range_with_len a (suc n) ≡ range_with_len a n ++ (a + n) ∷ []
range_last a zero = ap (λ m. m ∷ []) (let same : a ≡ a + 0 = omega arith in same)
range_last a (suc n) = ap (λ ms. a ∷ ms) (range_last (a + 1) n ∙ ap (λ m. range_with_len (a + 1) n ++ m ∷ []) (let same : a + 1 + n ≡ a + suc n = omega arith in same))

-- one more
pub range_more : (n : ℕ) → range_with_len 0 (n + 1) ≡ range_with_len 0 n ++ n ∷ []
range_more n = ap (range_with_len 0) (let same : n + 1 ≡ suc n = omega arith in same) ∙ range_last 0 n ∙ ap (λ m. range_with_len 0 n ++ m ∷ []) (let same : 0 + n ≡ n = omega arith in same)
