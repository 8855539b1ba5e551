-- The text of a number is that of no other number where one of them is below 2 ^ 64.
use Rattle.std.proofs.Common.{◌≡◌, ℕ, zero, suc, ◌+◌, ◌/◌, ◌%◌, ◌^◌, ◌<◌, ◌≤◌, ◌⊎◌, inl, inr, false, ◌==◌, List, [], ◌∷◌, length, sym, ◌∙◌, ap, arith}
use Rattle.std.proofs.Math.Nat.{pow-suc}
use Rattle.std.proofs.lemmas.Bool.Decides.{nat_tests}
use Rattle.std.proofs.lemmas.Fmt.{decimal_is_IsNumeral_wide, length-decimal-le}
use Rattle.std.specs.Fmt.{decimal, digits, digits_onto, digit_glyph}
use Rattle.std.specs.Str.Parse.{digits_value}

power_pos : (k : ℕ) → 0 < 10 ^ k
power_pos zero = omega arith
power_pos (suc k) = omega (arith, pow-suc 10 k, power_pos k)

-- a number of more digits than are written has as many as are written
length-onto : (k n : ℕ) (acc : List ℕ) → 10 ^ k ≤ n → length (digits_onto k 10 false n acc) ≡ k + length acc
length-onto zero n acc large = omega arith
length-onto (suc k) n acc large =
    let some : 0 < 10 ^ k = power_pos k in
    let rest : 10 ^ k ≤ n / 10 = omega (arith, pow-suc 10 k) in
    let not_last : (n / 10 == 0) ≡ false = grind (arith, nat_tests) in
    rw not_last (omega (arith, length-onto k (n / 10) (digit_glyph false (n % 10) ∷ acc) rest))

long-decimal : (n : ℕ) → 10 ^ 64 ≤ n → length (decimal n) ≡ 64
unfolding digits
long-decimal n large = length-onto 64 n [] large

-- a number below 2 ^ 64 is told by its text
pub decimal_tells : (n m : ℕ) → m < 2 ^ 64 → decimal n ≡ decimal m → n ≡ m
decimal_tells n m small e = by cases
  where
    cases : (n < 10 ^ 64) ⊎ (10 ^ 64 ≤ n)
    cases = grind arith

    by : (n < 10 ^ 64) ⊎ (10 ^ 64 ≤ n) → n ≡ m
    by (inl h) = sym (decimal_is_IsNumeral_wide n h).1 ∙ ap (digits_value 10) e ∙ (decimal_is_IsNumeral_wide m (omega arith)).1
    by (inr h) =
        let long : length (decimal n) ≡ 64 = long-decimal n h in
        let short : length (decimal m) ≤ 20 = length-decimal-le 20 m (omega arith) (omega arith) small in
        let same : length (decimal n) ≡ length (decimal m) = ap length e in
        absurd (omega arith)
