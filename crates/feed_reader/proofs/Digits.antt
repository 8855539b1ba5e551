-- One more digit of a number.
use Rattle.std.proofs.Common.{◌≡◌, ℕ, ◌+◌, ◌-◌, ◌*◌, ◌<◌, ◌≤◌, ◌^◌, true, ◌&&◌, List, length, take, get_or, Some, None, if◌then◌else◌, ◌∙◌, ap, sym, arith, add-one}
use Rattle.std.specs.List.{list_all}
use Rattle.std.specs.Str.Parse.{digits_value}
use Rattle.std.specs.Char.{digit_value}
use Rattle.std.proofs.lemmas.Int.Digits.{digits_value_more}
use Rattle.std.proofs.lemmas.List.Folds.{list_all_more}
use Rattle.std.proofs.lemmas.Bool.Decides.{nat_tests}
use Rattle.std.proofs.Math.Nat.{pow-suc, pow-le-pow_right}
use Rattle.uni_base.specs.Words.{is_digit}

-- a byte with a digit's value is a digit
pub digit-known : (c : ℕ) {d : ℕ} → (if is_digit c then Some (c - 48) else None) ≡ Some d → (is_digit c ≡ true) × (digit_value c ≡ d) × (d ≤ 9)
digit-known c e = grind (arith, nat_tests)

-- the number of one digit more
pub value_more : (text : List ℕ) (i value digit : ℕ) → i < length text → digit_value (get_or text i 0) ≡ digit → value ≡ digits_value 10 (take i text)
    → value * 10 + digit ≡ digits_value 10 (take (i + 1) text)
value_more text i value digit h d e =
    ap (λ v. v * 10 + digit) e
    ∙ ap (λ x. digits_value 10 (take i text) * 10 + x) (sym d)
    ∙ sym (digits_value_more 10 text i h)

pub digits_more : (text : List ℕ) (i : ℕ) → i < length text → is_digit (get_or text i 0) ≡ true → list_all is_digit (take i text) ≡ true
    → list_all is_digit (take (i + 1) text) ≡ true
digits_more text i h here so =
    list_all_more is_digit text i 0 h ∙ ap (λ b. b && is_digit (get_or text i 0)) so ∙ here

-- and its bound
pub small_more : (value digit i : ℕ) → value < 10 ^ i → digit ≤ 9 → value * 10 + digit < 10 ^ (i + 1)
small_more value digit i h d = rw add-one (omega (arith, pow-suc 10 i))

-- a number of fewer than 19 digits has room for one more
pub roomy : (value i n : ℕ) → i < n → n ≤ 19 → value < 10 ^ i → value < 10 ^ 18
roomy value i n more few small =
    let ten : 0 < 10 = omega arith in
    let under : i ≤ 18 = omega arith in
    let most : 10 ^ i ≤ 10 ^ 18 = pow-le-pow_right ten under in
    omega arith
