-- Numbers and their texts.
use Rattle.std.proofs.Common.{◌≡◌, ℕ, ◌^◌, ◌<◌, ◌≤◌, Bool, true, false, not, ◌&&◌, ◌||◌, ◌==◌, nat_le, cond, if◌then◌else◌, List, [], ◌∷◌, length, get_or, Option, None, Some, refl, ap, sym, subst, ◌∙◌, arith}
use Rattle.std.specs.Fmt.{decimal}
use Rattle.std.specs.List.{list_all}
use Rattle.std.specs.Option.{option_and_then}
use Rattle.std.specs.Cmp.Derive.{both_true}
use Rattle.std.specs.Str.Parse.{digits_value}
use Rattle.std.proofs.lemmas.Bool.{and_parts, leb-true}
use Rattle.std.proofs.lemmas.Bool.Decides.{nat_tests}
use Rattle.std.proofs.lemmas.Fmt.{decimal_is_IsNumeral, decimal-digits_value, digits_decimal, decimal_nonempty, length-decimal-le, first_decimal, decimal_digit}
use Rattle.std.proofs.lemmas.Str.Parse.{IsNumeralModel, numerals_by_value}
use Rattle.uni_base.specs.Numbers.{is_number, number_of, number_between, starts_with_zero}
use Rattle.uni_base.specs.Words.{is_digit}
use Rattle.feed_reader.specs.FeedText.{is_between}

digit_known : (c : ℕ) → is_digit c ≡ true → (48 ≤ c) × (c ≤ 57)
digit_known c h = let parts = and_parts (nat_le 48 c) (nat_le c 57) h in (leb-true 48 c parts.0, leb-true c 57 parts.1)

digit_told : (c : ℕ) → 48 ≤ c → c ≤ 57 → is_digit c ≡ true
digit_told c low high = grind (arith, nat_tests)

-- what is_digit tests are the digits of numbers
numerals : IsNumeralModel (λ ds. list_all is_digit ds ≡ true) (digits_value 10)
numerals = numerals_by_value (λ ds. list_all is_digit ds ≡ true) (record {
  empty = refl;
  parts = λ c cs h. let parts = and_parts (is_digit c) (list_all is_digit cs) h in (digit_known c parts.0, parts.1);
  more = λ c cs here all. both_true (digit_told c here.0 here.1) all;
})

pub decimal_digits : (n : ℕ) → n < 2 ^ 64 → list_all is_digit (decimal n) ≡ true
decimal_digits n small = digits_decimal numerals n small

starts_known : (text : List ℕ) → get_or text 0 0 ≡ 48 → 0 < length text → starts_with_zero text ≡ true
starts_known [] zero some = absurd (omega arith)
starts_known (c ∷ cs) zero some = grind (arith, nat_tests)

starts_above : (text : List ℕ) → 48 < get_or text 0 0 → starts_with_zero text ≡ false
starts_above [] above = refl
starts_above (c ∷ cs) above = grind (arith, nat_tests)

one_long : (text : List ℕ) → (not (starts_with_zero text) || (length text == 1)) ≡ true → starts_with_zero text ≡ true → length text ≡ 1
one_long text lead zero = grind (arith, nat_tests)

-- a number's text is the one that is written of it
pub number_text : (text : List ℕ) (n : ℕ) → number_of text ≡ Some n → n < 2 ^ 64 → text ≡ decimal n
number_text text n e small = by (is_number text) refl e
  where
    by : (test : Bool) → is_number text ≡ test → (if test then Some (digits_value 10 text) else None) ≡ Some n → text ≡ decimal n
    by true is e =
        let lead = and_parts (nat_le 1 (length text) && nat_le (length text) 20 && list_all is_digit text) (not (starts_with_zero text) || (length text == 1)) is in
        let all = and_parts (nat_le 1 (length text) && nat_le (length text) 20) (list_all is_digit text) lead.0 in
        let some : 1 ≤ length text = leb-true 1 (length text) (and_parts (nat_le 1 (length text)) (nat_le (length text) 20) all.0).0 in
        let one : digits_value 10 text ≡ n = cc in
        let long : 0 < length text = omega arith in
        let below : digits_value 10 text < 2 ^ 64 = omega arith in
        sym (decimal-digits_value numerals text all.1 long (λ zero. one_long text lead.1 (starts_known text zero long)) below) ∙ ap decimal one
    by false is e = cc

-- a number has no zero before its digits
leads : (n : ℕ) → n < 2 ^ 64 → (not (starts_with_zero (decimal n)) || (length (decimal n) == 1)) ≡ true
leads n small = by (nat_le 1 n) refl
  where
    by : (test : Bool) → nat_le 1 n ≡ test → (not (starts_with_zero (decimal n)) || (length (decimal n) == 1)) ≡ true
    by true is = ap (λ b. not b || (length (decimal n) == 1)) (starts_above (decimal n) (first_decimal n (omega (arith, leb-true 1 n is)) small))
    by false is =
        let none : 0 ≡ n = grind (arith, nat_tests) in
        subst (λ m. (not (starts_with_zero (decimal m)) || (length (decimal m) == 1)) ≡ true) none (rw (decimal_digit 0 (omega arith)) refl)

is_at_most : (m n : ℕ) → m ≤ n → nat_le m n ≡ true
is_at_most m n h = grind (arith, nat_tests)

decimal_number : (n : ℕ) → n < 2 ^ 64 → is_number (decimal n) ≡ true
decimal_number n small =
    let some : 1 ≤ length (decimal n) = omega (arith, decimal_nonempty n small) in
    let few : length (decimal n) ≤ 20 = length-decimal-le 20 n (omega arith) (omega arith) small in
    both_true (both_true (both_true (is_at_most 1 (length (decimal n)) some) (is_at_most (length (decimal n)) 20 few)) (decimal_digits n small)) (leads n small)

pub decimal_is_read : (n : ℕ) → n < 2 ^ 64 → number_of (decimal n) ≡ Some n
decimal_is_read n small =
    ap (λ b. cond b (Some (digits_value 10 (decimal n))) None) (decimal_number n small)
    ∙ ap Some (decimal_is_IsNumeral n small).1

-- a number of a range that was read is the text's
pub between_read : (low high : ℕ) (text : List ℕ) (n : ℕ) → high < 2 ^ 64 → number_between low high text ≡ Some n → (text ≡ decimal n) × (is_between low high n ≡ true)
between_read low high text n small e = by (number_of text) refl e
  where
    kept : (m : ℕ) (test : Bool) → is_between low high m ≡ test → (if test then Some m else None) ≡ Some n → (m ≡ n) × (is_between low high n ≡ true)
    kept m true is e = let one : m ≡ n = cc in (one, subst (λ k. is_between low high k ≡ true) one is)
    kept m false is e = cc

    by : (read : Option ℕ) → number_of text ≡ read → option_and_then (λ m. if is_between low high m then Some m else None) read ≡ Some n → (text ≡ decimal n) × (is_between low high n ≡ true)
    by None is e = cc
    by (Some m) is e =
        let here = kept m (is_between low high m) refl e in
        let under : n ≤ high = leb-true n high (and_parts (nat_le low n) (nat_le n high) here.1).1 in
        (number_text text n (is ∙ ap Some here.0) (omega arith), here.1)

pub between_given : (low high n : ℕ) → high < 2 ^ 64 → is_between low high n ≡ true → number_between low high (decimal n) ≡ Some n
between_given low high n small within =
    let under : n ≤ high = leb-true n high (and_parts (nat_le low n) (nat_le n high) within).1 in
    ap (option_and_then (λ m. if is_between low high m then Some m else None)) (decimal_is_read n (omega arith))
    ∙ ap (λ b. if b then Some n else None) within
