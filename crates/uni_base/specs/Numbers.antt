-- Numbers as they are written in scripts.
use Rattle.std.specs.Prelude.{ℕ, Bool, not, ◌&&◌, ◌||◌, false, ◌==◌, nat_le, if◌then◌else◌, List, [], ◌∷◌, length, Option, None, Some}
use Rattle.std.specs.List.{list_all}
use Rattle.std.specs.Option.{option_and_then}
use Rattle.std.specs.Str.Parse.{digits_value}
use Rattle.uni_base.specs.Words.{is_digit}

-- whether a text begins with the digit 0
abbrev pub starts_with_zero : List ℕ → Bool
starts_with_zero [] = false
starts_with_zero (c ∷ cs) = c == 48

-- a number is 1 to 20 digits, the first of which is 0 only where it stands alone
abbrev pub is_number : List ℕ → Bool
is_number text = nat_le 1 (length text) && nat_le (length text) 20 && list_all is_digit text
    && (not (starts_with_zero text) || (length text == 1))

-- the number that a text writes, if it writes one
abbrev pub number_of : List ℕ → Option ℕ
number_of text = if is_number text then Some (digits_value 10 text) else None

-- the number that a text writes, if it writes one from low to high
abbrev pub number_between : ℕ → ℕ → List ℕ → Option ℕ
number_between low high text = option_and_then (λ n. if nat_le low n && nat_le n high then Some n else None) (number_of text)

-- the id that a text writes, if it writes one
abbrev pub id_of : List ℕ → Option ℕ
id_of text = number_between 1 18446744073709551615 text
