-- The bytes of words and names.
use Rattle.std.specs.Prelude.{ℕ, Bool, ◌&&◌, ◌||◌, false, ◌==◌, nat_le, List, [], ◌∷◌, length}
use Rattle.std.specs.List.{list_all}

-- a to z
abbrev pub is_letter : ℕ → Bool
is_letter c = nat_le 97 c && nat_le c 122

-- 0 to 9
abbrev pub is_digit : ℕ → Bool
is_digit c = nat_le 48 c && nat_le c 57

-- a byte of a word: a to z, 0 to 9, - and _
abbrev pub is_word_byte : ℕ → Bool
is_word_byte c = is_letter c || is_digit c || (c == 45) || (c == 95)

-- a word is 1 to 32 such bytes
abbrev pub is_word : List ℕ → Bool
is_word text = nat_le 1 (length text) && nat_le (length text) 32 && list_all is_word_byte text

abbrev pub starts_with_letter : List ℕ → Bool
starts_with_letter [] = false
starts_with_letter (c ∷ cs) = is_letter c

-- a name is a word whose first byte is a letter
abbrev pub is_name : List ℕ → Bool
is_name text = is_word text && starts_with_letter text
