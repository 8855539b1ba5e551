-- The digits at the front of a text.
use Rattle.std.specs.Prelude.{ℕ, ◌≡◌, ◌≤◌, ◌<◌, true, false, List, length, take, get_or}
use Rattle.std.specs.List.{list_all}
use Rattle.std.specs.Str.Parse.{digits_value}
use Rattle.uni_base.specs.Words.{is_digit}
use Rattle.feed_reader.specs.declared.number.Digits.{Digits}

-- all digits before the first other byte, or the first 19, with the number that they write
pub record AreLeading (text : List ℕ) (digits : Digits) : Type 0 where
  pub few : digits.count ≤ 19
  pub within : digits.count ≤ length text
  pub all : list_all is_digit (take digits.count text) ≡ true
  pub value : digits.value ≡ digits_value 10 (take digits.count text)
  pub ended : digits.count < 19 → digits.count < length text → is_digit (get_or text digits.count 0) ≡ false
