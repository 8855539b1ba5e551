-- the digits so far write the value
use Rattle.std.proofs.Common.{◌≡◌, ◌<◌, ◌≤◌, ◌^◌, true, take}
use Rattle.std.specs.List.{list_all}
use Rattle.std.specs.Str.Parse.{digits_value}
use Rattle.uni_base.specs.Words.{is_digit}
use Rattle.feed_reader.proofs.number.leading_digits.Given as goal

abbrev pub invariant-loop-count : goal.invariant-loop-count
invariant-loop-count l = record {
  value : l.value ≡ digits_value 10 (take l.count l.text);
  digits : list_all is_digit (take l.count l.text) ≡ true;
  small : l.value < 10 ^ l.count;
  few : l.count ≤ 19;
}
