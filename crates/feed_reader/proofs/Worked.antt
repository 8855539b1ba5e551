-- Worked lines, by computation.
use Rattle.std.proofs.Common.{refl}
use Rattle.feed_reader.specs.Examples.{WorkedLines}

pub worked_lines : WorkedLines
worked_lines = record {
  entity = refl;
  photo = refl;
  gone = refl;
  edge = refl;
  no_target = refl;
  no_source = refl;
  word = refl;
  circle = refl;
  cut = refl;
  publish = refl;
  no_vertical = refl;
  no_type = refl;
  no_circle = refl;
  no_id = refl;
  form_first = refl;
  leading_zero = refl;
  two_spaces = refl;
  no_key = refl;
  until_in_first = refl;
  until = refl;
  until_none = refl;
  until_past = refl;
  until_unknown = refl;
  compact = refl;
  other = refl;
}
