-- Worked headers, by computation.
use Rattle.std.proofs.Common.{refl}
use Rattle.uni_schema.specs.Examples.{WorkedHeaders}

pub worked_headers : WorkedHeaders
worked_headers = record {
  no_lines = refl;
  other_format = refl;
  format_twice = refl;
  two_spaces = refl;
  no_shard = refl;
  word = refl;
  least_code = refl;
  owned_by_words = refl;
  no_vertical = refl;
  no_type = refl;
  too_short = refl;
  without_verticals = refl;
  whole = refl;
}
