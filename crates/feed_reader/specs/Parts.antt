-- What the parts of a line give, where a text that is of no form makes the line bad.
use Rattle.std.specs.Prelude.{ℕ, List, [], ◌∷◌, ◌++◌, Option, None, Some, Result, Ok, Err}
use Rattle.std.specs.Option.{option_map, option_and_then}
use Rattle.uni_base.specs.Fields.{cut_at}
use Rattle.uni_schema.specs.Schema.{Declarations}
use Rattle.uni_table.specs.declared.command.AudienceText.{AudienceText}
use Rattle.feed_reader.specs.FeedText.{audience_meant}
use Rattle.feed_reader.specs.Reading.{audience_in, circle_of}
use Rattle.feed_reader.specs.declared.fault.LineFault.{LineFault}
use Rattle.feed_reader.specs.declared.fault.LineFault.TheVariants.{BadLine}

-- what was read, or else a bad line
abbrev pub told : {A : Type 0} → Option A → Result A LineFault
told (Some read) = Ok read
told None = Err BadLine

-- the audience that a text is, if its type is declared
abbrev pub audience_by : Declarations → List ℕ → Option (Option AudienceText)
audience_by schema text = option_map (audience_meant schema) (audience_in text)

-- the circle of a text after `in:`, if its type is declared
abbrev pub circle_by : Declarations → List ℕ → Option (Option AudienceText)
circle_by schema text = option_map (audience_meant schema) (option_and_then circle_of (cut_at 58 text))

-- fields, each with a space before it
abbrev pub with_spaces : List (List ℕ) → List ℕ
with_spaces [] = []
with_spaces (field ∷ fields) = 32 ∷ field ++ with_spaces fields
