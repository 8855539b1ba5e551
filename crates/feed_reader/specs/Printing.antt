-- Lines whose numbers are those of a schema, and their text under it.
use Rattle.std.specs.Prelude.{ℕ, true, ◌≡◌, ◌<◌, ◌^◌, ◌==◌, if◌then◌else◌, List, [], Option, None, Some, Ok, ⊤}
use Rattle.std.specs.Option.{option_map_or}
use Rattle.uni_base.specs.Words.{is_word}
use Rattle.uni_schema.specs.Print.{vertical_name}
use Rattle.uni_schema.specs.Schema.{Declarations, IsSchema, type_at}
use Rattle.uni_table.specs.Commands.{IsDeclared}
use Rattle.uni_table.specs.declared.command.AudienceText.{AudienceText}
use Rattle.uni_table.specs.declared.command.AudienceText.TheVariants.{Public, Only, Circle}
use Rattle.uni_table.specs.declared.command.Command.{Command}
use Rattle.uni_table.specs.declared.command.Command.TheVariants.{Entity, Gone, Edge, Cut}
use Rattle.feed_reader.specs.FeedText.{WrittenAudience, public_audience, only_audience, circle_audience, WrittenLine, entity_line, gone_line, edge_line, cut_line, publish_line, is_until, is_written, written_text}
use Rattle.feed_reader.specs.Reading.{feed_line_of}
use Rattle.feed_reader.specs.declared.line.FeedLine.{FeedLine}
use Rattle.feed_reader.specs.declared.line.FeedLine.TheVariants.{Change, Publish}

-- the numbers of a line are declared
abbrev pub LineIsDeclared : Declarations → FeedLine → Type 0
LineIsDeclared schema (Change command) = IsDeclared schema command
LineIsDeclared schema Publish = ⊤

-- the end of an edge: none where its number is 0
abbrev pub until_of : ℕ → Option ℕ
until_of until = if until == 0 then None else Some until

-- an edge's end is one that may be written
abbrev pub HasUntil : Declarations → FeedLine → Type 0
HasUntil schema (Change (Edge number key target audience until)) = is_until schema.format (until_of until) ≡ true
HasUntil schema (Change (Entity vertical id rank)) = ⊤
HasUntil schema (Change (Gone id)) = ⊤
HasUntil schema (Change (Cut number key target)) = ⊤
HasUntil schema Publish = ⊤

-- the name of a type by its number
abbrev pub type_name : Declarations → ℕ → List ℕ
type_name schema number = option_map_or (λ type_def. type_def.name) (type_at schema number) []

-- an audience and a line as they are written under a schema
abbrev pub audience_written : Declarations → AudienceText → WrittenAudience
audience_written schema Public = public_audience
audience_written schema Only = only_audience
audience_written schema (Circle number key) = circle_audience (type_name schema number) key

abbrev pub command_written : Declarations → Command → WrittenLine
command_written schema (Entity vertical id rank) = entity_line (vertical_name schema vertical) id rank.0
command_written schema (Gone id) = gone_line id
command_written schema (Edge number key target audience until) =
    edge_line (type_name schema number) key target (audience_written schema audience) (until_of until)
command_written schema (Cut number key target) = cut_line (type_name schema number) key target

abbrev pub line_written : Declarations → FeedLine → WrittenLine
line_written schema (Change command) = command_written schema command
line_written schema Publish = publish_line

-- the text of a line under a schema
abbrev pub line_text : Declarations → FeedLine → List ℕ
line_text schema line = written_text (line_written schema line)

-- the words and the numbers of a change are such as its fields hold: words are words, ids are from 1 on, and
-- numbers are of so many bits
abbrev pub HasWord : AudienceText → Type 0
HasWord Public = ⊤
HasWord Only = ⊤
HasWord (Circle number key) = is_word key ≡ true

abbrev pub IsIdNumber : ℕ → Type 0
IsIdNumber id = (0 < id) × (id < 2 ^ 64)

abbrev pub FitsFields : Command → Type 0
FitsFields (Entity vertical id rank) = IsIdNumber id × (rank.0 < 2 ^ 32)
FitsFields (Gone id) = IsIdNumber id
FitsFields (Edge number key target audience until) = (is_word key ≡ true) × IsIdNumber target × HasWord audience
FitsFields (Cut number key target) = (is_word key ≡ true) × IsIdNumber target

abbrev pub LineFits : FeedLine → Type 0
LineFits (Change command) = FitsFields command
LineFits Publish = ⊤

-- the text of a line is read as that line again, where its numbers are declared and it may be written
pub record TextIsRead : Type 0 where
  pub is : (schema : Declarations) (line : FeedLine) → IsSchema schema → LineIsDeclared schema line → is_written schema.format (line_written schema line) ≡ true
      → feed_line_of schema (line_text schema line) ≡ Ok line

-- the line that was read off a text has that text
pub record ReadIsPrinted : Type 0 where
  pub is : (schema : Declarations) (text : List ℕ) (line : FeedLine) → feed_line_of schema text ≡ Ok line → line_text schema line ≡ text
