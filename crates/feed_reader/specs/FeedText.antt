-- The lines of a feed, by their texts: changes of the table, and the line that publishes them.
use Rattle.std.specs.Prelude.{ℕ, Bool, true, ◌≡◌, ◌==◌, ◌&&◌, nat_le, List, [], ◌∷◌, ◌++◌, Option, None, Some, Result, Ok, Err, codes, unwrap_or}
use Rattle.std.specs.Fmt.{decimal}
use Rattle.std.specs.Option.{option_map, option_and_then}
use Rattle.uni_base.specs.Fields.{spaced}
use Rattle.uni_base.specs.Words.{is_word, is_name}
use Rattle.uni_schema.specs.Schema.{Declarations, vertical_no, type_no}
use Rattle.uni_table.specs.declared.command.AudienceText.{AudienceText}
use Rattle.uni_table.specs.declared.command.AudienceText.TheVariants.{Public, Only, Circle}
use Rattle.uni_table.specs.declared.command.Command.TheVariants.{Entity, Gone, Edge, Cut}
use Rattle.feed_reader.specs.declared.line.FeedLine.{FeedLine}
use Rattle.feed_reader.specs.declared.line.FeedLine.TheVariants.{Change, Publish}
use Rattle.feed_reader.specs.declared.fault.LineFault.{LineFault}
use Rattle.feed_reader.specs.declared.fault.LineFault.TheVariants.{BadLine, UnknownName}

-- an audience as it is written: everybody, the owners alone, or a circle by its type's name and its key
pub data WrittenAudience : Type 0 where
  public_audience only_audience : WrittenAudience
  circle_audience : (type_name key : List ℕ) → WrittenAudience

-- a line as it is written, with names in place of numbers
pub data WrittenLine : Type 0 where
  entity_line : (vertical : List ℕ) (id rank : ℕ) → WrittenLine
  gone_line : (id : ℕ) → WrittenLine
  edge_line : (type_name key : List ℕ) (target : ℕ) (audience : WrittenAudience) (until : Option ℕ) → WrittenLine
  cut_line : (type_name key : List ℕ) (target : ℕ) → WrittenLine
  publish_line : WrittenLine

abbrev pub audience_text : WrittenAudience → List ℕ
audience_text public_audience = codes "public"
audience_text only_audience = codes "only"
audience_text (circle_audience type_name key) = codes "in:" ++ (type_name ++ 58 ∷ key)

-- the fields of the number of the publish that ends an edge
abbrev pub until_fields : Option ℕ → List (List ℕ)
until_fields None = []
until_fields (Some until) = codes "until" ∷ decimal until ∷ []

-- the fields of a line
abbrev pub written_fields : WrittenLine → List (List ℕ)
written_fields (entity_line vertical id rank) = codes "entity" ∷ vertical ∷ decimal id ∷ decimal rank ∷ []
written_fields (gone_line id) = codes "gone" ∷ decimal id ∷ []
written_fields (edge_line type_name key target audience until) =
    codes "edge" ∷ type_name ∷ key ∷ decimal target ∷ audience_text audience ∷ until_fields until
written_fields (cut_line type_name key target) = codes "cut" ∷ type_name ∷ key ∷ decimal target ∷ []
written_fields publish_line = codes "publish" ∷ []

-- the one text of a line: its fields, with one space between any two
abbrev pub written_text : WrittenLine → List ℕ
written_text written = spaced (written_fields written)

abbrev pub is_between : ℕ → ℕ → ℕ → Bool
is_between low high n = nat_le low n && nat_le n high

-- the ids of entities, the ranks that they may have, and the publishes that may end an edge
abbrev pub is_id : ℕ → Bool
is_id n = is_between 1 18446744073709551615 n

abbrev pub is_rank : ℕ → Bool
is_rank n = is_between 0 4294967295 n

abbrev pub is_publish : ℕ → Bool
is_publish n = is_between 1 1048576 n

-- whether an audience is written with a name and a word, where it is a circle
abbrev pub is_audience : WrittenAudience → Bool
is_audience public_audience = true
is_audience only_audience = true
is_audience (circle_audience type_name key) = is_name type_name && is_word key

-- whether an edge may be written with this end: with none, or in format 2 with a publish
abbrev pub is_until : ℕ → Option ℕ → Bool
is_until format None = true
is_until format (Some until) = (format == 2) && is_publish until

-- whether a line is one that may be written in a script of a format
abbrev pub is_written : ℕ → WrittenLine → Bool
is_written format (entity_line vertical id rank) = is_name vertical && is_id id && is_rank rank
is_written format (gone_line id) = is_id id
is_written format (edge_line type_name key target audience until) =
    is_name type_name && is_word key && is_id target && is_audience audience && is_until format until
is_written format (cut_line type_name key target) = is_name type_name && is_word key && is_id target
is_written format publish_line = true

-- a line is the text of this, in a script of a format
pub record Spells (format : ℕ) (line : List ℕ) (written : WrittenLine) : Type 0 where
  pub form : is_written format written ≡ true
  pub text : line ≡ written_text written

-- the audience that is meant, where its type is declared
abbrev pub audience_meant : Declarations → WrittenAudience → Option AudienceText
audience_meant schema public_audience = Some Public
audience_meant schema only_audience = Some Only
audience_meant schema (circle_audience type_name key) = option_map (λ number. Circle number key) (type_no schema type_name)

-- the line that is meant, where the vertical and the types that it names are declared
abbrev pub line_meant : Declarations → WrittenLine → Option FeedLine
line_meant schema (entity_line vertical id rank) = option_map (λ number. Change (Entity number id (record { 0 = rank }))) (vertical_no schema vertical)
line_meant schema (gone_line id) = Some (Change (Gone id))
line_meant schema (edge_line type_name key target audience until) =
    option_and_then (λ number. option_map (λ audience. Change (Edge number key target audience (unwrap_or until 0)))
    (audience_meant schema audience)) (type_no schema type_name)
line_meant schema (cut_line type_name key target) = option_map (λ number. Change (Cut number key target)) (type_no schema type_name)
line_meant schema publish_line = Some Publish

-- what reading a line under a schema gives: the line that is meant, where the line is the text of one
-- whose names are declared; UnknownName, where it is the text of one that has a name which is not
-- declared; and BadLine, where it is the text of none
abbrev pub ReadsAs : Declarations → List ℕ → Result FeedLine LineFault → Type 0
ReadsAs schema line (Ok read) = (written : WrittenLine) × Spells schema.format line written × (line_meant schema written ≡ Some read)
ReadsAs schema line (Err UnknownName) = (written : WrittenLine) × Spells schema.format line written × (line_meant schema written ≡ None)
ReadsAs schema line (Err BadLine) = (written : WrittenLine) → Spells schema.format line written → ⊥
