-- What is read off a line of a feed, field by field.
use Rattle.std.specs.Prelude.{ℕ, ◌≡◌, ◌↔◌, ◌==◌, ◌&&◌, if◌then◌else◌, List, [], ◌∷◌, Option, None, Some, Result, Ok, Err, codes}
use Rattle.std.specs.Option.{option_map, option_and_then}
use Rattle.uni_base.specs.Fields.{same, fields_of, cut_at}
use Rattle.uni_base.specs.Words.{is_word}
use Rattle.uni_base.specs.Numbers.{id_of, number_between}
use Rattle.uni_schema.specs.Lines.{name_of}
use Rattle.uni_schema.specs.Schema.{Declarations}
use Rattle.feed_reader.specs.FeedText.{WrittenAudience, public_audience, only_audience, circle_audience, WrittenLine, entity_line, gone_line, edge_line, cut_line, publish_line, line_meant, ReadsAs}
use Rattle.feed_reader.specs.declared.line.FeedLine.{FeedLine}
use Rattle.feed_reader.specs.declared.fault.LineFault.{LineFault}
use Rattle.feed_reader.specs.declared.fault.LineFault.TheVariants.{BadLine, UnknownName}

-- the word that a text is, if it is one
abbrev pub word_of : List ℕ → Option (List ℕ)
word_of text = if is_word text then Some text else None

-- the name and the key in the text of a circle, which are what stands after `in:`, cut at its first `:`
abbrev pub circle_parts : List ℕ → Option (List ℕ × List ℕ)
circle_parts text = option_and_then (λ parts. if same parts.0 (codes "in") then cut_at 58 parts.1 else None) (cut_at 58 text)

abbrev pub circle_of : List ℕ × List ℕ → Option WrittenAudience
circle_of parts = option_and_then (λ type_name. option_map (λ key. circle_audience type_name key) (word_of parts.1)) (name_of parts.0)

-- the audience that a text is, if it is one
abbrev pub audience_in : List ℕ → Option WrittenAudience
audience_in text = if same text (codes "public") then Some public_audience
    else (if same text (codes "only") then Some only_audience
    else option_and_then circle_of (circle_parts text))

-- the end that the fields after an audience write: none where there are none
abbrev pub until_in : ℕ → List (List ℕ) → Option (Option ℕ)
until_in format [] = Some None
until_in format (word ∷ number ∷ []) = if (format == 2) && same word (codes "until") then option_map Some (number_between 1 1048576 number) else None
until_in format _ = None

-- what the fields after the first word of each form write
abbrev pub entity_in : List (List ℕ) → Option WrittenLine
entity_in (vertical ∷ id ∷ rank ∷ []) =
    option_and_then (λ v. option_and_then (λ i. option_map (λ r. entity_line v i r) (number_between 0 4294967295 rank)) (id_of id)) (name_of vertical)
entity_in _ = None

abbrev pub gone_in : List (List ℕ) → Option WrittenLine
gone_in (id ∷ []) = option_map gone_line (id_of id)
gone_in _ = None

abbrev pub edge_in : ℕ → List (List ℕ) → Option WrittenLine
edge_in format (type_name ∷ key ∷ target ∷ audience ∷ until) =
    option_and_then (λ n. option_and_then (λ k. option_and_then (λ t. option_and_then (λ a.
    option_map (λ u. edge_line n k t a u) (until_in format until)) (audience_in audience)) (id_of target)) (word_of key)) (name_of type_name)
edge_in format _ = None

abbrev pub cut_in : List (List ℕ) → Option WrittenLine
cut_in (type_name ∷ key ∷ target ∷ []) =
    option_and_then (λ n. option_and_then (λ k. option_map (λ t. cut_line n k t) (id_of target)) (word_of key)) (name_of type_name)
cut_in _ = None

abbrev pub publish_in : List (List ℕ) → Option WrittenLine
publish_in [] = Some publish_line
publish_in _ = None

abbrev pub written_in : ℕ → List (List ℕ) → Option WrittenLine
written_in format [] = None
written_in format (word ∷ fields) =
    if same word (codes "edge") then edge_in format fields
    else (if same word (codes "entity") then entity_in fields
    else (if same word (codes "cut") then cut_in fields
    else (if same word (codes "gone") then gone_in fields
    else (if same word (codes "publish") then publish_in fields else None))))

-- what is written, if a line is of one of the forms
abbrev pub written_of : ℕ → List ℕ → Option WrittenLine
written_of format line = written_in format (fields_of line)

-- a line that is written with a name which is not declared is none
abbrev pub known : Option FeedLine → Result FeedLine LineFault
known (Some read) = Ok read
known None = Err UnknownName

abbrev pub answer : Declarations → Option WrittenLine → Result FeedLine LineFault
answer schema (Some written) = known (line_meant schema written)
answer schema None = Err BadLine

-- what a line is under a schema
abbrev pub feed_line_of : Declarations → List ℕ → Result FeedLine LineFault
feed_line_of schema line = answer schema (written_of schema.format line)

-- what is read off a line is what it reads as by its text
pub record LinesByText : Type 0 where
  pub is : (schema : Declarations) (line : List ℕ) (read : Result FeedLine LineFault) → (feed_line_of schema line ≡ read) ↔ ReadsAs schema line read
