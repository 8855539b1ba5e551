-- The text of a schema: the lines of a header that declares it.
use Rattle.std.specs.Prelude.{ℕ, ◌≡◌, ◌+◌, if◌then◌else◌, List, [], ◌∷◌, ◌++◌, length, map, codes}
use Rattle.std.specs.Fmt.{decimal}
use Rattle.std.specs.Option.{option_map_or}
use Rattle.uni_base.specs.Fields.{spaced}
use Rattle.uni_base.specs.Lines.{lines_of, lined}
use Rattle.uni_schema.specs.Schema.{Declarations, IsSchema, vertical_at}
use Rattle.uni_schema.specs.Header.{opens, opening_of}
use Rattle.uni_schema.specs.HeaderText.{owner_word, store_word}
use Rattle.uni_schema.specs.declared.schema.VerticalDef.{VerticalDef}
use Rattle.uni_schema.specs.declared.schema.TypeDef.{TypeDef}
use Rattle.uni_schema.specs.declared.schema.Origin.{Origin}
use Rattle.uni_schema.specs.declared.schema.Origin.TheVariants.{Vertical, Words}

-- the line of each kind of declaration
abbrev pub format_line : ℕ → List ℕ
format_line format = spaced (codes "unicorn" ∷ decimal format ∷ [])

abbrev pub vertical_line : VerticalDef → List ℕ
vertical_line vertical = spaced (codes "vertical" ∷ vertical.name ∷ decimal vertical.shards ∷ decimal vertical.replicas ∷ [])

-- the name of a vertical by its number
abbrev pub vertical_name : Declarations → ℕ → List ℕ
vertical_name schema number = option_map_or (λ vertical. vertical.name) (vertical_at schema number) []

abbrev pub source_name : Declarations → Origin → List ℕ
source_name schema (Vertical number) = vertical_name schema number
source_name schema Words = codes "word"

abbrev pub type_line : Declarations → TypeDef → List ℕ
type_line schema type_def = spaced (codes "type" ∷ type_def.name ∷ source_name schema type_def.origin ∷ vertical_name schema type_def.target
    ∷ owner_word type_def.owner ∷ store_word type_def.store ∷ [])

abbrev pub deny_line : TypeDef → List ℕ
deny_line type_def = spaced (codes "deny" ∷ type_def.name ∷ [])

-- a line for each type that denies
abbrev pub deny_lines : List TypeDef → List (List ℕ)
deny_lines [] = []
deny_lines (type_def ∷ types) = if type_def.deny then deny_line type_def ∷ deny_lines types else deny_lines types

-- the format, the verticals, the types, those that deny, and `begin`
abbrev pub header_lines : Declarations → List (List ℕ)
header_lines schema =
    format_line schema.format ∷ (map vertical_line schema.verticals ++ (map (type_line schema) schema.types ++ (deny_lines schema.types ++ codes "begin" ∷ [])))

-- the text of a schema
abbrev pub header_text : Declarations → List ℕ
header_text schema = lined (header_lines schema)

-- the text of a schema is read, line by line, as that schema again
pub record PrintIsRead : Type 0 where
  pub is : (schema : Declarations) → IsSchema schema → opening_of 65536 (lines_of (header_text schema)) ≡ opens schema (length (header_lines schema) + 1) []
