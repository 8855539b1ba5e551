-- What the lines of a header say, by their texts.
use Rattle.std.specs.Prelude.{ℕ, ◌+◌, ◌≤◌, ◌<◌, true, false, ◌≡◌, ◌↔◌, ◌⊎◌, List, [], ◌∷◌, ◌++◌, length, None, Some, codes}
use Rattle.uni_base.specs.Fields.{spaced, is_skipped}
use Rattle.uni_schema.specs.Header.{HeaderState, opening, passed, told, Opening, opens, refused, opening_of}
use Rattle.uni_schema.specs.Rules.{rules}
use Rattle.uni_schema.specs.Schema.{Declarations}
use Rattle.uni_schema.specs.declared.refusal.SchemaRefusal.{SchemaRefusal}
use Rattle.uni_schema.specs.declared.refusal.SchemaRefusal.TheVariants.{BadLine, NoBegin}
use Rattle.uni_base.specs.Numbers.{number_of}
use Rattle.uni_schema.specs.Lines.{declaration_of}
use Rattle.uni_schema.specs.declared.line.HeaderLine.{HeaderLine}
use Rattle.uni_schema.specs.declared.line.HeaderLine.TheVariants.{Format, Vertical, EdgeType, Deny, Begin}
use Rattle.uni_schema.specs.declared.schema.Owner.{Owner}
use Rattle.uni_schema.specs.declared.schema.Owner.TheVariants.{Source, Target, Both}
use Rattle.uni_schema.specs.declared.schema.Store.{Store}
use Rattle.uni_base.specs.Words.{is_name}
use Rattle.uni_schema.specs.declared.schema.Store.TheVariants.{Index, Forward}

abbrev pub IsName : List ℕ → Type 0
IsName name = is_name name ≡ true

-- a text is a numeral of a number
abbrev pub IsNumeralOf : List ℕ → ℕ → Type 0
IsNumeralOf text number = number_of text ≡ Some number

abbrev pub owner_word : Owner → List ℕ
owner_word Source = codes "source"
owner_word Target = codes "target"
owner_word Both = codes "both"

abbrev pub store_word : Store → List ℕ
store_word Index = codes "index"
store_word Forward = codes "forward"

-- fields say this
abbrev pub FieldsSay : List (List ℕ) → HeaderLine → Type 0
FieldsSay fields (Format format) = (a : List ℕ) × (fields ≡ codes "unicorn" ∷ a ∷ []) × IsNumeralOf a format
FieldsSay fields (Vertical name shards replicas) =
    (a : List ℕ) × (b : List ℕ) × (fields ≡ codes "vertical" ∷ name ∷ a ∷ b ∷ []) × IsName name × IsNumeralOf a shards × IsNumeralOf b replicas
FieldsSay fields (EdgeType name source target owner store) =
    (fields ≡ codes "type" ∷ name ∷ source ∷ target ∷ owner_word owner ∷ store_word store ∷ []) × IsName name × IsName source × IsName target
FieldsSay fields (Deny name) = (fields ≡ codes "deny" ∷ name ∷ []) × IsName name
FieldsSay fields Begin = fields ≡ codes "begin" ∷ []

-- a line says this: it is the text of such fields, with one space between any two
abbrev pub Says : List ℕ → HeaderLine → Type 0
Says line said = (fields : List (List ℕ)) × (line ≡ spaced fields) × FieldsSay fields said

-- what is read off a line is what it says by its text
pub record LinesByText : Type 0 where
  pub is : (line : List ℕ) (said : HeaderLine) → (declaration_of line ≡ Some said) ↔ Says line said

-- lines lead a reader from one state to another: each is skipped, or says something by its text that
-- no rule refuses, and none follows `begin`
pub data Leads : HeaderState → List (List ℕ) → HeaderState → Type 0 where
  stays : (state : HeaderState) → Leads state [] state
  skips : (state end : HeaderState) (line : List ℕ) (lines : List (List ℕ)) → state.ended ≡ false → is_skipped line ≡ true
      → Leads (passed state) lines end → Leads state (line ∷ lines) end
  tells : (state end : HeaderState) (line : List ℕ) (lines : List (List ℕ)) (said : HeaderLine) → state.ended ≡ false → is_skipped line ≡ false
      → length line ≤ state.longest → Says line said → rules (state.taken + 1) state.begun state.schema said ≡ None
      → Leads (told state said) lines end → Leads state (line ∷ lines) end

-- a line breaks a rule: it is too long, says nothing by its text, or what it says is refused
abbrev pub Breaks : HeaderState → List ℕ → SchemaRefusal → Type 0
Breaks state line refusal = (is_skipped line ≡ false)
    × (((refusal ≡ BadLine (state.taken + 1)) × ((state.longest < length line) ⊎ ((said : HeaderLine) → Says line said → ⊥)))
    ⊎ ((said : HeaderLine) × (length line ≤ state.longest) × Says line said × (rules (state.taken + 1) state.begun state.schema said ≡ Some refusal)))

-- lines are a whole header, which declares this
pub record HeaderSpells (longest : ℕ) (lines : List (List ℕ)) (schema : Declarations) : Type 0 where
  pub last : HeaderState
  pub leads : Leads (opening longest) lines last
  pub begins : last.ended ≡ true
  pub declares : last.schema ≡ schema

-- the first line that breaks a rule, or the want of `begin`
pub data HeaderFault (longest : ℕ) : List (List ℕ) → SchemaRefusal → Type 0 where
  breaks : (front rest : List (List ℕ)) (line : List ℕ) (state : HeaderState) (refusal : SchemaRefusal) → Leads (opening longest) front state → state.ended ≡ false
      → Breaks state line refusal → HeaderFault longest (front ++ line ∷ rest) refusal
  lacks : (lines : List (List ℕ)) (state : HeaderState) → Leads (opening longest) lines state → state.ended ≡ false → HeaderFault longest lines (NoBegin (length lines + 1))

-- an opening of lines: a whole header by its text, the number of the line after it and the lines from
-- there on; or their fault
abbrev pub IsOpening : ℕ → List (List ℕ) → Opening → Type 0
IsOpening longest lines (opens schema number rest) =
    (header : List (List ℕ)) × (lines ≡ header ++ rest) × (number ≡ length header + 1) × HeaderSpells longest header schema
IsOpening longest lines (refused refusal) = HeaderFault longest lines refusal

-- what `opening_of` gives is an opening by texts, and the only one
pub record OpensByText : Type 0 where
  pub is : (longest : ℕ) (lines : List (List ℕ)) → IsOpening longest lines (opening_of longest lines)
  pub only : (longest : ℕ) (lines : List (List ℕ)) (answer : Opening) → IsOpening longest lines answer → answer ≡ opening_of longest lines
