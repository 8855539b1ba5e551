-- The lines of a header.
use Rattle.std.specs.Prelude.{ℕ, if◌then◌else◌, List, [], ◌∷◌, Option, None, Some, codes}
use Rattle.std.specs.Option.{option_map, option_and_then}
use Rattle.uni_base.specs.Fields.{same, fields_of}
use Rattle.uni_base.specs.Words.{is_name}
use Rattle.uni_base.specs.Numbers.{number_of}
use Rattle.uni_schema.specs.declared.line.HeaderLine.{HeaderLine}
use Rattle.uni_schema.specs.declared.line.HeaderLine.TheVariants.{Format, Vertical, EdgeType, Deny, Begin}
use Rattle.uni_schema.specs.declared.schema.Owner.{Owner}
use Rattle.uni_schema.specs.declared.schema.Owner.TheVariants.{Source, Target, Both}
use Rattle.uni_schema.specs.declared.schema.Store.{Store}
use Rattle.uni_schema.specs.declared.schema.Store.TheVariants.{Index, Forward}

-- the name that a text is, if it is one
abbrev pub name_of : List ℕ → Option (List ℕ)
name_of text = if is_name text then Some text else None

-- the owner of a type by its word
abbrev pub owner_of : List ℕ → Option Owner
owner_of word = if same word (codes "source") then Some Source
    else (if same word (codes "target") then Some Target
    else (if same word (codes "both") then Some Both else None))

-- the store of a type by its word
abbrev pub store_of : List ℕ → Option Store
store_of word = if same word (codes "index") then Some Index
    else (if same word (codes "forward") then Some Forward else None)

-- what the fields after the first word of each form say
abbrev pub format_by : List (List ℕ) → Option HeaderLine
format_by (format ∷ []) = option_map Format (number_of format)
format_by _ = None

abbrev pub vertical_by : List (List ℕ) → Option HeaderLine
vertical_by (name ∷ shards ∷ replicas ∷ []) =
    option_and_then (λ n. option_and_then (λ s. option_map (λ r. Vertical n s r) (number_of replicas)) (number_of shards)) (name_of name)
vertical_by _ = None

abbrev pub type_by : List (List ℕ) → Option HeaderLine
type_by (name ∷ source ∷ target ∷ owner ∷ store ∷ []) =
    option_and_then (λ n. option_and_then (λ s. option_and_then (λ t. option_and_then (λ o.
    option_map (λ k. EdgeType n s t o k) (store_of store)) (owner_of owner)) (name_of target)) (name_of source)) (name_of name)
type_by _ = None

abbrev pub deny_by : List (List ℕ) → Option HeaderLine
deny_by (name ∷ []) = option_map Deny (name_of name)
deny_by _ = None

abbrev pub begin_by : List (List ℕ) → Option HeaderLine
begin_by [] = Some Begin
begin_by _ = None

abbrev pub declared_by : List (List ℕ) → Option HeaderLine
declared_by [] = None
declared_by (word ∷ fields) =
    if same word (codes "unicorn") then format_by fields
    else (if same word (codes "vertical") then vertical_by fields
    else (if same word (codes "type") then type_by fields
    else (if same word (codes "deny") then deny_by fields
    else (if same word (codes "begin") then begin_by fields else None))))

-- what a line says, if it is of one of the forms
abbrev pub declaration_of : List ℕ → Option HeaderLine
declaration_of line = declared_by (fields_of line)
