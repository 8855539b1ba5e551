-- What a header declares.
use Rattle.std.specs.Prelude.{ℕ, Bool, true, false, if◌then◌else◌, ◌≡◌, ◌≤◌, ◌%◌, ◌&&◌, ◌||◌, ◌==◌, not, nat_le, nat_lt, List, [], ◌∷◌, ◌++◌, length, codes, Option, None, Some, map, count_by, position, slice_get}
use Rattle.std.specs.Option.{option_map, option_and_then, option_map_or}
use Rattle.std.specs.List.{list_all, list_any}
use Rattle.std.specs.Map.{keys_of, values_of}
use Rattle.uni_base.specs.Fields.{same}
use Rattle.uni_base.specs.Numbers.{id_of}
use Rattle.uni_base.specs.Words.{is_name}
use Rattle.uni_base.specs.declared.edge.EdgeRef.{EdgeRef}
use Rattle.uni_base.specs.declared.edge.Key.{Key}
use Rattle.uni_base.specs.declared.edge.Key.TheVariants.{Id, Word}
use Rattle.uni_schema.specs.declared.schema.VerticalDef.{VerticalDef}
use Rattle.uni_schema.specs.declared.schema.TypeDef.{TypeDef}
use Rattle.uni_schema.specs.declared.schema.Origin.{Origin}
use Rattle.uni_schema.specs.declared.schema.Origin.TheVariants.{Vertical, Words}
use Rattle.uni_schema.specs.declared.schema.Owner.{Owner}
use Rattle.uni_schema.specs.declared.schema.Owner.TheVariants.{Source, Target, Both}
use Rattle.uni_schema.specs.declared.schema.Owners.{Owners}
use Rattle.uni_schema.specs.declared.schema.Store.{Store}
use Rattle.uni_schema.specs.declared.schema.Store.TheVariants.{Index, Forward}

-- the format of a script, 1 or 2, and the verticals and the types in the order of their lines
pub record Declarations : Type 0 where
  pub format : ℕ
  pub verticals : List VerticalDef
  pub types : List TypeDef

abbrev pub nothing : Declarations
nothing = record { format = 1; verticals = []; types = [] }

-- one vertical more
abbrev pub with_vertical : Declarations → VerticalDef → Declarations
with_vertical schema vertical = record schema { verticals = schema.verticals ++ vertical ∷ [] }

-- one type more
abbrev pub with_type : Declarations → TypeDef → Declarations
with_type schema type_def = record schema { types = schema.types ++ type_def ∷ [] }

-- a type that denies
abbrev pub denied : TypeDef → TypeDef
denied type_def = record type_def { deny = true }

-- the types, of which the one of this name denies
abbrev pub denying : List ℕ → List TypeDef → List TypeDef
denying name [] = []
denying name (type_def ∷ types) = if same name type_def.name then denied type_def ∷ types else type_def ∷ denying name types

-- the number of the vertical of a name
abbrev pub vertical_no : Declarations → List ℕ → Option ℕ
vertical_no schema name = position (same name) (map (λ vertical. vertical.name) schema.verticals)

-- the number of the type of a name
abbrev pub type_no : Declarations → List ℕ → Option ℕ
type_no schema name = position (same name) (map (λ type_def. type_def.name) schema.types)

-- the vertical and the type of a number
abbrev pub vertical_at : Declarations → ℕ → Option VerticalDef
vertical_at schema number = slice_get schema.verticals number

abbrev pub type_at : Declarations → ℕ → Option TypeDef
type_at schema number = slice_get schema.types number

-- the shard of an id in a vertical
abbrev pub shard_of : Declarations → ℕ → ℕ → ℕ
shard_of schema vertical id = option_map_or (λ v. id % v.shards) (vertical_at schema vertical) 0

-- the key that a text is where edges start there: the id that it spells, or itself
abbrev pub key_from : Origin → List ℕ → Option Key
key_from (Vertical vertical) text = option_map Id (id_of text)
key_from Words text = Some (Word text)

-- the key that a text is under a type
abbrev pub key_of : Declarations → ℕ → List ℕ → Option Key
key_of schema number text = option_and_then (λ type_def. key_from type_def.origin text) (type_at schema number)

-- the entity that an edge starts at
abbrev pub source_of : Key → Option ℕ
source_of (Id id) = Some id
source_of (Word text) = None

abbrev pub owners_by : Owner → EdgeRef → Owners
owners_by Source edge = record { first = source_of edge.key; second = None }
owners_by Target edge = record { first = None; second = Some edge.target }
owners_by Both edge = record { first = source_of edge.key; second = Some edge.target }

-- the entities that own an edge, by the owner of its type
abbrev pub owners_of : Declarations → EdgeRef → Owners
owners_of schema edge = elim (type_at schema edge.type_no) [ None ↦ record { first = None; second = None } | Some type_def ↦ owners_by type_def.owner edge ]

-- each is kept under its own name
pub record AreNamed (verticals : List (List ℕ × VerticalDef)) (types : List (List ℕ × TypeDef)) : Type 0 where
  pub vertical_names : keys_of verticals ≡ map (λ vertical. vertical.name) (values_of verticals)
  pub type_names : keys_of types ≡ map (λ type_def. type_def.name) (values_of types)

-- 1 to 64 shards, and 1 to 4 replicas of each
abbrev pub is_vertical : VerticalDef → Bool
is_vertical vertical = nat_le 1 vertical.shards && nat_le vertical.shards 64 && nat_le 1 vertical.replicas && nat_le vertical.replicas 4

abbrev pub starts_at_words : Origin → Bool
starts_at_words (Vertical vertical) = false
starts_at_words Words = true

abbrev pub is_target_owner : Owner → Bool
is_target_owner Target = true
is_target_owner _ = false

abbrev pub is_index : Store → Bool
is_index Index = true
is_index Forward = false

-- the vertical that edges start at, if they do, is one of so many
abbrev pub starts_below : ℕ → Origin → Bool
starts_below count (Vertical vertical) = nat_lt vertical count
starts_below count Words = true

-- a type's source and target are among so many verticals. Edges from words are owned by their targets
-- and kept in the index; edges that deny start at entities and are kept in the index
abbrev pub is_type : ℕ → TypeDef → Bool
is_type count type_def =
    starts_below count type_def.origin && nat_lt type_def.target count
    && (not (starts_at_words type_def.origin) || (is_target_owner type_def.owner && is_index type_def.store))
    && (not type_def.deny || (is_index type_def.store && not (starts_at_words type_def.origin)))

-- how many types deny
abbrev pub denials : List TypeDef → ℕ
denials types = count_by (λ type_def. type_def.deny) types

-- a vertical's name is a name, but not `word`
abbrev pub is_vertical_name : List ℕ → Bool
is_vertical_name text = is_name text && not (same text (codes "word"))

-- no name of a list is the same as one before it, or as one of those that stand before the list
abbrev pub are_fresh : List (List ℕ) → List (List ℕ) → Bool
are_fresh before [] = true
are_fresh before (name ∷ names) = not (list_any (same name) before) && are_fresh (before ++ name ∷ []) names

abbrev pub vertical_names : Declarations → List (List ℕ)
vertical_names schema = map (λ vertical. vertical.name) schema.verticals

abbrev pub type_names : Declarations → List (List ℕ)
type_names schema = map (λ type_def. type_def.name) schema.types

-- what every schema keeps
pub record IsSchema (schema : Declarations) : Type 0 where
  pub format : ((schema.format == 1) || (schema.format == 2)) ≡ true
  pub few_verticals : length schema.verticals ≤ 16
  pub few_types : length schema.types ≤ 256
  pub few_denials : denials schema.types ≤ 8
  pub verticals : list_all is_vertical schema.verticals ≡ true
  pub types : list_all (is_type (length schema.verticals)) schema.types ≡ true
  pub verticals_named : list_all is_vertical_name (vertical_names schema) ≡ true
  pub types_named : list_all is_name (type_names schema) ≡ true
  pub verticals_apart : are_fresh [] (vertical_names schema) ≡ true
  pub types_apart : are_fresh [] (type_names schema) ≡ true
