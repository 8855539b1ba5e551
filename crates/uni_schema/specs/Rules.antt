-- The rules of a header, and what its lines declare.
use Rattle.std.specs.Prelude.{ℕ, Bool, true, false, ◌==◌, ◌&&◌, ◌||◌, not, nat_le, if◌then◌else◌, List, length, Option, None, Some, codes, is_some, is_none, unwrap_or}
use Rattle.std.specs.Option.{option_map_or, option_and_then}
use Rattle.uni_base.specs.Fields.{same}
use Rattle.uni_schema.specs.Schema.{Declarations, with_vertical, with_type, denying, denials, vertical_no, type_no, type_at, is_target_owner, is_index, starts_at_words}
use Rattle.uni_schema.specs.declared.line.HeaderLine.{HeaderLine}
use Rattle.uni_schema.specs.declared.line.HeaderLine.TheVariants.{Format, Vertical, EdgeType, Deny, Begin}
use Rattle.uni_schema.specs.declared.schema.Owner.{Owner}
use Rattle.uni_schema.specs.declared.schema.Store.{Store}
use Rattle.uni_schema.specs.declared.schema.TypeDef.{TypeDef}
use Rattle.uni_schema.specs.declared.schema.Origin.{Origin}
use Rattle.uni_schema.specs.declared.schema.Origin.TheVariants as origins
use Rattle.uni_schema.specs.declared.refusal.SchemaRefusal.{SchemaRefusal}
use Rattle.uni_base.specs.Words.{is_name}
use Rattle.uni_schema.specs.declared.refusal.SchemaRefusal.TheVariants.{BadLine, NamedTwice, UnknownVertical, OutOfRange, WordSource, TooMany, BadDeny}

-- `word`, which is no vertical's name
abbrev pub is_word_name : List ℕ → Bool
is_word_name name = same name (codes "word")

-- a refusal where a test passes, else what else refuses
abbrev pub refused_if : Bool → SchemaRefusal → Option SchemaRefusal → Option SchemaRefusal
refused_if test refusal others = if test then Some refusal else others

-- the rules of each kind of line, by their codes, of which the least that is broken refuses it
abbrev pub vertical_rules : ℕ → Declarations → List ℕ → ℕ → ℕ → Option SchemaRefusal
vertical_rules n schema name shards replicas =
    refused_if (is_word_name name || is_some (vertical_no schema name)) (NamedTwice n)
    (refused_if (not (nat_le 1 shards && nat_le shards 64) || not (nat_le 1 replicas && nat_le replicas 4)) (OutOfRange n)
    (refused_if (nat_le 16 (length schema.verticals)) (TooMany n) None))

abbrev pub type_rules : ℕ → Declarations → List ℕ → List ℕ → List ℕ → Owner → Store → Option SchemaRefusal
type_rules n schema name source target owner store =
    refused_if (is_some (type_no schema name)) (NamedTwice n)
    (refused_if (not (is_word_name source || is_some (vertical_no schema source)) || is_none (vertical_no schema target)) (UnknownVertical n)
    (refused_if (is_word_name source && (not (is_target_owner owner) || not (is_index store))) (WordSource n)
    (refused_if (nat_le 256 (length schema.types)) (TooMany n) None)))

-- whether edges of a type may deny: they are kept in the index, start at entities and do not deny yet
abbrev pub may_deny : TypeDef → Bool
may_deny type_def = is_index type_def.store && not (starts_at_words type_def.origin) && not type_def.deny

abbrev pub deny_rules : ℕ → Declarations → List ℕ → Option SchemaRefusal
deny_rules n schema name =
    refused_if (nat_le 8 (denials schema.types)) (TooMany n)
    (refused_if (not (option_map_or may_deny (option_and_then (type_at schema) (type_no schema name)) false)) (BadDeny n) None)

-- why a line is refused, if it is: n is its number, and the format line has stood before it or not.
-- The format stands first and only there
abbrev pub rules : ℕ → Bool → Declarations → HeaderLine → Option SchemaRefusal
rules n begun schema (Format format) = refused_if (begun || not ((format == 1) || (format == 2))) (BadLine n) None
rules n begun schema (Vertical name shards replicas) = refused_if (not begun) (BadLine n) (vertical_rules n schema name shards replicas)
rules n begun schema (EdgeType name source target owner store) = refused_if (not begun) (BadLine n) (type_rules n schema name source target owner store)
rules n begun schema (Deny name) = refused_if (not begun) (BadLine n) (deny_rules n schema name)
rules n begun schema Begin = refused_if (not begun) (BadLine n) None

-- the names that a line declares are names
abbrev pub is_written : HeaderLine → Bool
is_written (Vertical name shards replicas) = is_name name
is_written (EdgeType name source target owner store) = is_name name
is_written _ = true

-- where edges start by the name of their source
abbrev pub origin_of : Declarations → List ℕ → Origin
origin_of schema source = if is_word_name source then origins.Words else origins.Vertical (unwrap_or (vertical_no schema source) 0)

-- the type that a line declares
abbrev pub type_told : Declarations → List ℕ → List ℕ → List ℕ → Owner → Store → TypeDef
type_told schema name source target owner store = record {
  name = name;
  origin = origin_of schema source;
  target = unwrap_or (vertical_no schema target) 0;
  owner = owner;
  store = store;
  deny = false;
}

-- what is declared after a line
abbrev pub declares : Declarations → HeaderLine → Declarations
declares schema (Format format) = record schema { format = format }
declares schema (Vertical name shards replicas) = with_vertical schema (record { name = name; shards = shards; replicas = replicas })
declares schema (EdgeType name source target owner store) = with_type schema (type_told schema name source target owner store)
declares schema (Deny name) = record schema { types = denying name schema.types }
declares schema Begin = schema
