-- The edges of a shard, as they are gathered from its entities.
use Rattle.std.specs.Prelude.{ℕ, Bool, false, ◌==◌, ◌&&◌, ◌<◌, not, List, length}
use Rattle.std.specs.List.{list_any, All, IsDistinct}
use Rattle.std.specs.Option.{option_map_or}
use Rattle.uni_base.specs.declared.edge.EdgeRef.{EdgeRef}
use Rattle.uni_base.specs.declared.edge.Held.{Held}
use Rattle.uni_base.specs.declared.entity.DocKey.{DocKey}
use Rattle.uni_schema.specs.Schema.{Declarations, type_at, is_index}
use Rattle.uni_table.specs.Contents.{reaches, leaves}
use Rattle.uni_table.specs.Lists.{starts_in}

-- no two of the entities have one id
abbrev pub AreApart : List DocKey → Type 0
AreApart docs = IsDistinct (λ a b. a.id == b.id) docs

-- whether an edge reaches some of the entities
abbrev pub reaches_any : List DocKey → EdgeRef → Bool
reaches_any docs edge = list_any (λ k. reaches k.id edge) docs

-- whether a type is a forward one from a vertical
abbrev pub is_forward_type : Declarations → ℕ → ℕ → Bool
is_forward_type schema vertical number = option_map_or (λ type_def. not (is_index type_def.store) && starts_in vertical type_def.origin) (type_at schema number) false

-- whether an edge is a forward one from a vertical, and leaves an id
abbrev pub leaves_forward : Declarations → ℕ → ℕ → EdgeRef → Bool
leaves_forward schema vertical id edge = leaves id edge && is_forward_type schema vertical edge.type_no

-- whether it leaves some of the entities
abbrev pub leaves_any_forward : Declarations → ℕ → List DocKey → EdgeRef → Bool
leaves_any_forward schema vertical docs edge = list_any (λ k. leaves_forward schema vertical k.id edge) docs

-- whether an edge is of an index type
abbrev pub is_indexed : Declarations → Held → Bool
is_indexed schema held = option_map_or (λ type_def. is_index type_def.store) (type_at schema held.edge.type_no) false

-- the types of edges are declared
abbrev pub AreDeclared : Declarations → List Held → Type 0
AreDeclared schema held = All (λ h. h.edge.type_no < length schema.types) held
