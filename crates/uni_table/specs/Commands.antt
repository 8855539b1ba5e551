-- What a command does to a table, and which ones are refused.
use Rattle.std.specs.Prelude.{ℕ, Bool, ◌<◌, not, ◌||◌, if◌then◌else◌, List, length, Option, None, Some, is_some, nat_lt}
use Rattle.std.specs.Option.{option_map, option_map_or, option_and_then, option_or}
use Rattle.uni_base.specs.declared.edge.EdgeRef.{EdgeRef}
use Rattle.uni_base.specs.declared.edge.Audience.{Audience}
use Rattle.uni_base.specs.declared.edge.Audience.TheVariants.{Public as PublicAudience, Only as OnlyAudience, Circle as CircleAudience}
use Rattle.uni_base.specs.declared.limits.Limits.{Limits}
use Rattle.uni_schema.specs.Schema.{Declarations, type_at, key_of, key_from, is_index}
use Rattle.uni_schema.specs.declared.schema.TypeDef.{TypeDef}
use Rattle.uni_table.specs.Contents.{Contents, entity_at, is_in, has_edge, source_stands, count_from, with_entity, without_entity, with_edge, without_edge}
use Rattle.uni_table.specs.declared.command.AudienceText.{AudienceText}
use Rattle.uni_table.specs.declared.command.AudienceText.TheVariants.{Public, Only, Circle}
use Rattle.uni_table.specs.declared.command.Command.{Command}
use Rattle.uni_table.specs.declared.command.Command.TheVariants.{Entity, Gone, Edge, Cut}
use Rattle.uni_table.specs.declared.refusal.FeedRefusal.{FeedRefusal}
use Rattle.uni_table.specs.declared.refusal.FeedRefusal.TheVariants.{NoSource, NoTarget, UnknownCircle, Elsewhere, ForwardFull, TableFull}

-- the circle of a type's number, the type and a key as text, where edges of the type lead to members and
-- the text is a key of the type
abbrev pub circle_of : ℕ → List ℕ → TypeDef → Option Audience
circle_of number text type_def = if is_index type_def.store then option_map (λ key. CircleAudience number key) (key_from type_def.origin text) else None

-- the audience that a command writes, where its circle is one
abbrev pub audience_of : Declarations → AudienceText → Option Audience
audience_of schema Public = Some PublicAudience
audience_of schema Only = Some OnlyAudience
audience_of schema (Circle number text) = option_and_then (circle_of number text) (type_at schema number)

-- the edge of a type number, a key as text and a target, where the text is a key of the type
abbrev pub edge_of : Declarations → ℕ → List ℕ → ℕ → Option EdgeRef
edge_of schema number key target = option_map (λ k. record { type_no = number; key = k; target = target }) (key_of schema number key)

-- the table after an edge is put, where it and its audience are such
abbrev pub next_edge : Contents → ℕ → Option EdgeRef → Option Audience → Contents
next_edge table until (Some edge) (Some audience) = with_edge table edge (record { audience = audience; end = until })
next_edge table until (Some edge) None = table
next_edge table until None audience = table

-- the table after a command: the row of the id, or that of the edge, is replaced or added in its place, or
-- it goes, and with an entity each edge that leaves or reaches it
abbrev pub next : Declarations → Contents → Command → Contents
next schema table (Entity vertical id rank) = with_entity table id (record { vertical = vertical; rank = rank })
next schema table (Gone id) = without_entity table id
next schema table (Edge number key target audience until) = next_edge table until (edge_of schema number key target) (audience_of schema audience)
next schema table (Cut number key target) = option_map_or (λ edge. without_edge table edge) (edge_of schema number key target) table

-- whether the type and key of an edge have fewer forward edges than they may, or the edge is no forward one
abbrev pub has_forward_room : Limits → Contents → TypeDef → EdgeRef → Bool
has_forward_room limits table type_def edge = is_index type_def.store || nat_lt (count_from table edge.type_no edge.key) limits.forward

-- why an edge of a type is refused for its ends, if it is
abbrev pub refuses_ends : Contents → TypeDef → EdgeRef → Option FeedRefusal
refuses_ends table type_def edge =
    if not (source_stands table type_def.origin edge.key) then Some NoSource
    else (if not (is_in table type_def.target edge.target) then Some NoTarget
    else None)

-- why an edge of a type is refused for want of room, if it is: one that the table has never is
abbrev pub refuses_new_edge : Limits → Contents → TypeDef → EdgeRef → Option FeedRefusal
refuses_new_edge limits table type_def edge =
    if has_edge table edge then None
    else (if not (has_forward_room limits table type_def edge) then Some ForwardFull
    else (if nat_lt (length table.edges) limits.edges then None
    else Some TableFull))

-- why an audience is refused: its circle is none
abbrev pub refuses_audience : Option Audience → Option FeedRefusal
refuses_audience (Some audience) = None
refuses_audience None = Some UnknownCircle

-- why an edge of a type, with its audience if that is one, is refused, the first reason in the order of the
-- codes, if it is
abbrev pub refuses_edge : Limits → Contents → TypeDef → EdgeRef → Option Audience → Option FeedRefusal
refuses_edge limits table type_def edge audience =
    option_or (refuses_ends table type_def edge) (option_or (refuses_audience audience) (refuses_new_edge limits table type_def edge))

-- why an entity is refused, if it is
abbrev pub refuses_entity : Limits → Contents → ℕ → ℕ → Option FeedRefusal
refuses_entity limits table vertical id =
    if is_some (entity_at table id) then (if is_in table vertical id then None else Some Elsewhere)
    else (if nat_lt (length table.entities) limits.entities then None else Some TableFull)

-- why a command is refused, the first reason in the order of the codes, if it is
abbrev pub refuses : Declarations → Limits → Contents → Command → Option FeedRefusal
refuses schema limits table (Entity vertical id rank) = refuses_entity limits table vertical id
refuses schema limits table (Gone id) = None
refuses schema limits table (Edge number key target audience until) =
    option_and_then (λ type_def. option_map_or (λ edge. refuses_edge limits table type_def edge (audience_of schema audience)) (edge_of schema number key target) (Some NoSource)) (type_at schema number)
refuses schema limits table (Cut number key target) = None

-- the type of an audience's circle is declared
abbrev pub IsDeclaredAudience : Declarations → AudienceText → Type 0
IsDeclaredAudience schema Public = Unit {0}
IsDeclaredAudience schema Only = Unit {0}
IsDeclaredAudience schema (Circle number text) = number < length schema.types

-- the numbers of a command are declared
abbrev pub IsDeclared : Declarations → Command → Type 0
IsDeclared schema (Entity vertical id rank) = vertical < length schema.verticals
IsDeclared schema (Gone id) = Unit {0}
IsDeclared schema (Edge number key target audience until) = (number < length schema.types) × IsDeclaredAudience schema audience
IsDeclared schema (Cut number key target) = number < length schema.types
