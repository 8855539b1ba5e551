-- What a table holds.
use Rattle.std.specs.Prelude.{ℕ, Bool, true, false, ◌==◌, ◌&&◌, ◌||◌, not, nat_le, nat_lt, List, [], Option, is_some, filter, length}
use Rattle.std.specs.Option.{option_map, option_map_or}
use Rattle.std.specs.Ordering.{nat_cmp, is_eq}
use Rattle.std.specs.Map.{lookup, remove_entry}
use Rattle.std.specs.BTreeMap.{insert_entry, is_at}
use Rattle.uni_base.specs.declared.edge.EdgeRef.{EdgeRef}
use Rattle.uni_base.specs.declared.edge.Audience.{Audience}
use Rattle.uni_base.specs.declared.edge.Key.{Key}
use Rattle.uni_base.specs.declared.edge.Key.TheVariants.{Id, Word}
use Rattle.uni_base.specs.EdgeOrder.{edge_cmp, key_cmp}
use Rattle.uni_schema.specs.Schema.{Declarations, type_at, source_of}
use Rattle.uni_schema.specs.declared.schema.Origin.{Origin}
use Rattle.uni_schema.specs.declared.schema.Origin.TheVariants.{Vertical, Words}
use Rattle.uni_table.specs.declared.command.EntityRow.{EntityRow}
use Rattle.uni_table.specs.declared.command.EdgeRow.{EdgeRow}

-- a table: its entities by id, and its edges by type number, key and target
pub record Contents : Type 0 where
  pub entities : List (ℕ × EntityRow)
  pub edges : List (EdgeRef × EdgeRow)

-- the empty table
abbrev pub empty : Contents
empty = record { entities = []; edges = [] }

-- the entity of an id
abbrev pub entity_at : Contents → ℕ → Option EntityRow
entity_at table id = lookup (is_at (nat_cmp id)) table.entities

-- the row of an edge
abbrev pub edge_at : Contents → EdgeRef → Option EdgeRow
edge_at table edge = lookup (is_at (edge_cmp edge)) table.edges

-- the audience of an edge
abbrev pub audience_at : Contents → EdgeRef → Option Audience
audience_at table edge = option_map (λ row. row.audience) (edge_at table edge)

-- whether the table has an edge
abbrev pub has_edge : Contents → EdgeRef → Bool
has_edge table edge = is_some (edge_at table edge)

-- whether an id is that of an entity of a vertical
abbrev pub is_in : Contents → ℕ → ℕ → Bool
is_in table vertical id = option_map_or (λ row. row.vertical == vertical) (entity_at table id) false

-- whether edges may start at a key: at any word where they start at words, else at the entities of the
-- vertical
abbrev pub source_stands : Contents → Origin → Key → Bool
source_stands table Words key = true
source_stands table (Vertical vertical) (Id id) = is_in table vertical id
source_stands table (Vertical vertical) (Word text) = false

-- whether the key of an edge is one that edges of its type may start at
abbrev pub key_stands : Declarations → Contents → EdgeRef → Bool
key_stands schema table edge = option_map_or (λ type_def. source_stands table type_def.origin edge.key) (type_at schema edge.type_no) false

-- whether the target of an edge is an entity of its type's target vertical
abbrev pub target_stands : Declarations → Contents → EdgeRef → Bool
target_stands schema table edge = option_map_or (λ type_def. is_in table type_def.target edge.target) (type_at schema edge.type_no) false

-- whether an edge is of a type and key
abbrev pub starts_at : ℕ → Key → EdgeRef → Bool
starts_at number key edge = number == edge.type_no && is_eq (key_cmp key edge.key)

-- whether the key of an edge is an id
abbrev pub leaves : ℕ → EdgeRef → Bool
leaves id edge = option_map_or (λ source. id == source) (source_of edge.key) false

-- whether an edge leaves an id and is of a type below a number
abbrev pub leaves_below : ℕ → ℕ → EdgeRef → Bool
leaves_below types id edge = leaves id edge && nat_lt edge.type_no types

-- whether an edge leads to an id
abbrev pub reaches : ℕ → EdgeRef → Bool
reaches id edge = id == edge.target

-- whether an edge leaves or reaches an id
abbrev pub touches : ℕ → EdgeRef → Bool
touches id edge = reaches id edge || leaves id edge

-- how many edges of a type and key there are
abbrev pub count_from : Contents → ℕ → Key → ℕ
count_from table number key = length (filter (λ e. starts_at number key e.0) table.edges)

-- whether an edge ends at a publish or before it
abbrev pub has_ended : ℕ → EdgeRow → Bool
has_ended publish row = not (row.end == 0) && nat_le row.end publish

-- the table with an entity: its row in its place, or in place of the one that it has
abbrev pub with_entity : Contents → ℕ → EntityRow → Contents
with_entity table id row = record table { entities = insert_entry nat_cmp table.entities id row }

-- the table without the row of an entity
abbrev pub without_row : Contents → ℕ → Contents
without_row table id = record table { entities = remove_entry (is_at (nat_cmp id)) table.entities }

-- the table without an entity and the edges that leave or reach it
abbrev pub without_entity : Contents → ℕ → Contents
without_entity table id = record {
  entities = remove_entry (is_at (nat_cmp id)) table.entities;
  edges = filter (λ e. not (touches id e.0)) table.edges;
}

-- the table with an edge: its row in its place, or in place of the one that it has
abbrev pub with_edge : Contents → EdgeRef → EdgeRow → Contents
with_edge table edge row = record table { edges = insert_entry edge_cmp table.edges edge row }

-- the table without an edge
abbrev pub without_edge : Contents → EdgeRef → Contents
without_edge table edge = record table { edges = remove_entry (is_at (edge_cmp edge)) table.edges }

-- the table without the edges of a type and key
abbrev pub without_from : Contents → ℕ → Key → Contents
without_from table number key = record table { edges = filter (λ e. not (starts_at number key e.0)) table.edges }

-- the table without the edges that leave an id, of the types below a number
abbrev pub without_leaving : Contents → ℕ → ℕ → Contents
without_leaving table types id = record table { edges = filter (λ e. not (leaves_below types id e.0)) table.edges }

-- the table without the edges that reach an id
abbrev pub without_into : Contents → ℕ → Contents
without_into table id = record table { edges = filter (λ e. not (reaches id e.0)) table.edges }

-- the table without the edges that end at a publish or before it
abbrev pub ended : Contents → ℕ → Contents
ended table publish = record table { edges = filter (λ e. not (has_ended publish e.1)) table.edges }
