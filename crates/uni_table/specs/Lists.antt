-- The lists of edges that are read off a table, each in the table's order.
use Rattle.std.specs.Prelude.{ℕ, Bool, false, ◌==◌, ◌&&◌, if◌then◌else◌, List, map, filter}
use Rattle.std.specs.List.{flat_map, range_with_len}
use Rattle.std.specs.Option.{option_map_or}
use Rattle.uni_base.specs.declared.edge.EdgeRef.{EdgeRef}
use Rattle.uni_base.specs.declared.edge.Held.{Held}
use Rattle.uni_schema.specs.Schema.{Declarations, type_at, shard_of, source_of, is_index}
use Rattle.uni_schema.specs.declared.schema.Origin.{Origin}
use Rattle.uni_schema.specs.declared.schema.Origin.TheVariants.{Vertical, Words}
use Rattle.uni_schema.specs.declared.schema.TypeDef.{TypeDef}
use Rattle.uni_table.specs.Contents.{Contents, touches}
use Rattle.uni_table.specs.declared.command.EdgeRow.{EdgeRow}
use Rattle.uni_table.specs.declared.graph.Ending.{Ending}

-- an edge with its audience
abbrev pub held_of : EdgeRef × EdgeRow → Held
held_of e = record { edge = e.0; audience = e.1.audience }

-- an edge with its end
abbrev pub ending_of : EdgeRef × EdgeRow → Ending
ending_of e = record { end = e.1.end; edge = e.0 }

-- the edges that leave or reach an id
abbrev pub touching : Contents → ℕ → List Held
touching table id = map held_of (filter (λ e. touches id e.0) table.edges)

-- whether edges start at a vertical
abbrev pub starts_in : ℕ → Origin → Bool
starts_in vertical (Vertical origin) = origin == vertical
starts_in vertical Words = false

-- whether a shard of a vertical keeps the edges of a type where their targets are, if they lead there
abbrev pub keeps_target : Declarations → ℕ → ℕ → TypeDef → ℕ → Bool
keeps_target schema vertical shard type_def target = type_def.target == vertical && shard_of schema vertical target == shard

-- whether a shard of a vertical keeps the edges of a type where their sources are, if they start there
abbrev pub keeps_source : Declarations → ℕ → ℕ → TypeDef → ℕ → Bool
keeps_source schema vertical shard type_def source = starts_in vertical type_def.origin && shard_of schema vertical source == shard

-- whether an edge of a type is kept in a shard of a vertical: an index edge in the shard of its target, a
-- forward edge in that of its source
abbrev pub is_kept_by : Declarations → ℕ → ℕ → EdgeRef → TypeDef → Bool
is_kept_by schema vertical shard edge type_def =
    if is_index type_def.store then keeps_target schema vertical shard type_def edge.target
    else option_map_or (keeps_source schema vertical shard type_def) (source_of edge.key) false

abbrev pub is_kept_in : Declarations → ℕ → ℕ → EdgeRef → Bool
is_kept_in schema vertical shard edge = option_map_or (is_kept_by schema vertical shard edge) (type_at schema edge.type_no) false

-- the edges that are kept in a shard of a vertical
abbrev pub shard_edges : Declarations → Contents → ℕ → ℕ → List Held
shard_edges schema table vertical shard = map held_of (filter (λ e. is_kept_in schema vertical shard e.0) table.edges)

-- the edges whose end is a number, by edge
abbrev pub ending_at : Contents → ℕ → List EdgeRef
ending_at table end = map (λ e. e.0) (filter (λ e. e.1.end == end) table.edges)

-- the edges that a publish ends: those whose end is from 1 to its number, by end and then by edge
abbrev pub ending : Contents → ℕ → List EdgeRef
ending table publish = flat_map (ending_at table) (range_with_len 1 publish)
