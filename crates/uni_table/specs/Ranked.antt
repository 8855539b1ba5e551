-- Entities and edges in rank order.
use Rattle.std.specs.Prelude.{ℕ, Bool, ◌==◌, ◌&&◌, if◌then◌else◌, List, [], ◌∷◌, Option, map, filter}
use Rattle.std.specs.List.{filter_map}
use Rattle.std.specs.Option.{option_map, option_map_or}
use Rattle.std.specs.Ordering.{is_lt}
use Rattle.uni_base.specs.declared.entity.DocKey.{DocKey}
use Rattle.uni_base.specs.declared.edge.EdgeRef.{EdgeRef}
use Rattle.uni_base.specs.declared.edge.Key.{Key}
use Rattle.uni_base.specs.declared.edge.Held.{Held}
use Rattle.uni_base.specs.RankOrder.{doc_cmp}
use Rattle.uni_schema.specs.Schema.{Declarations, type_at, shard_of}
use Rattle.uni_table.specs.Contents.{Contents, entity_at, audience_at}
use Rattle.uni_table.specs.declared.command.EntityRow.{EntityRow}

-- a key among keys in rank order, before the first that comes after it
abbrev pub place : DocKey → List DocKey → List DocKey
place k [] = k ∷ []
place k (x ∷ xs) = if is_lt (doc_cmp k x) then k ∷ x ∷ xs else x ∷ place k xs

-- keys in rank order
abbrev pub in_rank_order : List DocKey → List DocKey
in_rank_order [] = []
in_rank_order (k ∷ ks) = place k (in_rank_order ks)

-- the place in rank order of an entity
abbrev pub doc_of : ℕ × EntityRow → DocKey
doc_of e = record { rank = e.1.rank; id = e.0 }

-- the entities of a vertical in rank order
abbrev pub ranked_all : Contents → ℕ → List DocKey
ranked_all table vertical = in_rank_order (map doc_of (filter (λ e. e.1.vertical == vertical) table.entities))

-- whether an entity is of a shard of a vertical
abbrev pub is_of_shard : Declarations → ℕ → ℕ → ℕ × EntityRow → Bool
is_of_shard schema vertical shard e = e.1.vertical == vertical && shard_of schema vertical e.0 == shard

-- the entities of a shard of a vertical in rank order
abbrev pub ranked : Declarations → Contents → ℕ → ℕ → List DocKey
ranked schema table vertical shard = in_rank_order (map doc_of (filter (is_of_shard schema vertical shard) table.entities))

-- the key of an entity in rank order, if it is one
abbrev pub doc_at : Contents → ℕ → Option DocKey
doc_at table id = option_map (λ row. record { rank = row.rank; id = id }) (entity_at table id)

-- the edge of a type and key to a target, with its audience, if the table has it
abbrev pub held_at : Contents → ℕ → Key → ℕ → Option Held
held_at table number key target =
    let edge : EdgeRef = record { type_no = number; key = key; target = target } in
    option_map (λ audience. record { edge = edge; audience = audience }) (audience_at table edge)

-- the edges of a type and key, their targets in rank order
abbrev pub reached_of : Declarations → Contents → ℕ → Key → List Held
reached_of schema table number key =
    option_map_or (λ type_def. filter_map (λ k. held_at table number key k.id) (ranked_all table type_def.target)) (type_at schema number) []
