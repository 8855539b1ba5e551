-- Edges by their places, with what they are ordered by.
use Rattle.std.specs.Prelude.{ℕ, ◌≡◌, ◌++◌, true, nat_eq, ◌+◌, ◌*◌, ◌/◌, ◌%◌, ◌==◌, ◌&&◌, ◌||◌, Bool, not, is_some, nat_lt, List, Option, None, Some, length, slice_get, if◌then◌else◌}
use Rattle.std.specs.List.{Contains, IsDistinct, filter_map}
use Rattle.std.specs.Map.{keys_of}
use Rattle.std.specs.Option.{option_and_then, option_map, option_map_or}
use Rattle.uni_base.specs.declared.edge.EdgeRef.{EdgeRef}
use Rattle.uni_base.specs.declared.edge.Key.{Key}
use Rattle.uni_base.specs.declared.edge.Key.TheVariants.{Id, Word}
use Rattle.uni_table.specs.GraphChanges.{change_of, is_affected, no_ranks, ranks_at, AreAffected, IsLedByMoved}
use Rattle.uni_table.specs.GraphRows.{edge_named, is_live, is_same, IsRows}
use Rattle.uni_table.specs.declared.change.EdgeChange.{EdgeChange}
use Rattle.uni_table.specs.declared.graph.numbers.EdgeNo.{EdgeNo}
use Rattle.uni_table.specs.declared.graph.numbers.Ranks.{Ranks}
use Rattle.uni_table.specs.declared.graph.numbers.Slot.{Slot}
use Rattle.uni_table.specs.declared.graph.numbers.Source.{Source}
use Rattle.uni_table.specs.declared.graph.order.PlacedEdge.{PlacedEdge}
use Rattle.uni_table.specs.declared.graph.rows.Rows.{Rows}

-- the number of a key in its type: of an id below 2^48 - 1 that id, and of any other key 2^48 - 1
abbrev pub short_no : Key → ℕ
short_no (Id id) = if nat_lt id 281474976710655 then id else 281474976710655
short_no (Word text) = 281474976710655

-- a type and a key as one number: a type has 2^48 numbers for its keys
abbrev pub lead_of : ℕ → Key → ℕ
lead_of type_no key = type_no * 281474976710656 + short_no key

-- the type that an edge is told to have
abbrev pub type_told : PlacedEdge → ℕ
type_told edge = edge.lead / 281474976710656

-- the id at which it starts, where the number of its key is that
abbrev pub id_of_no : ℕ → Option ℕ
id_of_no number = if number == 281474976710655 then None else (if number == 0 then None else Some number)

abbrev pub short_id : PlacedEdge → Option ℕ
short_id edge = id_of_no (edge.lead % 281474976710656)

-- two edges are of two types, or both keys are ids by their numbers
abbrev pub leads_tell : PlacedEdge → PlacedEdge → Bool
leads_tell one other = not (type_told one == type_told other) || (is_some (short_id one) && is_some (short_id other))

-- the key of its source, or an id where there is no such source
abbrev pub key_at : List Source → PlacedEdge → Key
key_at sources edge = option_map_or (λ source. source.key) (slice_get sources edge.source) (Id edge.target)

-- the key that it is told to have
abbrev pub key_told : List Source → PlacedEdge → Key
key_told sources edge = option_map_or (λ id. Id id) (short_id edge) (key_at sources edge)

-- the edge itself
abbrev pub edge_told : Rows → PlacedEdge → EdgeRef
edge_told rows edge = record { type_no = type_told edge; key = key_told (keys_of rows.sources.entries) edge; target = edge.target }

-- a named edge in few bytes, with its place
abbrev pub placed : EdgeNo → ℕ → EdgeRef → PlacedEdge
placed number place edge = record { lead = lead_of edge.type_no edge.key; target = edge.target; source = number.source; place = place }

abbrev pub placed_at : Rows → ℕ → EdgeNo → PlacedEdge
placed_at rows place number = placed number place (edge_named (keys_of rows.sources.entries) (keys_of rows.ids.entries) number)

-- the edge at a place, if it is affected
abbrev pub affected_by : Rows → ℕ → EdgeNo × Slot → Option PlacedEdge
affected_by rows place e = if is_affected rows e then Some (placed_at rows place e.0) else None

abbrev pub affected_at : Rows → ℕ → Option PlacedEdge
affected_at rows place = option_and_then (affected_by rows place) (slice_get rows.edges.entries place)

-- the edge at a place, if one lives there and the batch has not touched it
abbrev pub untouched_by : Rows → ℕ → EdgeNo × Slot → Option PlacedEdge
untouched_by rows place e = if is_same e.1.before && is_live e.1.state then Some (placed_at rows place e.0) else None

abbrev pub untouched_edge_at : Rows → ℕ → Option PlacedEdge
untouched_edge_at rows place = option_and_then (untouched_by rows place) (slice_get rows.edges.entries place)

-- a list grows by the edges that reach an id with another rank and that the batch has not touched, each once: those
-- that are affected among the edges of some places
pub record AddsMoved (rows : Rows) (old new : List PlacedEdge) : Type 0 where
  pub places : List ℕ
  pub apart : IsDistinct nat_eq places
  pub untouched : (place : ℕ) → Contains places place → (e : EdgeNo × Slot) × (slice_get rows.edges.entries place ≡ Some e) × (is_same e.1.before ≡ true)
  pub whole : (place : ℕ) → IsLedByMoved rows rows.touched_ids.items place → Contains places place
  pub picked : new ≡ old ++ filter_map (affected_at rows) places

-- a list has all edges that are affected, each once
pub record AreAffectedEdges (rows : Rows) (edges : List PlacedEdge) : Type 0 where
  pub places : List ℕ
  pub apart : IsDistinct nat_eq places
  pub whole : AreAffected rows places
  pub picked : edges ≡ filter_map (affected_at rows) places

-- what became of it, by what stands at its place
abbrev pub placed_change : Rows → PlacedEdge → Option EdgeChange
placed_change rows edge = option_map (change_of rows (edge_told rows edge)) (slice_get rows.edges.entries edge.place)

-- each of some edges has a change
pub record HaveChanges (rows : Rows) (edges : List PlacedEdge) : Type 0 where
  pub kept : IsRows rows
  pub each : length (filter_map (placed_change rows) edges) ≡ length edges

-- what stands there
abbrev pub standing_at : Rows → PlacedEdge → Option (EdgeNo × Slot)
standing_at rows edge = slice_get rows.edges.entries edge.place

-- the ranks of the target of what stands there
abbrev pub ranks_standing : Rows → Option (EdgeNo × Slot) → Ranks
ranks_standing rows standing = option_map_or (λ e. ranks_at rows e.0.target) standing no_ranks
