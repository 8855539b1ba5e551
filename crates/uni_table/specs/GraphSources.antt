-- The sources of edges by number, and what their edges lead to.
use Rattle.std.specs.Prelude.{◌≡◌, ℕ, suc, nat_lt, List, Option, None, Some, length, slice_get, if◌then◌else◌}
use Rattle.std.specs.List.{All, filter_map}
use Rattle.std.specs.Map.{keys_of}
use Rattle.std.specs.Option.{option_and_then, option_map}
use Rattle.uni_base.specs.declared.entity.DocKey.{DocKey}
use Rattle.uni_table.specs.GraphChanges.{place_of}
use Rattle.uni_table.specs.GraphOrder.{edge_told, placed_at, type_told}
use Rattle.uni_table.specs.GraphRows.{audience_named, has_at, last_at, next_at, IsCircleKnown, IsRows}
use Rattle.uni_table.specs.Sources.{source_from}
use Rattle.uni_table.specs.declared.graph.edge_copies.EdgeCopy.{EdgeCopy}
use Rattle.uni_table.specs.declared.graph.numbers.EdgeNo.{EdgeNo}
use Rattle.uni_table.specs.declared.graph.numbers.Node.{Node}
use Rattle.uni_table.specs.declared.graph.numbers.Side.TheVariants.{Source as From}
use Rattle.uni_table.specs.declared.graph.numbers.Slot.{Slot}
use Rattle.uni_table.specs.declared.graph.numbers.Source.{Source}
use Rattle.uni_table.specs.declared.graph.order.PlacedEdge.{PlacedEdge}
use Rattle.uni_table.specs.declared.graph.rows.Rows.{Rows}
use Rattle.uni_table.specs.declared.graph.sources.FarEnd.{FarEnd}
use Rattle.uni_table.specs.declared.table.reached.Target.{Target}

-- an edge by the number of its target, with its state
abbrev pub far_end : EdgeNo × Slot → FarEnd
far_end e = record { target = e.0.target; state = e.1.state }

-- the same of one that has the number of a source
abbrev pub end_at : ℕ → EdgeNo × Slot → Option FarEnd
end_at q e = if has_at From q e.0 then Some (far_end e) else None

-- all of them, gone or not, in the order in which they came
abbrev pub all_ends : Rows → ℕ → List FarEnd
all_ends rows q = filter_map (end_at q) rows.edges.entries

-- the circles of edges are sources that there are
abbrev pub AreEnds : Rows → List FarEnd → Type 0
AreEnds rows ends = All (λ end. IsCircleKnown (length rows.sources.entries) end.state) ends

-- a copy of an edge by its number, which counts from 1
abbrev pub IsCopy : Rows → EdgeCopy → Type 0
IsCopy rows copy = (i : ℕ) (e : EdgeNo × Slot) → copy.number ≡ suc i → slice_get rows.edges.entries i ≡ Some e → (copy.end ≡ far_end e) × (copy.next ≡ next_at From e.1)

abbrev pub AreCopies : Rows → List EdgeCopy → Type 0
AreCopies rows copies = All (IsCopy rows) copies

-- the place in rank order of an id, if it is an entity
abbrev pub doc_in : ℕ × Node → Option DocKey
doc_in n = option_map (λ row. record { rank = row.rank; id = n.0 }) n.1.row

-- the same by its number
abbrev pub doc_by : Rows → ℕ → Option DocKey
doc_by rows number = option_and_then doc_in (slice_get rows.ids.entries number)

-- what an edge leads to, if it is not gone and its target is an entity
abbrev pub led_to : Rows → FarEnd → Option Target
led_to rows end = option_and_then (λ audience. option_map (λ doc. record { doc = doc; audience = audience }) (doc_by rows end.target)) (audience_named (keys_of rows.sources.entries) end.state)

-- the edge at a place, if its type is below a number
abbrev pub of_types : ℕ → PlacedEdge → Option PlacedEdge
of_types types edge = if nat_lt (type_told edge) types then Some edge else None

abbrev pub last_at_place : Rows → ℕ → ℕ → Option PlacedEdge
last_at_place rows types place = option_and_then (λ e. of_types types (placed_at rows place e.0)) (slice_get rows.edges.entries place)

-- the last edge of a source, gone or not, if there ever was one, and its type is below a number
abbrev pub last_from : Rows → ℕ → ℕ → Option PlacedEdge
last_from rows types q = option_and_then (last_at_place rows types) (place_of (last_at From rows q))

-- where an edge starts
abbrev pub source_told : Rows → PlacedEdge → Source
source_told rows edge = source_from (edge_told rows edge)

-- edges with the numbers of the sources at which they start
pub record AreLasts (rows : Rows) (lasts : List PlacedEdge) : Type 0 where
  pub kept : IsRows rows
  pub numbered : All (λ last. slice_get (keys_of rows.sources.entries) last.source ≡ Some (source_told rows last)) lasts
