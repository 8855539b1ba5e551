-- Which rows differ from what they were at the last publish.
use Rattle.std.specs.Prelude.{ℕ, zero, suc, ◌≡◌, Bool, true, false, not, ◌==◌, ◌||◌, List, Option, None, Some, is_some, slice_get, if◌then◌else◌}
use Rattle.std.specs.List.{Contains}
use Rattle.std.specs.Map.{keys_of}
use Rattle.std.specs.Option.{option_and_then, option_map, option_map_or}
use Rattle.uni_base.specs.declared.edge.EdgeRef.{EdgeRef}
use Rattle.uni_base.specs.declared.entity.Rank.{Rank}
use Rattle.uni_table.specs.GraphRows.{edge_named, row_of, row_before, entity_before, has_at, is_live, is_same, last_at}
use Rattle.uni_table.specs.declared.change.EntityChange.{EntityChange}
use Rattle.uni_table.specs.declared.change.EdgeChange.{EdgeChange}
use Rattle.uni_table.specs.declared.command.EntityRow.{EntityRow}
use Rattle.uni_table.specs.declared.graph.numbers.Before.{Before}
use Rattle.uni_table.specs.declared.graph.numbers.Before.TheVariants as before
use Rattle.uni_table.specs.declared.graph.numbers.EntityBefore.{EntityBefore}
use Rattle.uni_table.specs.declared.graph.numbers.EntityBefore.TheVariants as entity_then
use Rattle.uni_table.specs.declared.graph.numbers.EdgeNo.{EdgeNo}
use Rattle.uni_table.specs.declared.graph.numbers.Node.{Node}
use Rattle.uni_table.specs.declared.graph.numbers.Ranks.{Ranks}
use Rattle.uni_table.specs.declared.graph.numbers.Slot.{Slot}
use Rattle.uni_table.specs.declared.graph.numbers.SlotState.{SlotState}
use Rattle.uni_table.specs.declared.graph.numbers.SlotState.TheVariants.{Gone, Public, Only, Circle}
use Rattle.uni_table.specs.declared.graph.numbers.Side.TheVariants.{Target}
use Rattle.uni_table.specs.declared.graph.rows.Rows.{Rows}

abbrev pub is_public : SlotState → Bool
is_public Gone = false
is_public Public = true
is_public Only = false
is_public (Circle n) = false

abbrev pub is_only : SlotState → Bool
is_only Gone = false
is_only Public = false
is_only Only = true
is_only (Circle n) = false

abbrev pub is_circle : ℕ → SlotState → Bool
is_circle source Gone = false
is_circle source Public = false
is_circle source Only = false
is_circle source (Circle n) = source == n

-- the state and the end of an edge at the last publish
abbrev pub state_before : Before → SlotState → SlotState
state_before before.Same state = state
state_before before.Gone state = Gone
state_before (before.Public end) state = Public
state_before (before.Only end) state = Only
state_before (before.Circle n end) state = Circle n

abbrev pub end_before : Before → ℕ → ℕ
end_before before.Same end = end
end_before before.Gone end = 0
end_before (before.Public until) end = until
end_before (before.Only until) end = until
end_before (before.Circle n until) end = until

-- whether an edge differs from what stood there
abbrev pub is_other : Before → SlotState → ℕ → Bool
is_other before.Same state end = false
is_other before.Gone state end = is_live state
is_other (before.Public until) state end = not (is_public state) || not (end == until)
is_other (before.Only until) state end = not (is_only state) || not (end == until)
is_other (before.Circle n until) state end = not (is_circle n state) || not (end == until)

abbrev pub is_changed : Slot → Bool
is_changed slot = is_other slot.before slot.state slot.end

-- whether an entity is not what another row says
abbrev pub differs_from : EntityRow → Option EntityRow → Bool
differs_from before None = true
differs_from before (Some row) = not (before.vertical == row.vertical) || not (before.rank.0 == row.rank.0)

abbrev pub is_other_entity : EntityBefore → Option EntityRow → Bool
is_other_entity entity_then.Same row = false
is_other_entity entity_then.Absent row = is_some row
is_other_entity (entity_then.Present before) row = differs_from before row

abbrev pub is_changed_entity : Node → Bool
is_changed_entity node = is_other_entity node.before node.row

-- whether two ranks differ, or one of them is none
abbrev pub rank_differs : Option Rank → Option Rank → Bool
rank_differs None None = false
rank_differs None (Some rank) = true
rank_differs (Some before) None = true
rank_differs (Some before) (Some rank) = not (before.0 == rank.0)

abbrev pub ranks_differ : Ranks → Bool
ranks_differ ranks = rank_differs ranks.before ranks.after

-- the rank of an entity, if it is one, and the ranks of an id at the last publish and now
abbrev pub rank_of : Option EntityRow → Option Rank
rank_of row = option_map (λ r. r.rank) row

abbrev pub ranks_of : Node → Ranks
ranks_of node = record { before = rank_of (entity_before node); after = rank_of node.row }

-- those of the id of a number, and whether they differ
abbrev pub no_ranks : Ranks
no_ranks = record { before = None; after = None }

abbrev pub ranks_at : Rows → ℕ → Ranks
ranks_at rows number = option_map_or (λ n. ranks_of n.1) (slice_get rows.ids.entries number) no_ranks

abbrev pub moved_at : Rows → ℕ → Bool
moved_at rows number = ranks_differ (ranks_at rows number)

-- the change of an id, if it differs
abbrev pub entity_change : ℕ × Node → Option EntityChange
entity_change e = if is_changed_entity e.1 then Some (record { id = e.0; before = entity_before e.1; after = e.1.row }) else None

-- whether an edge differs, or lives and leads to an id with other ranks
abbrev pub is_affected_by : Slot → Ranks → Bool
is_affected_by slot ranks = is_changed slot || (if is_live slot.state then ranks_differ ranks else false)

abbrev pub is_affected : Rows → EdgeNo × Slot → Bool
is_affected rows e = is_affected_by e.1 (ranks_at rows e.0.target)

-- what became of an edge by what stands at its place, and of the edge that stands there, if it is affected
abbrev pub change_of : Rows → EdgeRef → EdgeNo × Slot → EdgeChange
change_of rows edge e = record {
  edge = edge;
  before = row_before (keys_of rows.sources.entries) e.1.before (row_of (keys_of rows.sources.entries) e.1.state e.1.end);
  after = row_of (keys_of rows.sources.entries) e.1.state e.1.end;
  rank_before = (ranks_at rows e.0.target).before;
  rank_after = (ranks_at rows e.0.target).after;
}

abbrev pub edge_change : Rows → EdgeNo × Slot → Option EdgeChange
edge_change rows e = if is_affected rows e then Some (change_of rows (edge_named (keys_of rows.sources.entries) (keys_of rows.ids.entries) e.0) e) else None

-- those of places
abbrev pub entity_change_at : Rows → ℕ → Option EntityChange
entity_change_at rows place = option_and_then entity_change (slice_get rows.ids.entries place)

abbrev pub edge_change_at : Rows → ℕ → Option EdgeChange
edge_change_at rows place = option_and_then (edge_change rows) (slice_get rows.edges.entries place)

-- a place, if it is that of an edge that the batch has not touched
abbrev pub untouched_at : Rows → ℕ → Option ℕ
untouched_at rows place = option_and_then (λ e. if is_same e.1.before then Some place else None) (slice_get rows.edges.entries place)

-- the place of an edge that reaches the id of a number, gone or not, and that the batch has not touched
abbrev pub IsLed : Rows → ℕ → ℕ → Type 0
IsLed rows number place =
    (e : EdgeNo × Slot) × (slice_get rows.edges.entries place ≡ Some e) × (has_at Target number e.0 ≡ true) × (is_same e.1.before ≡ true)

-- the place of a number: they count from 1, and 0 is none
abbrev pub place_of : ℕ → Option ℕ
place_of zero = None
place_of (suc place) = Some place

-- the place of the last edge that reaches the id of a number, if it has another rank
abbrev pub moved_last_at : Rows → ℕ → Option ℕ
moved_last_at rows number = if moved_at rows number then place_of (last_at Target rows number) else None

-- the place of the edge before the one at a place among those with its target
abbrev pub earlier_at : Rows → ℕ → Option ℕ
earlier_at rows place = option_and_then (λ e. place_of e.1.next_into) (slice_get rows.edges.entries place)

-- the place of an edge that reaches an id of a list with another rank, and that the batch has not touched
abbrev pub IsLedByMoved : Rows → List ℕ → ℕ → Type 0
IsLedByMoved rows numbers place =
    (number : ℕ) × Contains numbers number × (moved_at rows number ≡ true) × IsLed rows number place

-- all edges that are affected have their places there
abbrev pub AreAffected : Rows → List ℕ → Type 0
AreAffected rows places = (place : ℕ) (e : EdgeNo × Slot) → slice_get rows.edges.entries place ≡ Some e → is_affected rows e ≡ true → Contains places place

-- an id as a change of one that was none, if it is an entity
abbrev pub entity_put : ℕ × Node → Option EntityChange
entity_put e = option_map (λ row. record { id = e.0; before = None; after = Some row }) e.1.row

abbrev pub put_at : Rows → ℕ → Option EntityChange
put_at rows number = option_and_then entity_put (slice_get rows.ids.entries number)
