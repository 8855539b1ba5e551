-- What differs between two tables.
use Rattle.std.specs.Prelude.{ℕ, ◌≡◌, ◌≢◌, ◌↔◌, ◌⊎◌, List, Option, map}
use Rattle.std.specs.List.{Contains, IsDistinct}
use Rattle.std.specs.List.Sorted.{IsStrictlySortedBy}
use Rattle.std.specs.Option.{option_map, IsSome}
use Rattle.std.specs.Ordering.{eq_by_cmp, nat_cmp}
use Rattle.uni_base.specs.declared.entity.Rank.{Rank}
use Rattle.uni_base.specs.EdgeOrder.{edge_cmp}
use Rattle.uni_table.specs.Contents.{Contents, entity_at, edge_at}
use Rattle.uni_table.specs.declared.change.EntityChange.{EntityChange}
use Rattle.uni_table.specs.declared.change.EdgeChange.{EdgeChange}

-- the rank of an id, if it is an entity
abbrev pub rank_at : Contents → ℕ → Option Rank
rank_at table id = option_map (λ row. row.rank) (entity_at table id)

-- an entity that differs, with its rows
abbrev pub IsEntityChange : Contents → Contents → EntityChange → Type 0
IsEntityChange old new change =
    (change.before ≡ entity_at old change.id) × (change.after ≡ entity_at new change.id) × (change.before ≢ change.after)

-- an edge that differs, or one whose target has another rank, with its rows and the ranks of its target
abbrev pub IsEdgeChange : Contents → Contents → EdgeChange → Type 0
IsEdgeChange old new change =
    (change.before ≡ edge_at old change.edge) × (change.after ≡ edge_at new change.edge)
    × ((change.before ≢ change.after) ⊎ (IsSome change.after × (rank_at old change.edge.target ≢ rank_at new change.edge.target)))
    × (change.rank_before ≡ rank_at old change.edge.target) × (change.rank_after ≡ rank_at new change.edge.target)

-- exactly the changes, each once, in some order
pub record HasEntityChanges (old new : Contents) (changes : List EntityChange) : Type 0 where
  pub exact : (change : EntityChange) → Contains changes change ↔ IsEntityChange old new change
  pub apart : IsDistinct (eq_by_cmp nat_cmp) (map (λ change. change.id) changes)

pub record HasEdgeChanges (old new : Contents) (changes : List EdgeChange) : Type 0 where
  pub exact : (change : EdgeChange) → Contains changes change ↔ IsEdgeChange old new change
  pub apart : IsDistinct (eq_by_cmp edge_cmp) (map (λ change. change.edge) changes)

-- exactly the entities that differ, by id
pub record AreEntityChanges (old new : Contents) (changes : List EntityChange) : Type 0 where
  pub exact : (change : EntityChange) → Contains changes change ↔ IsEntityChange old new change
  pub sorted : IsStrictlySortedBy nat_cmp (map (λ change. change.id) changes)

-- exactly the edges that differ, and those whose target has another rank, by type number, key and target
pub record AreEdgeChanges (old new : Contents) (changes : List EdgeChange) : Type 0 where
  pub exact : (change : EdgeChange) → Contains changes change ↔ IsEdgeChange old new change
  pub sorted : IsStrictlySortedBy edge_cmp (map (λ change. change.edge) changes)
