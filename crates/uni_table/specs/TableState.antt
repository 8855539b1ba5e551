-- What contracts see of a table.
use Rattle.std.specs.Prelude.{ℕ, Bool, true, false, ◌≡◌, ◌≤◌, not}
use Rattle.std.specs.List.{list_all}
use Rattle.std.specs.List.Sorted.{IsStrictlySortedBy}
use Rattle.std.specs.Map.{keys_of}
use Rattle.std.specs.Option.{option_map_or}
use Rattle.std.specs.Ordering.{nat_cmp}
use Rattle.uni_base.specs.declared.edge.Key.{Key}
use Rattle.uni_base.specs.declared.limits.Limits.{Limits}
use Rattle.uni_base.specs.EdgeOrder.{edge_cmp}
use Rattle.uni_schema.specs.Schema.{Declarations, type_at, is_index}
use Rattle.uni_table.specs.Contents.{Contents, key_stands, target_stands, count_from}
use Rattle.uni_table.specs.GraphState.{GraphState}

-- a table with the schema and the limits that it was made with, what it holds, and what it held as its last
-- batch ended
pub record TableState : Type 0 where
  pub schema : Declarations
  pub limits : Limits
  pub contents : Contents
  pub published : Contents

-- each edge starts where edges of its type may
abbrev pub KeysStand : Declarations → Contents → Type 0
KeysStand schema table = list_all (λ e. key_stands schema table e.0) table.edges ≡ true

-- each edge leads to an entity of its type's target vertical
abbrev pub TargetsStand : Declarations → Contents → Type 0
TargetsStand schema table = list_all (λ e. target_stands schema table e.0) table.edges ≡ true

-- whether edges of a type are kept with their sources
abbrev pub is_forward : Declarations → ℕ → Bool
is_forward schema number = option_map_or (λ type_def. not (is_index type_def.store)) (type_at schema number) false

-- what a table keeps: each edge starts at an entity of its type's source vertical, or at a word where its
-- type has none, and leads to an entity of its type's target vertical; the rows stand in order, each key
-- once; and no type and key has more forward edges than it may
pub record IsKept (schema : Declarations) (limits : Limits) (table : Contents) : Type 0 where
  pub keys : KeysStand schema table
  pub targets : TargetsStand schema table
  pub entities : IsStrictlySortedBy nat_cmp (keys_of table.entities)
  pub edges : IsStrictlySortedBy edge_cmp (keys_of table.edges)
  pub forward : (number : ℕ) (key : Key) → is_forward schema number ≡ true → count_from table number key ≤ limits.forward

-- so does what it held as its last batch ended
pub record AreKept (schema : Declarations) (limits : Limits) (graph : GraphState) : Type 0 where
  pub contents : IsKept schema limits graph.contents
  pub published : IsKept schema limits graph.published
