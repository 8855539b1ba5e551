-- The lineage of a hit that a viewer is shown.
use Rattle.std.specs.Prelude.{ℕ, ◌++◌, ◌&&◌, if◌then◌else◌, List, [], ◌∷◌, Option, None, Some}
use Rattle.std.specs.Option.{option_map, option_and_then, option_or}
use Rattle.uni_base.specs.declared.edge.EdgeRef.{EdgeRef}
use Rattle.uni_base.specs.declared.edge.Key.{Key}
use Rattle.uni_base.specs.declared.edge.Key.TheVariants.{Id, Word}
use Rattle.uni_base.specs.declared.entity.DocKey.{DocKey}
use Rattle.uni_schema.specs.Schema.{Declarations}
use Rattle.uni_table.specs.Contents.{Contents}
use Rattle.query_tree.specs.declared.kind.ListKind.TheVariants.{And, Or, Difference, WeakAnd, StrongOr}
use Rattle.query_check.specs.Plan.{Plan, Plans, term_plan, prefix_plan, list_plan, join_plan, no_plans, with_plan}
use Rattle.uni_meaning.specs.Hits.{cut, edge_to, is_hit, leads_to}
use Rattle.uni_meaning.specs.Policy.{authorised}
use Rattle.uni_meaning.specs.Prefixes.{prefix_keys}

-- the first value that is given along a list
abbrev pub first_given : {X Y : Type 0} → (X → Option Y) → List X → Option Y
first_given f [] = None
first_given f (x ∷ xs) = option_or (f x) (first_given f xs)

-- the edge of a type and key to an entity, where it is there and authorised
abbrev pub seen_edge : Declarations → Contents → ℕ → ℕ → Key → DocKey → Option EdgeRef
seen_edge schema table viewer number key x =
    if leads_to table number key x && authorised schema table viewer (edge_to number key x.id) then Some (edge_to number key x.id) else None

-- two lists, one after the other, where both are there
abbrev pub joined : Option (List EdgeRef) → Option (List EdgeRef) → Option (List EdgeRef)
joined first second = option_and_then (λ own. option_map (λ rest. own ++ rest) second) first

-- First: the lineage that is shown. Of a term, its edge, and of a prefix term, that of the first of its keys,
-- if it is authorised; of `or` and `strong-or`, that of the first operand that has the entity and one to
-- show; of `and`, those of all operands joined, and of `weak-and` those of the operands that have it, none
-- if one is none; of `difference`, that of the first operand; of a join, by the first entity of the cut whose
-- edge is authorised and which has one itself
abbrev mutual
  pub first_shown : Declarations → Contents → ℕ → Plan → DocKey → Option (List EdgeRef)
  first_shown schema table viewer (term_plan number key) x = option_map (λ edge. edge ∷ []) (seen_edge schema table viewer number key x)
  first_shown schema table viewer (prefix_plan number from) x =
      option_map (λ edge. edge ∷ []) (first_given (λ word. seen_edge schema table viewer number (Word word) x) (prefix_keys table number from))
  first_shown schema table viewer (list_plan And plans) x = shown_under_each schema table viewer plans x
  first_shown schema table viewer (list_plan Or plans) x = shown_under_one schema table viewer plans x
  first_shown schema table viewer (list_plan Difference plans) x = shown_under_first schema table viewer plans x
  first_shown schema table viewer (list_plan WeakAnd plans) x = shown_under_having schema table viewer plans x
  first_shown schema table viewer (list_plan StrongOr plans) x = shown_under_one schema table viewer plans x
  first_shown schema table viewer (join_plan kind number limit plan) x =
      first_given (λ y. option_and_then (λ edge. option_map (λ rest. edge ∷ rest) (first_shown schema table viewer plan y)) (seen_edge schema table viewer number (Id y.id) x)) (cut schema table plan limit)

  pub shown_under_each : Declarations → Contents → ℕ → Plans → DocKey → Option (List EdgeRef)
  shown_under_each schema table viewer no_plans x = Some []
  shown_under_each schema table viewer (with_plan plan mark others) x = joined (first_shown schema table viewer plan x) (shown_under_each schema table viewer others x)

  pub shown_under_having : Declarations → Contents → ℕ → Plans → DocKey → Option (List EdgeRef)
  shown_under_having schema table viewer no_plans x = Some []
  shown_under_having schema table viewer (with_plan plan mark others) x =
      if is_hit schema table plan x then joined (first_shown schema table viewer plan x) (shown_under_having schema table viewer others x)
      else shown_under_having schema table viewer others x

  pub shown_under_one : Declarations → Contents → ℕ → Plans → DocKey → Option (List EdgeRef)
  shown_under_one schema table viewer no_plans x = None
  shown_under_one schema table viewer (with_plan plan mark others) x =
      if is_hit schema table plan x then option_or (first_shown schema table viewer plan x) (shown_under_one schema table viewer others x)
      else shown_under_one schema table viewer others x

  pub shown_under_first : Declarations → Contents → ℕ → Plans → DocKey → Option (List EdgeRef)
  shown_under_first schema table viewer no_plans x = None
  shown_under_first schema table viewer (with_plan plan mark others) x = first_shown schema table viewer plan x
