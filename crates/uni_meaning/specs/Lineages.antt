-- How a hit came about.
use Rattle.std.specs.Prelude.{ℕ, true, false, ◌≡◌, ◌⊎◌, ◌++◌, if◌then◌else◌, List, [], ◌∷◌, filter, map}
use Rattle.std.specs.List.{Contains, flat_map, list_all}
use Rattle.uni_base.specs.declared.edge.EdgeRef.{EdgeRef}
use Rattle.uni_base.specs.declared.edge.Key.TheVariants.{Id, Word}
use Rattle.uni_base.specs.declared.entity.DocKey.{DocKey}
use Rattle.uni_schema.specs.Schema.{Declarations}
use Rattle.uni_table.specs.Contents.{Contents}
use Rattle.query_tree.specs.declared.kind.ListKind.TheVariants.{And, Or, Difference, WeakAnd, StrongOr}
use Rattle.query_check.specs.Plan.{Plan, Plans, term_plan, prefix_plan, list_plan, join_plan, no_plans, with_plan}
use Rattle.uni_meaning.specs.Hits.{cut, edge_to, is_hit, leads_to}
use Rattle.uni_meaning.specs.Policy.{authorised}
use Rattle.uni_meaning.specs.Prefixes.{prefix_keys}

-- IsLineage: a list of edges is one by which an entity is a hit. Of a term, the one edge; of a prefix term,
-- the edge of one of its keys; of `or` and `strong-or`, a lineage under one operand that has the entity; of
-- `and`, one under each operand, joined; of `weak-and`, one under each operand that has it, joined; of
-- `difference`, one under the first operand; of a join, the edge from an entity of the cut and then a
-- lineage of that one. It is said of hits alone: of what is none, `weak-and` would have the empty list where no
-- operand has the entity
abbrev mutual
  pub IsLineage : Declarations → Contents → Plan → DocKey → List EdgeRef → Type 0
  IsLineage schema table (term_plan number key) x edges = (leads_to table number key x ≡ true) × (edges ≡ edge_to number key x.id ∷ [])
  IsLineage schema table (prefix_plan number from) x edges =
      (word : List ℕ) × Contains (prefix_keys table number from) word × (leads_to table number (Word word) x ≡ true) × (edges ≡ edge_to number (Word word) x.id ∷ [])
  IsLineage schema table (list_plan And plans) x edges = IsUnderEach schema table plans x edges
  IsLineage schema table (list_plan Or plans) x edges = IsUnderOne schema table plans x edges
  IsLineage schema table (list_plan Difference plans) x edges = IsUnderFirst schema table plans x edges
  IsLineage schema table (list_plan WeakAnd plans) x edges = IsUnderHaving schema table plans x edges
  IsLineage schema table (list_plan StrongOr plans) x edges = IsUnderOne schema table plans x edges
  IsLineage schema table (join_plan kind number limit plan) x edges =
      (y : DocKey) × (rest : List EdgeRef) × Contains (cut schema table plan limit) y × (leads_to table number (Id y.id) x ≡ true) × (edges ≡ edge_to number (Id y.id) x.id ∷ rest)
      × IsLineage schema table plan y rest

  pub IsUnderEach : Declarations → Contents → Plans → DocKey → List EdgeRef → Type 0
  IsUnderEach schema table no_plans x edges = edges ≡ []
  IsUnderEach schema table (with_plan plan mark others) x edges =
      (own : List EdgeRef) × (rest : List EdgeRef) × (edges ≡ own ++ rest) × IsLineage schema table plan x own × IsUnderEach schema table others x rest

  pub IsUnderHaving : Declarations → Contents → Plans → DocKey → List EdgeRef → Type 0
  IsUnderHaving schema table no_plans x edges = edges ≡ []
  IsUnderHaving schema table (with_plan plan mark others) x edges = elim (is_hit schema table plan x) [
    | true ↦ (own : List EdgeRef) × (rest : List EdgeRef) × (edges ≡ own ++ rest) × IsLineage schema table plan x own × IsUnderHaving schema table others x rest
    | false ↦ IsUnderHaving schema table others x edges
  ]

  pub IsUnderOne : Declarations → Contents → Plans → DocKey → List EdgeRef → Type 0
  IsUnderOne schema table no_plans x edges = ⊥
  IsUnderOne schema table (with_plan plan mark others) x edges = ((is_hit schema table plan x ≡ true) × IsLineage schema table plan x edges) ⊎ IsUnderOne schema table others x edges

  pub IsUnderFirst : Declarations → Contents → Plans → DocKey → List EdgeRef → Type 0
  IsUnderFirst schema table no_plans x edges = ⊥
  IsUnderFirst schema table (with_plan plan mark others) x edges = IsLineage schema table plan x edges

-- one list of each of two, joined, by the first one's list and then by the second one's
abbrev pub choices : List (List EdgeRef) → List (List EdgeRef) → List (List EdgeRef)
choices firsts seconds = flat_map (λ own. map (λ rest. own ++ rest) seconds) firsts

-- Lineages: all lineages of a hit, in order: those of the operands one after the other, all choices of one
-- for each operand, and along a cut in rank order
abbrev mutual
  pub lineages : Declarations → Contents → Plan → DocKey → List (List EdgeRef)
  lineages schema table (term_plan number key) x = if leads_to table number key x then (edge_to number key x.id ∷ []) ∷ [] else []
  lineages schema table (prefix_plan number from) x =
      map (λ word. edge_to number (Word word) x.id ∷ []) (filter (λ word. leads_to table number (Word word) x) (prefix_keys table number from))
  lineages schema table (list_plan And plans) x = under_each schema table plans x
  lineages schema table (list_plan Or plans) x = under_one schema table plans x
  lineages schema table (list_plan Difference plans) x = under_first schema table plans x
  lineages schema table (list_plan WeakAnd plans) x = under_having schema table plans x
  lineages schema table (list_plan StrongOr plans) x = under_one schema table plans x
  lineages schema table (join_plan kind number limit plan) x =
      flat_map (λ y. if leads_to table number (Id y.id) x then map (λ rest. edge_to number (Id y.id) x.id ∷ rest) (lineages schema table plan y) else []) (cut schema table plan limit)

  pub under_each : Declarations → Contents → Plans → DocKey → List (List EdgeRef)
  under_each schema table no_plans x = [] ∷ []
  under_each schema table (with_plan plan mark others) x = choices (lineages schema table plan x) (under_each schema table others x)

  pub under_having : Declarations → Contents → Plans → DocKey → List (List EdgeRef)
  under_having schema table no_plans x = [] ∷ []
  under_having schema table (with_plan plan mark others) x =
      if is_hit schema table plan x then choices (lineages schema table plan x) (under_having schema table others x) else under_having schema table others x

  pub under_one : Declarations → Contents → Plans → DocKey → List (List EdgeRef)
  under_one schema table no_plans x = []
  under_one schema table (with_plan plan mark others) x =
      if is_hit schema table plan x then lineages schema table plan x ++ under_one schema table others x else under_one schema table others x

  pub under_first : Declarations → Contents → Plans → DocKey → List (List EdgeRef)
  under_first schema table no_plans x = []
  under_first schema table (with_plan plan mark others) x = lineages schema table plan x

-- Shown: an entity is a hit, and some one lineage of it has authorised edges alone
abbrev pub Shown : Declarations → Contents → ℕ → Plan → DocKey → Type 0
Shown schema table viewer plan x =
    (is_hit schema table plan x ≡ true) × (edges : List EdgeRef) × IsLineage schema table plan x edges × (list_all (authorised schema table viewer) edges ≡ true)
