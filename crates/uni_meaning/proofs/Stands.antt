-- Every edge of a lineage is an edge of the table.
use Rattle.std.proofs.Common.{◌≡◌, ◌++◌, inl, inr, ℕ, Bool, true, false, List, [], ◌∷◌, refl, sym, subst}
use Rattle.std.proofs.lemmas.Bool.{and_parts}
use Rattle.std.specs.List.{list_all}
use Rattle.uni_base.specs.declared.edge.EdgeRef.{EdgeRef}
use Rattle.uni_base.specs.declared.edge.Key.{Key}
use Rattle.uni_base.specs.declared.edge.Key.TheVariants.{Id, Word}
use Rattle.uni_base.specs.declared.entity.DocKey.{DocKey}
use Rattle.uni_schema.specs.Schema.{Declarations}
use Rattle.uni_table.specs.Contents.{Contents, has_edge}
use Rattle.query_tree.specs.declared.kind.ListKind.TheVariants.{And, Or, Difference, WeakAnd, StrongOr}
use Rattle.query_check.specs.Plan.{Plan, Plans, term_plan, prefix_plan, list_plan, join_plan, no_plans, with_plan}
use Rattle.uni_meaning.specs.Hits.{edge_to, is_hit, leads_to}
use Rattle.uni_meaning.specs.Laws.{LineagesStand}
use Rattle.uni_meaning.specs.Lineages.{IsLineage, IsUnderEach, IsUnderHaving, IsUnderOne, IsUnderFirst}

module _ (schema : Declarations) (table : Contents) where
  abbrev AllStand : List EdgeRef → Type 0
  AllStand edges = list_all (has_edge table) edges ≡ true

  joined : (own rest : List EdgeRef) → AllStand own → AllStand rest → AllStand (own ++ rest)
  joined [] rest first second = second
  joined (e ∷ own) rest first second =
      let parts = and_parts (has_edge table e) (list_all (has_edge table) own) first in
      rw parts.0 (joined own rest parts.1 second)

  -- an edge that leads to an entity, and then edges that stand
  one_more : (number : ℕ) (key : Key) (x : DocKey) (rest : List EdgeRef) → leads_to table number key x ≡ true → AllStand rest → AllStand (edge_to number key x.id ∷ rest)
  one_more number key x rest leads later = rw leads later

  both : (own rest edges : List EdgeRef) → edges ≡ own ++ rest → AllStand own → AllStand rest → AllStand edges
  both own rest edges is first second = subst AllStand (sym is) (joined own rest first second)

  -- the operands that have an entity, of which the first has it or not
  having_by : (plan : Plan) (others : Plans) (x : DocKey) (edges : List EdgeRef) (b : Bool)
      → (elim b as (λ c. Type 0) [
        | true ↦ (own : List EdgeRef) × (rest : List EdgeRef) × (edges ≡ own ++ rest) × IsLineage schema table plan x own × IsUnderHaving schema table others x rest
        | false ↦ IsUnderHaving schema table others x edges
      ]) → ((own : List EdgeRef) → IsLineage schema table plan x own → AllStand own) → ((rest : List EdgeRef) → IsUnderHaving schema table others x rest → AllStand rest) → AllStand edges
  having_by plan others x edges true h own rest = both h.0 h.1 edges h.2 (own h.0 h.3) (rest h.1 h.4)
  having_by plan others x edges false h own rest = rest edges h

  mutual
    pub plan_stands : (plan : Plan) (x : DocKey) (edges : List EdgeRef) → IsLineage schema table plan x edges → AllStand edges
    plan_stands (term_plan number key) x edges h = subst AllStand (sym h.1) (one_more number key x [] h.0 refl)
    plan_stands (prefix_plan number from) x edges h = subst AllStand (sym h.3) (one_more number (Word h.0) x [] h.2 refl)
    plan_stands (list_plan And plans) x edges h = each_stands plans x edges h
    plan_stands (list_plan Or plans) x edges h = some_stands plans x edges h
    plan_stands (list_plan Difference plans) x edges h = first_stands plans x edges h
    plan_stands (list_plan WeakAnd plans) x edges h = having_stand plans x edges h
    plan_stands (list_plan StrongOr plans) x edges h = some_stands plans x edges h
    plan_stands (join_plan kind number limit plan) x edges h = subst AllStand (sym h.4) (one_more number (Id h.0.id) x h.1 h.3 (plan_stands plan h.0 h.1 h.5))

    each_stands : (plans : Plans) (x : DocKey) (edges : List EdgeRef) → IsUnderEach schema table plans x edges → AllStand edges
    each_stands no_plans x edges h = subst AllStand (sym h) refl
    each_stands (with_plan plan mark others) x edges h = both h.0 h.1 edges h.2 (plan_stands plan x h.0 h.3) (each_stands others x h.1 h.4)

    having_stand : (plans : Plans) (x : DocKey) (edges : List EdgeRef) → IsUnderHaving schema table plans x edges → AllStand edges
    having_stand no_plans x edges h = subst AllStand (sym h) refl
    having_stand (with_plan plan mark others) x edges h = having_by plan others x edges (is_hit schema table plan x) h (plan_stands plan x) (having_stand others x)

    some_stands : (plans : Plans) (x : DocKey) (edges : List EdgeRef) → IsUnderOne schema table plans x edges → AllStand edges
    some_stands no_plans x edges h = absurd h
    some_stands (with_plan plan mark others) x edges (inl h) = plan_stands plan x edges h.1
    some_stands (with_plan plan mark others) x edges (inr h) = some_stands others x edges h

    first_stands : (plans : Plans) (x : DocKey) (edges : List EdgeRef) → IsUnderFirst schema table plans x edges → AllStand edges
    first_stands no_plans x edges h = absurd h
    first_stands (with_plan plan mark others) x edges h = plan_stands plan x edges h

pub lineages_stand : LineagesStand
lineages_stand = record { stands = λ schema table plan x edges h. plan_stands schema table plan x edges h }
