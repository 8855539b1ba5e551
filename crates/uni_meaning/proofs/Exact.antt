-- The list of lineages has exactly the lineages.
use Rattle.std.proofs.Common.{◌≡◌, ◌↔◌, ◌++◌, ◌⊎◌, inl, inr, ℕ, Bool, true, false, List, [], ◌∷◌, refl, sym, subst, if◌then◌else◌, map, filter}
use Rattle.std.proofs.lemmas.List.Elements.{Contains-append_left, Contains-append_right, Contains-append_cases}
use Rattle.std.specs.List.{Contains, flat_map}
use Rattle.uni_base.specs.declared.edge.EdgeRef.{EdgeRef}
use Rattle.uni_base.specs.declared.edge.Key.{Key}
use Rattle.uni_base.specs.declared.edge.Key.TheVariants.{Id, Word}
use Rattle.uni_base.specs.declared.entity.DocKey.{DocKey}
use Rattle.uni_schema.specs.Schema.{Declarations}
use Rattle.uni_table.specs.Contents.{Contents}
use Rattle.uni_table.proofs.Listed.{first_is, none_in_nil}
use Rattle.query_tree.specs.declared.kind.ListKind.TheVariants.{And, Or, Difference, WeakAnd, StrongOr}
use Rattle.query_check.specs.Plan.{Plan, Plans, term_plan, prefix_plan, list_plan, join_plan, no_plans, with_plan}
use Rattle.uni_meaning.specs.Hits.{cut, edge_to, is_hit, leads_to}
use Rattle.uni_meaning.specs.Laws.{LineagesAreExact}
use Rattle.uni_meaning.specs.Lineages.{IsLineage, IsUnderEach, IsUnderHaving, IsUnderOne, IsUnderFirst, choices, lineages, under_each, under_having, under_one, under_first}
use Rattle.uni_meaning.specs.Prefixes.{prefix_keys}
use Rattle.uni_meaning.proofs.Members.{made_of, is_made, listed_by, is_listed, left_by, is_left, only}

-- a choice is one of each, joined
chosen : (ls ms : List (List EdgeRef)) (edges : List EdgeRef) → Contains (choices ls ms) edges → (own : List EdgeRef) × (rest : List EdgeRef) × (edges ≡ own ++ rest) × Contains ls own × Contains ms rest
chosen ls ms edges h =
    let first = listed_by (λ own. map (λ rest. own ++ rest) ms) ls edges h in
    let second = made_of (λ rest. first.0 ++ rest) ms edges first.2 in
    (first.0, second.0, sym second.2, first.1, second.1)

is_chosen : (ls ms : List (List EdgeRef)) (own rest : List EdgeRef) → Contains ls own → Contains ms rest → Contains (choices ls ms) (own ++ rest)
is_chosen ls ms own rest first second = is_listed (λ l. map (λ m. l ++ m) ms) ls own (own ++ rest) first (is_made (λ m. own ++ m) ms rest second)

module _ (schema : Declarations) (table : Contents) where
  -- of a term
  term_exact : (number : ℕ) (key : Key) (x : DocKey) (edges : List EdgeRef)
      → Contains (if leads_to table number key x then (edge_to number key x.id ∷ []) ∷ [] else []) edges ↔ ((leads_to table number key x ≡ true) × (edges ≡ edge_to number key x.id ∷ []))
  term_exact number key x edges = (by (leads_to table number key x), λ facts. rw facts.0 (subst (Contains ((edge_to number key x.id ∷ []) ∷ [])) (sym facts.1) (first_is (edge_to number key x.id ∷ []) [])))
    where
      by : (b : Bool) → Contains (if b then (edge_to number key x.id ∷ []) ∷ [] else []) edges → (b ≡ true) × (edges ≡ edge_to number key x.id ∷ [])
      by true h = (refl, sym (only (edge_to number key x.id ∷ []) edges h))
      by false h = absurd (none_in_nil edges h)

  prefix_exact : (number : ℕ) (from : List ℕ) (x : DocKey) (edges : List EdgeRef) → Contains (lineages schema table (prefix_plan number from) x) edges ↔ IsLineage schema table (prefix_plan number from) x edges
  prefix_exact number from x edges = (there, back)
    where
      words : List (List ℕ)
      words = prefix_keys table number from

      leads : List ℕ → Bool
      leads word = leads_to table number (Word word) x

      line : List ℕ → List EdgeRef
      line word = edge_to number (Word word) x.id ∷ []

      there : Contains (map line (filter leads words)) edges → IsLineage schema table (prefix_plan number from) x edges
      there h =
          let made = made_of line (filter leads words) edges h in
          let left = left_by leads words made.0 made.1 in
          (made.0, left.0, left.1, sym made.2)

      back : IsLineage schema table (prefix_plan number from) x edges → Contains (map line (filter leads words)) edges
      back facts = subst (Contains (map line (filter leads words))) (sym facts.3) (is_made line (filter leads words) facts.0 (is_left leads words facts.0 facts.1 facts.2))

  -- of a join, where the lineages of the inner plan are exact
  join_exact : (number limit : ℕ) (plan : Plan) (x : DocKey) (edges : List EdgeRef) → ((y : DocKey) (rest : List EdgeRef) → Contains (lineages schema table plan y) rest ↔ IsLineage schema table plan y rest)
      → Contains (flat_map (λ y. if leads_to table number (Id y.id) x then map (λ rest. edge_to number (Id y.id) x.id ∷ rest) (lineages schema table plan y) else []) (cut schema table plan limit)) edges
      ↔ ((y : DocKey) × (rest : List EdgeRef) × Contains (cut schema table plan limit) y × (leads_to table number (Id y.id) x ≡ true) × (edges ≡ edge_to number (Id y.id) x.id ∷ rest)
      × IsLineage schema table plan y rest)
  join_exact number limit plan x edges inner = (there, back)
    where
      ys : List DocKey
      ys = cut schema table plan limit

      after : DocKey → List EdgeRef → List EdgeRef
      after y rest = edge_to number (Id y.id) x.id ∷ rest

      through : DocKey → List (List EdgeRef)
      through y = if leads_to table number (Id y.id) x then map (after y) (lineages schema table plan y) else []

      IsThrough : Type 0
      IsThrough = (y : DocKey) × (rest : List EdgeRef) × Contains ys y × (leads_to table number (Id y.id) x ≡ true) × (edges ≡ edge_to number (Id y.id) x.id ∷ rest) × IsLineage schema table plan y rest

      at : (y : DocKey) → Contains ys y → (b : Bool) → leads_to table number (Id y.id) x ≡ b → Contains (if b then map (after y) (lineages schema table plan y) else []) edges → IsThrough
      at y among true leads h =
          let made = made_of (after y) (lineages schema table plan y) edges h in
          (y, made.0, among, leads, sym made.2, (inner y made.0).0 made.1)
      at y among false leads h = absurd (none_in_nil edges h)

      there : Contains (flat_map through ys) edges → IsThrough
      there h =
          let listed = listed_by through ys edges h in
          at listed.0 listed.1 (leads_to table number (Id listed.0.id) x) refl listed.2

      back : IsThrough → Contains (flat_map through ys) edges
      back facts =
          subst (Contains (flat_map through ys)) (sym facts.4)
          (is_listed through ys facts.0 (after facts.0 facts.1) facts.2
          (rw facts.3 (is_made (after facts.0) (lineages schema table plan facts.0) facts.1 ((inner facts.0 facts.1).1 facts.5))))

  one_exact : (plan : Plan) (others : Plans) (x : DocKey) (edges : List EdgeRef) (b : Bool) → is_hit schema table plan x ≡ b → Contains (lineages schema table plan x) edges ↔ IsLineage schema table plan x edges
      → Contains (under_one schema table others x) edges ↔ IsUnderOne schema table others x edges
      → Contains (if b then lineages schema table plan x ++ under_one schema table others x else under_one schema table others x) edges
      ↔ (((b ≡ true) × IsLineage schema table plan x edges) ⊎ IsUnderOne schema table others x edges)
  one_exact plan others x edges true is own rest = (λ h. there (Contains-append_cases (lineages schema table plan x) (under_one schema table others x) edges h), back)
    where
      there : Contains (lineages schema table plan x) edges ⊎ Contains (under_one schema table others x) edges → ((true ≡ true) × IsLineage schema table plan x edges) ⊎ IsUnderOne schema table others x edges
      there (inl h) = inl (refl, own.0 h)
      there (inr h) = inr (rest.0 h)

      back : ((true ≡ true) × IsLineage schema table plan x edges) ⊎ IsUnderOne schema table others x edges → Contains (lineages schema table plan x ++ under_one schema table others x) edges
      back (inl facts) = Contains-append_left (lineages schema table plan x) (under_one schema table others x) edges (own.1 facts.1)
      back (inr facts) = Contains-append_right (lineages schema table plan x) (under_one schema table others x) edges (rest.1 facts)
  one_exact plan others x edges false is own rest = (λ h. inr (rest.0 h), back)
    where
      back : ((false ≡ true) × IsLineage schema table plan x edges) ⊎ IsUnderOne schema table others x edges → Contains (under_one schema table others x) edges
      back (inl facts) = let no_way : false ≡ true = facts.0 in absurd cc
      back (inr facts) = rest.1 facts

  -- of each of several operands
  both_exact : (ls ms : List (List EdgeRef)) (P Q : List EdgeRef → Type 0) → ((own : List EdgeRef) → Contains ls own ↔ P own) → ((rest : List EdgeRef) → Contains ms rest ↔ Q rest) → (edges : List EdgeRef)
      → Contains (choices ls ms) edges ↔ ((own : List EdgeRef) × (rest : List EdgeRef) × (edges ≡ own ++ rest) × P own × Q rest)
  both_exact ls ms P Q first second edges = (there, back)
    where
      there : Contains (choices ls ms) edges → (own : List EdgeRef) × (rest : List EdgeRef) × (edges ≡ own ++ rest) × P own × Q rest
      there h = let c = chosen ls ms edges h in (c.0, c.1, c.2, (first c.0).0 c.3, (second c.1).0 c.4)

      back : (own : List EdgeRef) × (rest : List EdgeRef) × (edges ≡ own ++ rest) × P own × Q rest → Contains (choices ls ms) edges
      back c = subst (Contains (choices ls ms)) (sym c.2) (is_chosen ls ms c.0 c.1 ((first c.0).1 c.3) ((second c.1).1 c.4))

  -- a lineage under each operand that has the entity, of which the first has it or not
  abbrev having_by : Plan → Plans → DocKey → List EdgeRef → Bool → Type 0
  having_by plan others x edges b = elim b [
    | true ↦ (own : List EdgeRef) × (rest : List EdgeRef) × (edges ≡ own ++ rest) × IsLineage schema table plan x own × IsUnderHaving schema table others x rest
    | false ↦ IsUnderHaving schema table others x edges
  ]

  having_exact : (plan : Plan) (others : Plans) (x : DocKey) (edges : List EdgeRef) (b : Bool) → ((own : List EdgeRef) → Contains (lineages schema table plan x) own ↔ IsLineage schema table plan x own)
      → ((rest : List EdgeRef) → Contains (under_having schema table others x) rest ↔ IsUnderHaving schema table others x rest)
      → Contains (if b then choices (lineages schema table plan x) (under_having schema table others x) else under_having schema table others x) edges
      ↔ having_by plan others x edges b
  having_exact plan others x edges true own rest =
      both_exact (lineages schema table plan x) (under_having schema table others x) (IsLineage schema table plan x) (IsUnderHaving schema table others x) own rest edges
  having_exact plan others x edges false own rest = rest edges

  none_exact : (edges : List EdgeRef) → Contains ([] ∷ []) edges ↔ (edges ≡ [])
  none_exact edges = (λ h. sym (only [] edges h), λ is. subst (Contains ([] ∷ [])) (sym is) (first_is [] []))

  mutual
    pub plan_exact : (plan : Plan) (x : DocKey) (edges : List EdgeRef) → Contains (lineages schema table plan x) edges ↔ IsLineage schema table plan x edges
    plan_exact (term_plan number key) x edges = term_exact number key x edges
    plan_exact (prefix_plan number from) x edges = prefix_exact number from x edges
    plan_exact (list_plan And plans) x edges = each_exact plans x edges
    plan_exact (list_plan Or plans) x edges = some_exact plans x edges
    plan_exact (list_plan Difference plans) x edges = first_exact plans x edges
    plan_exact (list_plan WeakAnd plans) x edges = having_all plans x edges
    plan_exact (list_plan StrongOr plans) x edges = some_exact plans x edges
    plan_exact (join_plan kind number limit plan) x edges = join_exact number limit plan x edges (plan_exact plan)

    each_exact : (plans : Plans) (x : DocKey) (edges : List EdgeRef) → Contains (under_each schema table plans x) edges ↔ IsUnderEach schema table plans x edges
    each_exact no_plans x edges = none_exact edges
    each_exact (with_plan plan mark others) x edges =
        both_exact (lineages schema table plan x) (under_each schema table others x) (IsLineage schema table plan x) (IsUnderEach schema table others x) (plan_exact plan x) (each_exact others x) edges

    having_all : (plans : Plans) (x : DocKey) (edges : List EdgeRef) → Contains (under_having schema table plans x) edges ↔ IsUnderHaving schema table plans x edges
    having_all no_plans x edges = none_exact edges
    having_all (with_plan plan mark others) x edges = having_exact plan others x edges (is_hit schema table plan x) (plan_exact plan x) (having_all others x)

    some_exact : (plans : Plans) (x : DocKey) (edges : List EdgeRef) → Contains (under_one schema table plans x) edges ↔ IsUnderOne schema table plans x edges
    some_exact no_plans x edges = (λ h. none_in_nil edges h, λ no_way. absurd no_way)
    some_exact (with_plan plan mark others) x edges = one_exact plan others x edges (is_hit schema table plan x) refl (plan_exact plan x edges) (some_exact others x edges)

    first_exact : (plans : Plans) (x : DocKey) (edges : List EdgeRef) → Contains (under_first schema table plans x) edges ↔ IsUnderFirst schema table plans x edges
    first_exact no_plans x edges = (λ h. none_in_nil edges h, λ no_way. absurd no_way)
    first_exact (with_plan plan mark others) x edges = plan_exact plan x edges

pub lineages_are_exact : LineagesAreExact
lineages_are_exact = record { exact = λ schema table plan x edges. plan_exact schema table plan x edges }
