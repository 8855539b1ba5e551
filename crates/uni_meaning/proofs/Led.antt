-- Every hit has a lineage.
use Rattle.std.proofs.Common.{◌≡◌, ◌++◌, ◌||◌, ◌⊎◌, inl, inr, not, ℕ, Bool, true, false, List, [], ◌∷◌, refl, sym, ◌∙◌, ap, subst}
use Rattle.std.proofs.lemmas.Bool.{and_parts}
use Rattle.std.specs.List.{list_all, list_any}
use Rattle.uni_base.specs.declared.edge.EdgeRef.{EdgeRef}
use Rattle.uni_base.specs.declared.edge.Key.TheVariants.{Id, Word}
use Rattle.uni_base.specs.declared.entity.DocKey.{DocKey}
use Rattle.uni_schema.specs.Schema.{shard_of}
use Rattle.uni_table.specs.Ranked.{ranked}
use Rattle.uni_table.specs.TableState.{IsKept}
use Rattle.query_tree.specs.declared.kind.ListKind.{ListKind}
use Rattle.query_tree.specs.declared.kind.ListKind.TheVariants.{And, Or, Difference, WeakAnd, StrongOr}
use Rattle.query_check.specs.Plan.{Plan, Plans, term_plan, prefix_plan, list_plan, join_plan, no_plans, with_plan}
use Rattle.query_check.specs.Verticals.{AreOf, IsOf}
use Rattle.uni_meaning.specs.Firsts.{first_shown}
use Rattle.uni_meaning.specs.Hits.{cut, edge_to, first_vertical, is_hit, leads_to, target_of}
use Rattle.uni_meaning.specs.Laws.{HitsHaveLineages}
use Rattle.uni_meaning.specs.Lineages.{IsLineage, IsUnderEach, IsUnderHaving, IsUnderOne, IsUnderFirst}
use Rattle.uni_meaning.specs.Prefixes.{prefix_keys}
use Rattle.uni_meaning.specs.Standings.{first_only, is_found, standing_of}
use Rattle.uni_meaning.specs.Viewed.{Viewed}
use Rattle.uni_meaning.proofs.Arrivals.{found_by}
use Rattle.uni_meaning.proofs.Homes.{cut_hit, home}
use Rattle.uni_meaning.proofs.ListStandings.{walk_some}
use Rattle.uni_meaning.proofs.Prefixed.{among_left}
use Rattle.uni_meaning.proofs.SetStandings.{found_is, is_all, is_alone, is_any, row_of}
use Rattle.uni_meaning.proofs.Typed.{list_of, vertical_is}

module _ (v : Viewed) (kept : IsKept v.schema v.limits v.contents) where
  abbrev Led : Plan → DocKey → Type 0
  Led plan x = (edges : List EdgeRef) × IsLineage v.schema v.contents plan x edges

  -- a list is of the vertical of its first operand
  pub of_first : (kind : ListKind) (plans : Plans) (vertical : ℕ) → IsOf v.schema (list_plan kind plans) vertical → AreOf v.schema plans (first_vertical v.schema plans)
  of_first kind plans vertical of =
      subst (AreOf v.schema plans) (sym (vertical_is v.schema (list_plan kind plans) vertical of)) (list_of v.schema kind plans vertical of)

  pub found_hit : (plan : Plan) (x : DocKey) → is_found (standing_of v plan x) ≡ is_hit v.schema v.contents plan x
  found_hit plan x = found_is (is_hit v.schema v.contents plan x) (first_shown v.schema v.contents v.viewer plan x)

  -- a lineage under an operand, where it has the entity
  having : (plan : Plan) (others : Plans) (x : DocKey) (b : Bool) → is_hit v.schema v.contents plan x ≡ b → (is_hit v.schema v.contents plan x ≡ true → Led plan x)
      → ((edges : List EdgeRef) × IsUnderHaving v.schema v.contents others x edges)
      → (edges : List EdgeRef) × (elim b as (λ c. Type 0) [
        | true ↦ (own : List EdgeRef) × (rest : List EdgeRef) × (edges ≡ own ++ rest) × IsLineage v.schema v.contents plan x own × IsUnderHaving v.schema v.contents others x rest
        | false ↦ IsUnderHaving v.schema v.contents others x edges
      ])
  having plan others x true e led rest = let own = led e in (own.0 ++ rest.0, (own.0, rest.0, refl, own.1, rest.1))
  having plan others x false e led rest = (rest.0, rest.1)

  -- a lineage under some operand that has the entity
  one_of : (plan : Plan) (others : Plans) (x : DocKey) (b : Bool) → is_found (standing_of v plan x) ≡ b → (is_found (standing_of v plan x) || list_any is_found (row_of v others x)) ≡ true → (is_hit v.schema v.contents plan x ≡ true → Led plan x)
      → (list_any is_found (row_of v others x) ≡ true → (edges : List EdgeRef) × IsUnderOne v.schema v.contents others x edges)
      → (edges : List EdgeRef) × (((is_hit v.schema v.contents plan x ≡ true) × IsLineage v.schema v.contents plan x edges) ⊎ IsUnderOne v.schema v.contents others x edges)
  one_of plan others x true e any own rest = let hit = sym (found_hit plan x) ∙ e in let here = own hit in (here.0, inl (hit, here.1))
  one_of plan others x false e any own rest = let later = rest (sym (ap (λ b. b || list_any is_found (row_of v others x)) e) ∙ any) in (later.0, inr later.1)

  mutual
    led : (plan : Plan) (vertical : ℕ) (x : DocKey) → IsOf v.schema plan vertical → is_hit v.schema v.contents plan x ≡ true → Led plan x
    led (term_plan number key) vertical x of hit =
        (edge_to number key x.id ∷ [], (sym (among_left (leads_to v.contents number key) x (ranked v.schema v.contents (target_of v.schema number) (shard_of v.schema (target_of v.schema number) x.id)) (home v.schema v.contents (term_plan number key) x hit)) ∙ hit, refl))
    led (prefix_plan number from) vertical x of hit =
        let any = sym (among_left (λ k. list_any (λ word. leads_to v.contents number (Word word) k) (prefix_keys v.contents number from)) x (ranked v.schema v.contents (target_of v.schema number) (shard_of v.schema (target_of v.schema number) x.id)) (home v.schema v.contents (prefix_plan number from) x hit)) ∙ hit in
        let found = found_by (λ word. leads_to v.contents number (Word word) x) (prefix_keys v.contents number from) any in
        (edge_to number (Word found.0) x.id ∷ [], (found.0, found.1, found.2, refl))
    led (list_plan And plans) vertical x of hit = led_each plans vertical x (list_of v.schema And plans vertical of) (sym (is_all v plans x (of_first And plans vertical of) (home v.schema v.contents (list_plan And plans) x hit)) ∙ hit)
    led (list_plan Or plans) vertical x of hit = led_one plans vertical x (list_of v.schema Or plans vertical of) (sym (is_any v plans x (of_first Or plans vertical of) (home v.schema v.contents (list_plan Or plans) x hit)) ∙ hit)
    led (list_plan Difference plans) vertical x of hit = led_first plans vertical x (list_of v.schema Difference plans vertical of) (sym (is_alone v plans x (of_first Difference plans vertical of) (home v.schema v.contents (list_plan Difference plans) x hit)) ∙ hit)
    led (list_plan WeakAnd plans) vertical x of hit = led_having plans vertical x (list_of v.schema WeakAnd plans vertical of)
    led (list_plan StrongOr plans) vertical x of hit = led_one plans vertical x (list_of v.schema StrongOr plans vertical of) (walk_some v StrongOr plans x refl (of_first StrongOr plans vertical of) hit)
    led (join_plan kind number limit plan) vertical x of hit =
        let any = sym (among_left (λ k. list_any (λ y. leads_to v.contents number (Id y.id) k) (cut v.schema v.contents plan limit)) x (ranked v.schema v.contents (target_of v.schema number) (shard_of v.schema (target_of v.schema number) x.id)) (home v.schema v.contents (join_plan kind number limit plan) x hit)) ∙ hit in
        let found = found_by (λ y. leads_to v.contents number (Id y.id) x) (cut v.schema v.contents plan limit) any in
        let inner = led plan of.0 found.0 of.1.1 (cut_hit v.schema v.contents plan limit found.0 found.1) in
        (edge_to number (Id found.0.id) x.id ∷ inner.0, (found.0, inner.0, found.1, found.2, refl, inner.1))

    led_each : (plans : Plans) (vertical : ℕ) (x : DocKey) → AreOf v.schema plans vertical → list_all is_found (row_of v plans x) ≡ true → (edges : List EdgeRef) × IsUnderEach v.schema v.contents plans x edges
    led_each no_plans vertical x of all = ([], refl)
    led_each (with_plan plan mark others) vertical x of all =
        let parts = and_parts (is_found (standing_of v plan x)) (list_all is_found (row_of v others x)) all in
        let own = led plan vertical x of.0 (sym (found_hit plan x) ∙ parts.0) in
        let rest = led_each others vertical x of.1 parts.1 in
        (own.0 ++ rest.0, (own.0, rest.0, refl, own.1, rest.1))

    led_having : (plans : Plans) (vertical : ℕ) (x : DocKey) → AreOf v.schema plans vertical → (edges : List EdgeRef) × IsUnderHaving v.schema v.contents plans x edges
    led_having no_plans vertical x of = ([], refl)
    led_having (with_plan plan mark others) vertical x of = having plan others x (is_hit v.schema v.contents plan x) refl (led plan vertical x of.0) (led_having others vertical x of.1)

    led_one : (plans : Plans) (vertical : ℕ) (x : DocKey) → AreOf v.schema plans vertical → list_any is_found (row_of v plans x) ≡ true → (edges : List EdgeRef) × IsUnderOne v.schema v.contents plans x edges
    led_one no_plans vertical x of any = cc
    led_one (with_plan plan mark others) vertical x of any = one_of plan others x (is_found (standing_of v plan x)) refl any (led plan vertical x of.0) (led_one others vertical x of.1)

    led_first : (plans : Plans) (vertical : ℕ) (x : DocKey) → AreOf v.schema plans vertical → first_only (row_of v plans x) ≡ true → (edges : List EdgeRef) × IsUnderFirst v.schema v.contents plans x edges
    led_first no_plans vertical x of alone = cc
    led_first (with_plan plan mark others) vertical x of alone = led plan vertical x of.0 (sym (found_hit plan x) ∙ (and_parts (is_found (standing_of v plan x)) (not (list_any is_found (row_of v others x))) alone).0)

pub hits_have_lineages : HitsHaveLineages
hits_have_lineages = record {
  has = λ schema limits table plan vertical x kept of hit. led (record { schema = schema; limits = limits; contents = table; viewer = 0 }) kept plan vertical x of hit;
}
