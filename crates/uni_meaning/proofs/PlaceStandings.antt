-- How the entities of a vertical stand, plan by plan, and what is seen of operands.
use Rattle.std.proofs.Common.{◌≡◌, ◌++◌, ◌+◌, ◌<◌, ◌≤◌, ℕ, zero, suc, true, List, [], ◌∷◌, Some, refl, sym, ◌∙◌, ap, subst, arith, length, map, get_or, slice_get}
use Rattle.std.proofs.lemmas.Option.{slice_get-get_or, slice_get-map}
use Rattle.std.specs.List.{Contains, range_with_len}
use Rattle.std.specs.Option.{option_map}
use Rattle.uni_base.specs.declared.edge.Key.{Key}
use Rattle.uni_base.specs.declared.limits.Limits.{Limits}
use Rattle.uni_schema.specs.Schema.{Declarations}
use Rattle.uni_table.specs.TableState.{IsKept}
use Rattle.uni_table.proofs.Listed.{first_is, later_is}
use Rattle.query_tree.specs.declared.kind.JoinKind.{JoinKind}
use Rattle.query_tree.specs.declared.kind.ListKind.{ListKind}
use Rattle.query_check.specs.declared.checked.CheckedOperand.{CheckedOperand}
use Rattle.query_check.specs.declared.checked.CheckedNode.TheViews.{out-CheckedOperand}
use Rattle.query_check.specs.declared.checked.CheckedNode.TheFolds.{fold_out-CheckedOperand}
use Rattle.query_check.specs.Plan.{Plan, Seen, SeenQuery, SeenOperand, Stated, term_plan, prefix_plan, list_plan, join_plan, plans_of, all_inner, node_step, query_step, operand_step, operands_seen, seen_node, seen_operand}
use Rattle.query_check.specs.Verticals.{AreOf, AreStated, IsOf}
use Rattle.uni_meaning.specs.Hits.{cut, first_vertical, target_of}
use Rattle.uni_meaning.specs.Standings.{columns_of, is_set, members_of, places_of, row_at, seen_column, standing_of, standings_of, under_join, under_prefix, under_set, under_term}
use Rattle.uni_meaning.specs.Viewed.{Viewed}
use Rattle.uni_meaning.specs.declared.column.Column.{Column}
use Rattle.uni_meaning.specs.declared.place.Place.{Place}
use Rattle.uni_meaning.proofs.ListStandings.{map_places, row_is}
use Rattle.uni_meaning.proofs.PrefixStandings.{prefix_standing}
use Rattle.uni_meaning.proofs.SeenNodes.{plan_size, plans_size}
use Rattle.uni_meaning.proofs.SetStandings.{set_standing}
use Rattle.uni_meaning.proofs.StandingOf.{join_standing, term_standing}
use Rattle.uni_meaning.proofs.Typed.{at_home}

-- what is made of numbers in a row is what is made of the items at those places
by_places : {X Y : Type 0} (f : ℕ → Y) (g : X → Y) (xs : List X) (from : ℕ) → ((k : ℕ) (x : X) → slice_get xs k ≡ Some x → f (from + k) ≡ g x) → map f (range_with_len from (length xs)) ≡ map g xs
by_places f g [] from same = refl
by_places f g (x ∷ xs) from same =
    let e : from ≡ from + 0 = omega arith in
    λ i. (ap f e ∙ same 0 x refl) i ∷ by_places f g xs (from + 1) (λ k y at. let n : (from + 1) + k ≡ from + suc k = omega arith in ap f n ∙ same (suc k) y at) i

-- an item of a list by its place
at_contains : {X : Type 0} (xs : List X) (k : ℕ) (x : X) → slice_get xs k ≡ Some x → Contains xs x
at_contains [] k x e = cc
at_contains (y ∷ xs) zero x e = let same : y ≡ x = cc in subst (Contains (y ∷ xs)) same (first_is y xs)
at_contains (y ∷ xs) (suc k) x e = later_is y xs x (at_contains xs k x e)

module _ (v : Viewed) (limits : Limits) (kept : IsKept v.schema limits v.contents) where
  pub stand_terms : (number : ℕ) (key : Key) (places : List Place) → places ≡ places_of v.schema v.contents (target_of v.schema number) → map (λ p. under_term v number key p.doc) places ≡ standings_of v (term_plan number key) places
  stand_terms number key places there =
      map_places v (λ p. under_term v number key p.doc) (λ p. standing_of v (term_plan number key) p.doc) places
      (λ p at. sym (term_standing v number key p.doc (at_home v.schema limits v.contents kept (target_of v.schema number) p (subst (λ (ps : List Place). Contains ps p) there at))))

  pub stand_prefixes : (number : ℕ) (from : List ℕ) (places : List Place) → places ≡ places_of v.schema v.contents (target_of v.schema number) → map (λ p. under_prefix v number from p.doc) places ≡ standings_of v (prefix_plan number from) places
  stand_prefixes number from places there =
      map_places v (λ p. under_prefix v number from p.doc) (λ p. standing_of v (prefix_plan number from) p.doc) places
      (λ p at. sym (prefix_standing v limits kept number from p.doc (at_home v.schema limits v.contents kept (target_of v.schema number) p (subst (λ (ps : List Place). Contains ps p) there at))))

  pub stand_joins : (kind : JoinKind) (number limit : ℕ) (plan : Plan) (places : List Place) → places ≡ places_of v.schema v.contents (target_of v.schema number)
      → map (λ p. under_join v number (members_of v plan (cut v.schema v.contents plan limit)) p.doc) places ≡ standings_of v (join_plan kind number limit plan) places
  stand_joins kind number limit plan places there =
      map_places v (λ p. under_join v number (members_of v plan (cut v.schema v.contents plan limit)) p.doc) (λ p. standing_of v (join_plan kind number limit plan) p.doc) places
      (λ p at. sym (join_standing v kind number limit plan p.doc (at_home v.schema limits v.contents kept (target_of v.schema number) p (subst (λ (ps : List Place). Contains ps p) there at))))

  pub stand_sets : (kind : ListKind) (os : List SeenOperand) (columns : List Column) (places : List Place) → is_set kind ≡ true
      → IsOf v.schema (list_plan kind (plans_of os)) (first_vertical v.schema (plans_of os)) → places ≡ places_of v.schema v.contents (first_vertical v.schema (plans_of os)) → map seen_column columns ≡ columns_of v os places
      → map (λ i. under_set kind (row_at columns i)) (range_with_len 0 (length places)) ≡ standings_of v (list_plan kind (plans_of os)) places
  stand_sets kind os columns places set of there seen =
      by_places (λ i. under_set kind (row_at columns i)) (λ p. standing_of v (list_plan kind (plans_of os)) p.doc) places 0
      (λ k p at. let none : 0 + k ≡ k = omega arith in
      ap (λ i. under_set kind (row_at columns i)) none ∙ ap (under_set kind) (row_is v columns os places k p seen at)
      ∙ sym (set_standing v kind (plans_of os) p.doc of set (at_home v.schema limits v.contents kept (first_vertical v.schema (plans_of os)) p (subst (λ (ps : List Place). Contains ps p) there (at_contains places k p at)))))

-- what is seen of an operand
pub operand_is : (operand : CheckedOperand) → seen_operand operand ≡ record { node = seen_node (out-CheckedOperand operand).node; mark = (out-CheckedOperand operand).mark }
operand_is operand = fold_out-CheckedOperand Seen SeenQuery SeenOperand node_step query_step operand_step operand

seen_at : (items : List CheckedOperand) (k : ℕ) (item : CheckedOperand) → k < length items → item ≡ get_or items k item → slice_get (operands_seen items) k ≡ Some (seen_operand item)
seen_at items k item within is = slice_get-map seen_operand items k ∙ ap (λ o. option_map seen_operand o) (slice_get-get_or items k item within) ∙ ap (λ (o : CheckedOperand). Some (seen_operand o)) (sym is)

module _ (schema : Declarations) where
  of_at : (os : List SeenOperand) (k : ℕ) (o : SeenOperand) (vertical : ℕ) → slice_get os k ≡ Some o → AreOf schema (plans_of os) vertical → IsOf schema o.node.plan vertical
  of_at [] k o vertical e of = cc
  of_at (p ∷ os) zero o vertical e of = let same : p ≡ o = cc in subst (λ (q : SeenOperand). IsOf schema q.node.plan vertical) same of.0
  of_at (p ∷ os) (suc k) o vertical e of = of_at os k o vertical e of.1

  stated_first : (xs ys : List Stated) → AreStated schema (xs ++ ys) → AreStated schema xs
  stated_first [] ys all = tt
  stated_first (x ∷ xs) ys all = (all.0, stated_first xs ys all.1)

  stated_rest : (xs ys : List Stated) → AreStated schema (xs ++ ys) → AreStated schema ys
  stated_rest [] ys all = all
  stated_rest (x ∷ xs) ys all = stated_rest xs ys all.1

  stated_at : (os : List SeenOperand) (k : ℕ) (o : SeenOperand) → slice_get os k ≡ Some o → AreStated schema (all_inner os) → AreStated schema o.node.inner
  stated_at [] k o e all = cc
  stated_at (p ∷ os) zero o e all = let same : p ≡ o = cc in subst (λ (q : SeenOperand). AreStated schema q.node.inner) same (stated_first p.node.inner (all_inner os) all)
  stated_at (p ∷ os) (suc k) o e all = stated_at os k o e (stated_rest p.node.inner (all_inner os) all)

  -- an operand is of its list's vertical, and what it states of joins is so
  pub operand_of : (items : List CheckedOperand) (k : ℕ) (item : CheckedOperand) (vertical : ℕ) → k < length items → item ≡ get_or items k item → AreOf schema (plans_of (operands_seen items)) vertical
      → IsOf schema (seen_node (out-CheckedOperand item).node).plan vertical
  operand_of items k item vertical within is of = subst (λ (o : SeenOperand). IsOf schema o.node.plan vertical) (operand_is item) (of_at (operands_seen items) k (seen_operand item) vertical (seen_at items k item within is) of)

  pub operand_stated : (items : List CheckedOperand) (k : ℕ) (item : CheckedOperand) → k < length items → item ≡ get_or items k item → AreStated schema (all_inner (operands_seen items)) → AreStated schema (seen_node (out-CheckedOperand item).node).inner
  operand_stated items k item within is all = subst (λ (o : SeenOperand). AreStated schema o.node.inner) (operand_is item) (stated_at (operands_seen items) k (seen_operand item) (seen_at items k item within is) all)

-- an operand's plan is no larger than all of them
size_at : (os : List SeenOperand) (k : ℕ) (o : SeenOperand) → slice_get os k ≡ Some o → plan_size o.node.plan ≤ plans_size (plans_of os)
size_at [] k o e = cc
size_at (p ∷ os) zero o e = let same : p ≡ o = cc in subst (λ (q : SeenOperand). plan_size q.node.plan ≤ plan_size p.node.plan + plans_size (plans_of os)) same (omega arith)
size_at (p ∷ os) (suc k) o e = omega (arith, size_at os k o e)

pub operand_size : (items : List CheckedOperand) (k : ℕ) (item : CheckedOperand) → k < length items → item ≡ get_or items k item → plan_size (seen_node (out-CheckedOperand item).node).plan ≤ plans_size (plans_of (operands_seen items))
operand_size items k item within is = subst (λ (o : SeenOperand). plan_size o.node.plan ≤ plans_size (plans_of (operands_seen items))) (operand_is item) (size_at (operands_seen items) k (seen_operand item) (seen_at items k item within is))
