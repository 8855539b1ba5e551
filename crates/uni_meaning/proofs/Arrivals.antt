-- What edges from the members of a join's cut bring to their targets.
use Rattle.std.proofs.Common.{◌≡◌, ◌<◌, ◌==◌, ◌||◌, ◌⊎◌, inl, inr, ℕ, Bool, true, false, if◌then◌else◌, List, [], ◌∷◌, Option, None, Some, is_some, refl, sym, ◌∙◌, ap, arith, length, map}
use Rattle.std.proofs.lemmas.Bool.Decides.{nat_tests}
use Rattle.std.specs.List.{Contains, list_any}
use Rattle.std.specs.Option.{option_map}
use Rattle.uni_base.specs.declared.edge.EdgeRef.{EdgeRef}
use Rattle.uni_base.specs.declared.edge.Held.{Held}
use Rattle.uni_base.specs.declared.edge.Key.{Key}
use Rattle.uni_base.specs.declared.limits.Limits.{Limits}
use Rattle.uni_table.specs.Contents.{edge_at, has_edge}
use Rattle.uni_table.specs.Ranked.{reached_of}
use Rattle.uni_table.specs.declared.command.EdgeRow.{EdgeRow}
use Rattle.uni_table.specs.TableState.{IsKept}
use Rattle.uni_table.proofs.Exact.{reached_is_exact}
use Rattle.uni_table.proofs.Listed.{none_in_nil, first_or_later, first_is, later_is}
use Rattle.uni_meaning.specs.Hits.{edge_to}
use Rattle.uni_meaning.specs.Policy.{authorised}
use Rattle.uni_meaning.specs.Standings.{arrival, by_member, either, first_of, is_found, is_shown}
use Rattle.uni_meaning.specs.Viewed.{Viewed}
use Rattle.uni_meaning.specs.declared.cut.Member.{Member}
use Rattle.uni_meaning.specs.declared.standing.Standing.{Standing}
use Rattle.uni_meaning.specs.declared.standing.Standing.TheVariants.{Missed, Hidden, Shown}
use Rattle.uni_meaning.proofs.Combined.{either_missed}
use Rattle.uni_meaning.proofs.FirstFound.{either_shown, either_unshown, first_of-one}

same_number : (a b : ℕ) → (a == b) ≡ true → a ≡ b
same_number a b e = grind (arith, nat_tests)

itself : (a : ℕ) → (a == a) ≡ true
itself a = grind (arith, nat_tests)

-- a test that an item of a list passes finds one
pub any_from : {X : Type 0} (p : X → Bool) (xs : List X) (x : X) → Contains xs x → p x ≡ true → list_any p xs ≡ true
any_from p [] x h e = absurd (none_in_nil x h)
any_from p (y ∷ xs) x h e = by (first_or_later y xs x h) (λ later. any_from p xs x later e)
  where
    either_true : (b : Bool) → (b || true) ≡ true
    either_true true = refl
    either_true false = refl

    by : (y ≡ x) ⊎ Contains xs x → (Contains xs x → list_any p xs ≡ true) → (p y || list_any p xs) ≡ true
    by (inl same) rest = ap (λ b. b || list_any p xs) (ap p same ∙ e)
    by (inr later) rest = ap (λ b. p y || b) (rest later) ∙ either_true (p y)

-- what a test finds is an item that passes
pub found_by : {X : Type 0} (p : X → Bool) (xs : List X) → list_any p xs ≡ true → (x : X) × Contains xs x × (p x ≡ true)
found_by p [] e = cc
found_by {X} p (y ∷ xs) e = by (p y) refl e (found_by p xs)
  where
    later : (x : X) × Contains xs x × (p x ≡ true) → (x : X) × Contains (y ∷ xs) x × (p x ≡ true)
    later x = (x.0, later_is y xs x.0 x.1, x.2)

    by : (b : Bool) → p y ≡ b → (b || list_any p xs) ≡ true → (list_any p xs ≡ true → (x : X) × Contains xs x × (p x ≡ true)) → (x : X) × Contains (y ∷ xs) x × (p x ≡ true)
    by true f h rest = (y, first_is y xs, f)
    by false f h rest = later (rest h)

-- two tests of which each passes where the other does
pub same_tests : (a b : Bool) → (a ≡ true → b ≡ true) → (b ≡ true → a ≡ true) → a ≡ b
same_tests true b there back = sym (there refl)
same_tests false true there back = back refl
same_tests false false there back = refl

module _ (v : Viewed) where
  pub is_found-by_edge : (edge : EdgeRef) (lineage : Option (List EdgeRef)) → is_found (by_member v edge lineage) ≡ true
  is_found-by_edge edge None = refl
  is_found-by_edge edge (Some rest) = by (authorised v.schema v.contents v.viewer edge)
    where
      by : (b : Bool) → is_found (if b then Shown (edge ∷ rest) else Hidden) ≡ true
      by true = refl
      by false = refl

  -- what stands at an id once an edge is taken that shows anew, and once one is passed where something is shown
  pub taken : (member : Member) (held : Held) (id : ℕ) (before at : Standing) (old : Standing) → is_shown at ≡ false → (held.edge.target ≡ id → at ≡ before) → old ≡ before
      → (if held.edge.target == id then by_member v held.edge member.lineage else old) ≡ either before (arrival v member id held)
  taken member held id before at old unshown same is = by (held.edge.target == id) refl
    where
      new : Standing
      new = by_member v held.edge member.lineage

      by : (b : Bool) → (held.edge.target == id) ≡ b → (if b then new else old) ≡ either before (if b then new else Missed)
      by true e = sym (either_unshown before new (ap is_shown (sym (same (same_number held.edge.target id e))) ∙ unshown) (is_found-by_edge held.edge member.lineage))
      by false e = is ∙ sym (either_missed before)

  pub passed : (member : Member) (held : Held) (id : ℕ) (before at : Standing) → is_shown at ≡ true → (held.edge.target ≡ id → at ≡ before) → before ≡ either before (arrival v member id held)
  passed member held id before at shown same = by (held.edge.target == id) refl
    where
      new : Standing
      new = by_member v held.edge member.lineage

      by : (b : Bool) → (held.edge.target == id) ≡ b → before ≡ either before (if b then new else Missed)
      by true e = sym (either_shown before new (ap is_shown (sym (same (same_number held.edge.target id e))) ∙ shown))
      by false e = sym (either_missed before)

  module _ (limits : Limits) (kept : IsKept v.schema limits v.contents) (number : ℕ) (within : number < length v.schema.types) (key : Key) where
    abbrev held_of_row : EdgeRef → EdgeRow → Held
    held_of_row edge row = record { edge = edge; audience = row.audience }

    -- an edge of a type and key is that of its target, which the table has
    pub reached_edge : (held : Held) → Contains (reached_of v.schema v.contents number key) held → (held.edge ≡ edge_to number key held.edge.target) × (has_edge v.contents (edge_to number key held.edge.target) ≡ true)
    reached_edge held there = by (edge_at v.contents (edge_to number key held.edge.target)) ((reached_is_exact.lists v.schema limits v.contents number key held within kept).0 there)
      where
        edge : EdgeRef
        edge = edge_to number key held.edge.target

        by : (o : Option EdgeRow) → option_map (λ audience. record { edge = edge; audience = audience }) (option_map (λ row. row.audience) o) ≡ Some held → (held.edge ≡ edge) × (is_some o ≡ true)
        by None h = cc
        by (Some row) h = let same : held_of_row edge row ≡ held = cc in (ap (λ (x : Held). x.edge) (sym same), refl)

    -- and each edge that the table has is reached
    pub reached_there : (id : ℕ) → has_edge v.contents (edge_to number key id) ≡ true → (held : Held) × Contains (reached_of v.schema v.contents number key) held × (held.edge.target ≡ id)
    reached_there id has = by (edge_at v.contents (edge_to number key id)) refl has
      where
        edge : EdgeRef
        edge = edge_to number key id

        by : (o : Option EdgeRow) → edge_at v.contents edge ≡ o → is_some o ≡ true → (held : Held) × Contains (reached_of v.schema v.contents number key) held × (held.edge.target ≡ id)
        by None e h = cc
        by (Some row) e h = (
          held_of_row edge row,
          (reached_is_exact.lists v.schema limits v.contents number key (held_of_row edge row) within kept).1
              (ap (λ (o : Option EdgeRow). option_map (λ audience. record { edge = edge; audience = audience }) (option_map (λ r. r.audience) o)) e),
          refl,
        )

    -- what the edges from a member bring to an id is what its edge to the id brings, if there is one
    pub arrivals_are : (member : Member) (id : ℕ) → first_of (map (arrival v member id) (reached_of v.schema v.contents number key))
        ≡ (if has_edge v.contents (edge_to number key id) then by_member v (edge_to number key id) member.lineage else Missed)
    arrivals_are member id =
        first_of-one (λ (held : Held). held.edge.target == id) (λ (held : Held). by_member v held.edge member.lineage) (by_member v (edge_to number key id) member.lineage) hs
        (λ held there same. ap (λ edge. by_member v edge member.lineage) ((reached_edge held there).0 ∙ ap (edge_to number key) (same_number held.edge.target id same)))
        ∙ ap (λ b. if b then by_member v (edge_to number key id) member.lineage else Missed) (same_tests (list_any (λ (held : Held). held.edge.target == id) hs) (has_edge v.contents (edge_to number key id)) there back)
      where
        hs : List Held
        hs = reached_of v.schema v.contents number key

        there : list_any (λ (held : Held). held.edge.target == id) hs ≡ true → has_edge v.contents (edge_to number key id) ≡ true
        there any =
            let found = found_by (λ (held : Held). held.edge.target == id) hs any in
            ap (λ n. has_edge v.contents (edge_to number key n)) (sym (same_number found.0.edge.target id found.2)) ∙ (reached_edge found.0 found.1).1

        back : has_edge v.contents (edge_to number key id) ≡ true → list_any (λ (held : Held). held.edge.target == id) hs ≡ true
        back has =
            let found = reached_there id has in
            any_from (λ (held : Held). held.edge.target == id) hs found.0 found.1 (ap (λ n. n == id) found.2 ∙ itself id)
