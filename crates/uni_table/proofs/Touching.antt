-- The edges that touch an id are those that leave it and do not reach it, and those that reach it.
use Rattle.std.proofs.Common.{◌≡◌, ℕ, ◌&&◌, ◌||◌, not, Bool, true, false, List, [], ◌∷◌, cond, refl, sym, ◌∙◌, ap, subst, map, filter, length}
use Rattle.std.proofs.lemmas.List.Sorted.{IsPermutation-trans}
use Rattle.std.specs.List.Sorted.{IsPermutation, IsSortedByKey}
use Rattle.uni_base.specs.declared.edge.EdgeRef.{EdgeRef}
use Rattle.uni_base.specs.declared.edge.Held.{Held}
use Rattle.uni_base.specs.declared.limits.Limits.{Limits}
use Rattle.uni_base.specs.EdgeOrder.{edge_cmp}
use Rattle.uni_schema.specs.Schema.{Declarations}
use Rattle.uni_table.specs.declared.command.EdgeRow.{EdgeRow}
use Rattle.uni_table.specs.Added.{Adds}
use Rattle.uni_table.specs.Contents.{Contents, leaves, leaves_below, reaches, touches, target_stands}
use Rattle.uni_table.specs.Lists.{held_of, touching}
use Rattle.uni_table.specs.TableState.{IsKept}
use Rattle.uni_table.proofs.Additions.{adds_all, adds_either, filter-agree, filter-twice}
use Rattle.uni_table.proofs.Entries.{sorted-filter}
use Rattle.uni_table.proofs.Gone.{declared_from}
use Rattle.uni_table.proofs.InOrder.{edges_in_order}
use Rattle.uni_table.proofs.Permuted.{permuted-filter}

-- a test of what f makes of items, on what a filter leaves of them
pub filter-map : {X Y : Type 0} (f : X → Y) (p : Y → Bool) (xs : List X) → filter p (map f xs) ≡ map f (filter (λ x. p (f x)) xs)
filter-map f p [] = refl
filter-map {X} {Y} f p (x ∷ xs) =
    elim (p (f x)) as (λ b. cond b (f x ∷ filter p (map f xs)) (filter p (map f xs)) ≡ map f (cond b (x ∷ filter (λ (y : X). p (f y)) xs) (filter (λ (y : X). p (f y)) xs))) [
      | true ↦ ap (λ (ys : List Y). f x ∷ ys) (filter-map f p xs)
      | false ↦ filter-map f p xs
    ]

module _ (schema : Declarations) (limits : Limits) (table : Contents) (kept : IsKept schema limits table) (id : ℕ) where
  -- of the edges that leave the id, those that do not reach it
  abbrev leaves_alone : EdgeRef × EdgeRow → Bool
  leaves_alone e = leaves id e.0 && not (reaches id e.0)

  -- are what is left of those that leave it by some type
  left_alone : (left kept_back : List Held) → Adds [] left (map held_of (filter (λ e. leaves_below (length schema.types) id e.0) table.edges)) → kept_back ≡ filter (λ h. not (reaches id h.edge)) left
      → IsPermutation (map held_of (filter leaves_alone table.edges)) kept_back
  left_alone left kept_back added is =
      let all : List Held = map held_of (filter (λ (e : EdgeRef × EdgeRow). leaves_below (length schema.types) id e.0) table.edges) in
      let same : filter (λ (h : Held). not (reaches id h.edge)) all ≡ map held_of (filter leaves_alone table.edges) =
      filter-map held_of (λ (h : Held). not (reaches id h.edge)) (filter (λ (e : EdgeRef × EdgeRow). leaves_below (length schema.types) id e.0) table.edges)
      ∙ ap (map held_of) (filter-twice (λ (e : EdgeRef × EdgeRow). not (reaches id e.0)) (λ (e : EdgeRef × EdgeRow). leaves_below (length schema.types) id e.0) table.edges
      ∙ filter-agree (λ (e : EdgeRef × EdgeRow). target_stands schema table e.0) _ leaves_alone (λ e stands. rw (declared_from schema table e.0 stands) (by (leaves id e.0) (not (reaches id e.0)))) table.edges kept.targets) in
      subst (λ (hs : List Held). IsPermutation hs kept_back) same
      (subst (IsPermutation (filter (λ (h : Held). not (reaches id h.edge)) all)) (sym is) (permuted-filter (λ (h : Held). not (reaches id h.edge)) all left (adds_all left all added)))
    where
      by : (l r : Bool) → ((l && true) && r) ≡ (l && r)
      by true r = refl
      by false r = refl

  -- so with those that reach it they are all that touch it, and in the table's order their list
  pub touching-is : (left kept_back all listed : List Held) → Adds [] left (map held_of (filter (λ e. leaves_below (length schema.types) id e.0) table.edges))
      → kept_back ≡ filter (λ h. not (reaches id h.edge)) left → Adds kept_back all (map held_of (filter (λ e. reaches id e.0) table.edges))
      → IsPermutation all listed → IsSortedByKey (λ h. h.edge) edge_cmp listed → listed ≡ touching table id
  touching-is left kept_back all listed leaving is reaching same up =
      edges_in_order (filter (λ (e : EdgeRef × EdgeRow). touches id e.0) table.edges) (sorted-filter edge_cmp (λ (e : EdgeRef × EdgeRow). touches id e.0) table.edges kept.edges) listed
      (IsPermutation-trans (touching table id) all listed
      (adds_all all (touching table id)
      (adds_either held_of leaves_alone (λ (e : EdgeRef × EdgeRow). reaches id e.0) (λ (e : EdgeRef × EdgeRow). touches id e.0)
      (λ e. apart (leaves id e.0) (reaches id e.0)) (λ e. both (leaves id e.0) (reaches id e.0)) table.edges [] kept_back all
      (record { added = kept_back; is = refl; same = left_alone left kept_back leaving is }) reaching)) same) up
    where
      apart : (l r : Bool) → (l && not r) ≡ true → r ≡ false
      apart true true e = cc
      apart true false e = refl
      apart false r e = cc

      both : (l r : Bool) → (r || l) ≡ ((l && not r) || r)
      both true true = refl
      both true false = refl
      both false true = refl
      both false false = refl
