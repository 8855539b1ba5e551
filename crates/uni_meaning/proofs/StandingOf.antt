-- How an entity stands under terms and joins.
use Rattle.std.proofs.Common.{◌≡◌, ◌&&◌, ℕ, Bool, true, false, if◌then◌else◌, List, [], ◌∷◌, Option, None, Some, refl, sym, ◌∙◌, ap, map}
use Rattle.std.specs.List.{Contains, list_any}
use Rattle.std.specs.Option.{option_map, option_and_then}
use Rattle.uni_base.specs.declared.edge.EdgeRef.{EdgeRef}
use Rattle.uni_base.specs.declared.edge.Key.{Key}
use Rattle.uni_base.specs.declared.edge.Key.TheVariants.{Id}
use Rattle.uni_base.specs.declared.entity.DocKey.{DocKey}
use Rattle.uni_schema.specs.Schema.{shard_of}
use Rattle.uni_table.specs.Ranked.{ranked}
use Rattle.query_tree.specs.declared.kind.JoinKind.{JoinKind}
use Rattle.query_check.specs.Plan.{Plan, term_plan, join_plan}
use Rattle.uni_meaning.specs.Firsts.{first_given, first_shown, seen_edge}
use Rattle.uni_meaning.specs.Hits.{cut, edge_to, leads_to, target_of}
use Rattle.uni_meaning.specs.Policy.{authorised}
use Rattle.uni_meaning.specs.Standings.{first_of, member_of, members_of, shown_as, standing_of, through, under_join, under_term}
use Rattle.uni_meaning.specs.Viewed.{Viewed}
use Rattle.uni_meaning.specs.declared.standing.Standing.{Standing}
use Rattle.uni_meaning.specs.declared.standing.Standing.TheVariants.{Missed, Hidden, Shown}
use Rattle.uni_meaning.proofs.FirstFound.{first_of-given}
use Rattle.uni_meaning.proofs.Prefixed.{among_left}

module _ (v : Viewed) where
  -- an entity is among those of its shard
  abbrev pub AtHome : ℕ → DocKey → Type 0
  AtHome vertical x = Contains (ranked v.schema v.contents vertical (shard_of v.schema vertical x.id)) x

  abbrev may_see : EdgeRef → Bool
  may_see edge = authorised v.schema v.contents v.viewer edge

  pub term_standing : (number : ℕ) (key : Key) (x : DocKey) → AtHome (target_of v.schema number) x → standing_of v (term_plan number key) x ≡ under_term v number key x
  term_standing number key x home =
      ap (λ b. if b then shown_as (option_map (λ edge. edge ∷ []) (seen_edge v.schema v.contents v.viewer number key x)) else Missed)
      (among_left (leads_to v.contents number key) x (ranked v.schema v.contents (target_of v.schema number) (shard_of v.schema (target_of v.schema number) x.id)) home)
      ∙ by (leads_to v.contents number key x) (may_see edge)
    where
      edge : EdgeRef
      edge = edge_to number key x.id

      by : (b c : Bool) → (if b then shown_as (option_map (λ e. e ∷ []) (if b && c then Some edge else None)) else Missed) ≡ (if b then (if c then Shown (edge ∷ []) else Hidden) else Missed)
      by true true = refl
      by true false = refl
      by false c = refl

  module _ (kind : JoinKind) (number limit : ℕ) (plan : Plan) (x : DocKey) where
    -- what is shown through a member of the cut
    shown_through : DocKey → Option (List EdgeRef)
    shown_through y = option_and_then (λ edge. option_map (λ rest. edge ∷ rest) (first_shown v.schema v.contents v.viewer plan y)) (seen_edge v.schema v.contents v.viewer number (Id y.id) x)

    nothing_through : (y : DocKey) → leads_to v.contents number (Id y.id) x ≡ false → shown_through y ≡ None
    unfolding shown_through
    nothing_through y e = ap (λ b. option_and_then (λ edge. option_map (λ rest. edge ∷ rest) (first_shown v.schema v.contents v.viewer plan y)) (if b && may_see (edge_to number (Id y.id) x.id) then Some (edge_to number (Id y.id) x.id) else None)) e

    through_is : (y : DocKey) → through v number x (member_of v plan y) ≡ (if leads_to v.contents number (Id y.id) x then shown_as (shown_through y) else Missed)
    unfolding shown_through
    through_is y = by (leads_to v.contents number (Id y.id) x) (may_see edge) (first_shown v.schema v.contents v.viewer plan y)
      where
        edge : EdgeRef
        edge = edge_to number (Id y.id) x.id

        by : (b c : Bool) (o : Option (List EdgeRef))
            → (if b then elim o as (λ z. Standing) [ None ↦ Hidden | Some rest ↦ if c then Shown (edge ∷ rest) else Hidden ] else Missed)
            ≡ (if b then shown_as (option_and_then (λ e. option_map (λ rest. e ∷ rest) o) (if b && c then Some edge else None)) else Missed)
        by true true None = refl
        by true false None = refl
        by true true (Some rest) = refl
        by true false (Some rest) = refl
        by false c o = refl

    through_all : (zs : List DocKey) → map (through v number x) (members_of v plan zs) ≡ map (λ y. if leads_to v.contents number (Id y.id) x then shown_as (shown_through y) else Missed) zs
    through_all [] = refl
    through_all (y ∷ zs) = λ i. through_is y i ∷ through_all zs i

    pub join_standing : AtHome (target_of v.schema number) x → standing_of v (join_plan kind number limit plan) x ≡ under_join v number (members_of v plan (cut v.schema v.contents plan limit)) x
    unfolding shown_through
    join_standing home =
        ap (λ b. if b then shown_as (first_given shown_through (cut v.schema v.contents plan limit)) else Missed)
        (among_left (λ k. list_any (λ y. leads_to v.contents number (Id y.id) k) (cut v.schema v.contents plan limit)) x (ranked v.schema v.contents (target_of v.schema number) (shard_of v.schema (target_of v.schema number) x.id)) home)
        ∙ sym (ap first_of (through_all (cut v.schema v.contents plan limit))
        ∙ first_of-given (λ y. leads_to v.contents number (Id y.id) x) shown_through nothing_through (cut v.schema v.contents plan limit))
