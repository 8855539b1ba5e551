-- The cut of a term, by the edges of its key.
use Rattle.std.proofs.Common.{◌≡◌, ◌&&◌, ℕ, zero, suc, Bool, true, false, if◌then◌else◌, List, [], ◌∷◌, Option, None, Some, refl, sym, ◌∙◌, ap, filter, take}
use Rattle.std.specs.List.{Contains, filter_map}
use Rattle.std.specs.Option.{is_some, option_map, option_map_or}
use Rattle.uni_base.specs.declared.edge.EdgeRef.{EdgeRef}
use Rattle.uni_base.specs.declared.edge.Held.{Held}
use Rattle.uni_base.specs.declared.edge.Key.{Key}
use Rattle.uni_base.specs.declared.entity.DocKey.{DocKey}
use Rattle.uni_schema.specs.Schema.{type_at}
use Rattle.uni_schema.specs.declared.schema.TypeDef.{TypeDef}
use Rattle.uni_table.specs.Contents.{edge_at}
use Rattle.uni_table.specs.Ranked.{doc_at, held_at, ranked_all, reached_of}
use Rattle.uni_table.specs.declared.command.EdgeRow.{EdgeRow}
use Rattle.uni_table.specs.declared.command.EntityRow.{EntityRow}
use Rattle.uni_table.proofs.Exact.{ranked_is_exact}
use Rattle.uni_table.proofs.Listed.{first_is, later_is}
use Rattle.query_check.specs.Plan.{Plan, term_plan}
use Rattle.query_check.specs.Verticals.{IsOf}
use Rattle.uni_meaning.specs.Firsts.{first_shown}
use Rattle.uni_meaning.specs.Hits.{cut, edge_to, is_hit, leads_to, target_of}
use Rattle.uni_meaning.specs.Policy.{authorised}
use Rattle.uni_meaning.specs.Standings.{by_edge, led_member, members_of, shown_of}
use Rattle.uni_meaning.specs.Viewed.{Viewed, IsViewed}
use Rattle.uni_meaning.specs.declared.cut.Member.{Member}
use Rattle.uni_meaning.specs.declared.standing.Standing.TheVariants.{Hidden, Shown}
use Rattle.uni_meaning.proofs.Prefixed.{agreed, among_left}
use Rattle.uni_meaning.proofs.Unsharded.{at_home, cut_there}

module _ (v : Viewed) (number : ℕ) (key : Key) where
  abbrev plan : Plan
  plan = term_plan number key

  abbrev edge_of : DocKey → EdgeRef
  edge_of k = edge_to number key k.id

  abbrev led : Held → Option Member
  led held = led_member v number key held.edge.target

  abbrev held_to : DocKey → Option Held
  held_to k = held_at v.contents number key k.id

  -- what is shown by an edge that is there is what is shown of the term
  shown_by : (k : DocKey) → leads_to v.contents number key k ≡ true → shown_of (by_edge v (edge_of k) []) ≡ first_shown v.schema v.contents v.viewer plan k
  shown_by k there =
      by (authorised v.schema v.contents v.viewer (edge_of k))
      ∙ ap (λ b. option_map (λ edge. edge ∷ []) (if b && authorised v.schema v.contents v.viewer (edge_of k) then Some (edge_of k) else None)) (sym there)
    where
      by : (b : Bool) → shown_of (if b then Shown (edge_of k ∷ []) else Hidden) ≡ option_map (λ edge. edge ∷ []) (if true && b then Some (edge_of k) else None)
      by true = refl
      by false = refl

  -- of entities that the table has, each at its rank, the first that the edges lead to
  led_first : (ks : List DocKey) → ((k : DocKey) → Contains ks k → doc_at v.contents k.id ≡ Some k) → (limit : ℕ)
      → filter_map led (take limit (filter_map held_to ks)) ≡ members_of v plan (take limit (filter (leads_to v.contents number key) ks))
  led_first [] known zero = refl
  led_first [] known (suc limit) = refl
  led_first (k ∷ ks) known limit = by (edge_at v.contents (edge_of k)) refl limit (λ n. led_first ks (λ j there. known j (later_is k ks j there)) n)
    where
      by : (o : Option EdgeRow) → edge_at v.contents (edge_of k) ≡ o → (n : ℕ)
          → ((m : ℕ) → filter_map led (take m (filter_map held_to ks)) ≡ members_of v plan (take m (filter (leads_to v.contents number key) ks)))
          → filter_map led (take n (filter_map held_to (k ∷ ks))) ≡ members_of v plan (take n (filter (leads_to v.contents number key) (k ∷ ks)))
      by None e n later = rw e (later n)
      by (Some row) e zero later = refl
      by (Some row) e (suc n) later = rw e (rw (known k (first_is k ks)) (λ i. record { key = k; lineage = shown_by k (ap is_some e) i } ∷ later n i))

  module _ (is : IsViewed v) (typed : IsOf v.schema plan (target_of v.schema number)) where
    -- the term's hits are the entities that its edge leads to
    led_hits : filter (is_hit v.schema v.contents plan) (ranked_all v.contents (target_of v.schema number)) ≡ filter (leads_to v.contents number key) (ranked_all v.contents (target_of v.schema number))
    led_hits =
        agreed (is_hit v.schema v.contents plan) (leads_to v.contents number key) (ranked_all v.contents (target_of v.schema number))
        (λ k there. among_left (leads_to v.contents number key) k _ (at_home v.schema v.limits v.contents is.schema is.kept (target_of v.schema number) k there))

    reached_all : reached_of v.schema v.contents number key ≡ filter_map held_to (ranked_all v.contents (target_of v.schema number))
    reached_all = by (type_at v.schema number) typed.1.0.declared
      where
        by : (o : Option TypeDef) → o ≡ Some typed.1.0.def
            → option_map_or (λ (t : TypeDef). filter_map held_to (ranked_all v.contents t.target)) o [] ≡ filter_map held_to (ranked_all v.contents (option_map_or (λ (t : TypeDef). t.target) o 0))
        by None e = cc
        by (Some def) e = refl

    -- the first of what the edges lead to are the members of the cut
    pub term_cut_is : (limit : ℕ) → filter_map led (take limit (reached_of v.schema v.contents number key)) ≡ members_of v plan (cut v.schema v.contents plan limit)
    term_cut_is limit =
        ap (λ (hs : List Held). filter_map led (take limit hs)) reached_all
        ∙ led_first (ranked_all v.contents (target_of v.schema number))
        (λ k there. ap (option_map (λ (row : EntityRow). record { rank = row.rank; id = k.id })) ((ranked_is_exact.lists v.schema v.limits v.contents (target_of v.schema number) k is.kept).0 there)) limit
        ∙ ap (λ (ks : List DocKey). members_of v plan (take limit ks)) (sym led_hits)
        ∙ ap (members_of v plan) (sym (cut_there v.schema v.limits v.contents is.schema is.kept plan (target_of v.schema number) limit typed))
