-- The postings of a shard's rows, read at any place.
use Rattle.std.proofs.Common.{◌≡◌, ◌&&◌, ℕ, Bool, true, false, cond, if◌then◌else◌, List, [], ◌∷◌, map, filter, Option, None, Some, refl, sym, ◌∙◌, ap}
use Rattle.std.proofs.lemmas.List.Elements.{All-contains_itself, All-weaker, recursion_from_All}
use Rattle.std.proofs.lemmas.Map.Keys.{IsDistinct-from_sorted}
use Rattle.std.proofs.lemmas.Map.Views.{Contains-from_lookup, lookup-from_Contains}
use Rattle.std.specs.Cmp.{eq_by_cmp_equiv}
use Rattle.std.specs.FinMap as finite
use Rattle.std.specs.List.{AllByRecursion, Contains, filter_map, cons_option}
use Rattle.std.specs.Map.{keys_of}
use Rattle.std.specs.Option.{option_map, option_map_or}
use Rattle.std.specs.Ordering.{eq_by_cmp}
use Rattle.uni_base.specs.declared.edge.Audience.{Audience}
use Rattle.uni_base.specs.declared.edge.EdgeRef.{EdgeRef}
use Rattle.uni_base.specs.declared.entity.DocKey.{DocKey}
use Rattle.uni_base.specs.declared.entity.Rank.{Rank}
use Rattle.uni_base.specs.declared.limits.Limits.{Limits}
use Rattle.uni_base.specs.EdgeOrder.{edge_cmp}
use Rattle.uni_schema.specs.declared.schema.TypeDef.{TypeDef}
use Rattle.uni_schema.specs.Schema.{Declarations, type_at, source_of, is_index}
use Rattle.uni_table.specs.declared.command.EdgeRow.{EdgeRow}
use Rattle.uni_table.specs.declared.command.EntityRow.{EntityRow}
use Rattle.uni_table.specs.Changes.{rank_at}
use Rattle.uni_table.specs.Contents.{Contents, entity_at, edge_at}
use Rattle.uni_table.specs.GraphKeys.{edge_total, exact_edges}
use Rattle.uni_table.specs.Lists.{held_of, keeps_target, keeps_source, is_kept_by, is_kept_in}
use Rattle.uni_table.specs.TableState.{IsKept}
use Rattle.layer_base.specs.Layers.{from_log}
use Rattle.layer_stack.specs.declared.place.Place.{Place}
use Rattle.layer_stack.specs.Places.{term_of, place_cmp}
use Rattle.layer_stack.specs.Postings.{place_of}
use Rattle.layer_stack.proofs.Order.{place_total, place_apart}
use Rattle.shard_index.specs.ChangedRows.{is_posted, posting_for, if_posted}
use Rattle.shard_index.specs.Shards.{posting_row, shard_rows}
use Rattle.shard_index.proofs.Differing.{any_row}
use Rattle.shard_index.proofs.LoggedMaps.{equal_of, Agree, stands_there, logged_is}

-- the edge whose posting stands at a place
abbrev pub named : Place → EdgeRef
named place = record { type_no = place.term.type_no; key = place.term.key; target = place.key.id }

-- what a posting says of a place
abbrev pub at_place : Place → Option (Place × Audience) → Option Audience
at_place place None = None
at_place place (Some row) = if eq_by_cmp place_cmp place row.0 then Some row.1 else None

pub same_place : (x y : Place) → eq_by_cmp place_cmp x y ≡ true → x ≡ y
same_place x y t = place_apart x y (equal_of (place_cmp x y) t)

-- a posting stands at a place of its edge
pub posting_names : (schema : Declarations) (vertical shard : ℕ) (edge : EdgeRef) (rank : Option Rank) (row : Option EdgeRow) (p : Place × Audience)
    → if_posted schema vertical shard edge (posting_for edge rank row) ≡ Some p → named p.0 ≡ edge
posting_names schema vertical shard edge rank row p e = by (is_posted schema vertical shard edge) rank row e
  where
    by : (b : Bool) (rank : Option Rank) (row : Option EdgeRow) → (if b then posting_for edge rank row else None) ≡ Some p → named p.0 ≡ edge
    by false rank row f = cc
    by true rank None f = cc
    by true None (Some r) f = cc
    by true (Some k) (Some r) f =
        let is : (place_of (term_of edge.type_no edge.key) (record { rank = k; id = edge.target }), r.audience) ≡ p = cc in
        ap (λ (x : Place × Audience). named x.0) (sym is)

module _ (schema : Declarations) (limits : Limits) (table : Contents) (vertical shard : ℕ) (kept : IsKept schema limits table) where
  -- the posting of an edge in the shard
  abbrev pub posted : EdgeRef → Option EdgeRow → Option (Place × Audience)
  posted edge row = if_posted schema vertical shard edge (posting_for edge (rank_at table edge.target) row)

  -- what is made of a row of the table
  one : (e : EdgeRef × EdgeRow) → (if is_kept_in schema vertical shard e.0 then posting_row schema table (held_of e) else None) ≡ posted e.0 (Some e.1)
  one e = by (type_at schema e.0.type_no) (entity_at table e.0.target)
    where
      at_doc : DocKey → Place × Audience
      at_doc doc = (place_of (term_of e.0.type_no e.0.key) doc, e.1.audience)

      at_rank : Rank → Place × Audience
      at_rank k = (place_of (term_of e.0.type_no e.0.key) (record { rank = k; id = e.0.target }), e.1.audience)

      doc : EntityRow → DocKey
      doc r = record { rank = r.rank; id = e.0.target }

      next : (i k s : Bool) (p : Option EntityRow)
          → (if (if i then k else s) then (if i then option_map at_doc (option_map doc p) else None) else None) ≡ (if i && k then option_map at_rank (option_map (λ (r : EntityRow). r.rank) p) else None)
      next true true s None = refl
      next true true s (Some r) = refl
      next true false s p = refl
      next false k true p = refl
      next false k false p = refl

      by : (t : Option TypeDef) (o : Option EntityRow)
          → (if option_map_or (is_kept_by schema vertical shard e.0) t false then (if option_map_or (λ (d : TypeDef). is_index d.store) t false then option_map at_doc (option_map doc o) else None) else None)
          ≡ (if option_map_or (λ (d : TypeDef). is_index d.store && keeps_target schema vertical shard d e.0.target) t false then option_map at_rank (option_map (λ (r : EntityRow). r.rank) o) else None)
      by None o = refl
      by (Some d) o = next (is_index d.store) (keeps_target schema vertical shard d e.0.target) (option_map_or (keeps_source schema vertical shard d) (source_of e.0.key) false) o

  made : (es : List (EdgeRef × EdgeRow)) → filter_map (posting_row schema table) (map held_of (filter (λ e. is_kept_in schema vertical shard e.0) es)) ≡ filter_map (λ e. posted e.0 (Some e.1)) es
  made [] = refl
  made (e ∷ es) = by (is_kept_in schema vertical shard e.0) ∙ (λ i. cons_option (one e i) (made es i))
    where
      by : (b : Bool) → filter_map (posting_row schema table) (map held_of (cond b (e ∷ filter (λ x. is_kept_in schema vertical shard x.0) es) (filter (λ x. is_kept_in schema vertical shard x.0) es)))
          ≡ cons_option (if b then posting_row schema table (held_of e) else None) (filter_map (posting_row schema table) (map held_of (filter (λ x. is_kept_in schema vertical shard x.0) es)))
      by true = refl
      by false = refl

  abbrev IsThere : EdgeRef × EdgeRow → Type 0
  IsThere e = edge_at table e.0 ≡ Some e.1

  at_itself : AllByRecursion IsThere table.edges
  at_itself =
      recursion_from_All IsThere table.edges (All-weaker (Contains table.edges) IsThere
      (λ e among. lookup-from_Contains {eq = eq_by_cmp edge_cmp} (eq_by_cmp_equiv edge_total) e.0 e.1 table.edges (IsDistinct-from_sorted edge_cmp (keys_of table.edges) kept.edges) among) table.edges (All-contains_itself table.edges))

  module _ (q : Place) where
    abbrev answer : Option Audience
    answer = at_place q (posted (named q) (edge_at table (named q)))

    one_agrees : (e : EdgeRef × EdgeRow) → IsThere e → (p : Place × Audience) → posted e.0 (Some e.1) ≡ Some p → eq_by_cmp place_cmp q p.0 ≡ true → answer ≡ Some p.1
    one_agrees e there p is t =
        let edge : named q ≡ e.0 = ap named (same_place q p.0 t) ∙ posting_names schema vertical shard e.0 (rank_at table e.0.target) (Some e.1) p is in
        ap (λ x. at_place q (posted x (edge_at table x))) edge ∙ ap (λ o. at_place q (posted e.0 o)) there ∙ ap (at_place q) is ∙ ap (λ b. if b then Some p.1 else None) t

    agree : (es : List (EdgeRef × EdgeRow)) → AllByRecursion IsThere es → Agree place_cmp q answer (filter_map (λ e. posted e.0 (Some e.1)) es)
    agree [] all = tt
    agree (e ∷ es) all = by (posted e.0 (Some e.1)) refl (agree es all.1)
      where
        by : (o : Option (Place × Audience)) → posted e.0 (Some e.1) ≡ o → Agree place_cmp q answer (filter_map (λ x. posted x.0 (Some x.1)) es) → Agree place_cmp q answer (cons_option o (filter_map (λ x. posted x.0 (Some x.1)) es))
        by None is later = later
        by (Some p) is later = (λ t. one_agrees e all.0 p is t, later)

    missing : stands_there place_cmp q answer (filter_map (λ e. posted e.0 (Some e.1)) table.edges) ≡ false → answer ≡ None
    missing e = by (edge_at table (named q)) refl
      where
        none_posted : (b : Bool) (rank : Option Rank) → at_place q (if b then posting_for (named q) rank None else None) ≡ None
        none_posted true rank = refl
        none_posted false rank = refl

        by : (o : Option EdgeRow) → edge_at table (named q) ≡ o → at_place q (posted (named q) o) ≡ None
        by None at = none_posted (is_posted schema vertical shard (named q)) (rank_at table q.key.id)
        by (Some row) at = next (posted (named q) (Some row)) refl
          where
            among : Contains table.edges (named q, row)
            among = Contains-from_lookup {eq = eq_by_cmp edge_cmp} (λ x y t. exact_edges x y (equal_of (edge_cmp x y) t)) (named q) row table.edges at

            last : (p : Place × Audience) → posted (named q) (Some row) ≡ Some p → (b : Bool) → eq_by_cmp place_cmp q p.0 ≡ b → (if b then Some p.1 else None) ≡ None
            last p is true t =
                let both : true ≡ false = sym (any_row (λ x. posted x.0 (Some x.1)) (λ r. eq_by_cmp place_cmp q r.0) table.edges (named q, row) p among is t) ∙ e in absurd cc
            last p is false t = refl

            next : (o : Option (Place × Audience)) → posted (named q) (Some row) ≡ o → at_place q o ≡ None
            next None is = refl
            next (Some p) is = last p is (eq_by_cmp place_cmp q p.0) refl

    -- the posting at a place is that of its edge, if that stands there
    pub posted_read : finite.get (shard_rows schema table vertical shard).postings q ≡ at_place q (posted (named q) (edge_at table (named q)))
    unfolding shard_rows
    posted_read =
        ap (λ rows. finite.get (from_log {R = place_cmp} rows) q) (made table.edges) ∙ logged_is place_cmp q answer place_total (filter_map (λ e. posted e.0 (Some e.1)) table.edges) (agree table.edges at_itself) missing
