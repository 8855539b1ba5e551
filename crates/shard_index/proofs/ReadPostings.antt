-- The postings that the rows of a shard have are the index edges that lead into it.
use Rattle.std.proofs.Common.{◌≡◌, ◌==◌, ◌&&◌, ◌||◌, ◌⊎◌, inl, inr, ℕ, Bool, true, false, cond, if◌then◌else◌, List, [], ◌∷◌, map, filter, Option, None, Some, refl, sym, ◌∙◌, ap}
use Rattle.std.proofs.lemmas.List.Elements.{All-contains_itself, All-weaker, recursion_from_All}
use Rattle.std.proofs.lemmas.Map.Keys.{IsDistinct-from_sorted}
use Rattle.std.proofs.lemmas.Map.Views.{Contains-from_lookup, lookup-from_Contains}
use Rattle.std.specs.Cmp.{eq_by_cmp_equiv, tied_itself}
use Rattle.std.specs.FinMap as finite
use Rattle.std.specs.List.{AllByRecursion, Contains, filter_map, cons_option, list_any}
use Rattle.std.specs.Map.{keys_of}
use Rattle.std.specs.Option.{option_map, option_map_or, option_and_then}
use Rattle.std.specs.Ordering.{eq_by_cmp, is_eq}
use Rattle.uni_base.specs.declared.edge.Audience.{Audience}
use Rattle.uni_base.specs.declared.edge.EdgeRef.{EdgeRef}
use Rattle.uni_base.specs.declared.edge.Held.{Held}
use Rattle.uni_base.specs.declared.edge.Key.{Key}
use Rattle.uni_base.specs.declared.entity.DocKey.{DocKey}
use Rattle.uni_base.specs.declared.limits.Limits.{Limits}
use Rattle.uni_base.specs.EdgeOrder.{edge_cmp}
use Rattle.uni_base.specs.RankOrder.{doc_cmp}
use Rattle.uni_base.proofs.RankedLemmas.{doc_total, exact_key}
use Rattle.uni_schema.specs.declared.schema.TypeDef.{TypeDef}
use Rattle.uni_schema.specs.Schema.{Declarations, type_at, shard_of, source_of, is_index}
use Rattle.uni_table.specs.declared.command.EdgeRow.{EdgeRow}
use Rattle.uni_table.specs.declared.command.EntityRow.{EntityRow}
use Rattle.uni_table.specs.Contents.{Contents, entity_at, edge_at, audience_at}
use Rattle.uni_table.specs.GraphKeys.{edge_total, exact_edges}
use Rattle.uni_table.specs.Lists.{held_of, keeps_target, keeps_source, is_kept_by, is_kept_in, shard_edges}
use Rattle.uni_table.specs.Ranked.{doc_at}
use Rattle.uni_table.specs.Shards.{is_indexed}
use Rattle.uni_table.specs.TableState.{IsKept}
use Rattle.uni_table.proofs.Listed.{none_in_nil, first_or_later}
use Rattle.layer_stack.specs.declared.place.Place.{Place}
use Rattle.layer_stack.specs.Places.{term_of, place_cmp}
use Rattle.layer_stack.specs.Postings.{place_of}
use Rattle.layer_stack.proofs.Order.{place_total, place_apart}
use Rattle.shard_index.specs.Laws.{edge_to, leads_to}
use Rattle.shard_index.specs.Shards.{posting_row, shard_rows}
use Rattle.shard_index.proofs.Among.{or_true}
use Rattle.shard_index.proofs.LoggedMaps.{equal_of, Agree, stands_there, logged_is}

-- ---- what is made of edges that are kept

any_made : {X Y Z : Type 0} (p : X → Bool) (f : X → Y) (g : Y → Option Z) (test : Z → Bool) (xs : List X) (x : X) (z : Z) → Contains xs x → p x ≡ true → g (f x) ≡ Some z → test z ≡ true
    → list_any test (filter_map g (map f (filter p xs))) ≡ true
any_made p f g test [] x z there t made u = absurd (none_in_nil x there)
any_made {X} {Y} {Z} p f g test (y ∷ xs) x z there t made u = by (first_or_later y xs x there) (λ later. any_made p f g test xs x z later t made u)
  where
    rest : List Z
    rest = filter_map g (map f (filter p xs))

    by : (y ≡ x) ⊎ Contains xs x → (Contains xs x → list_any test (filter_map g (map f (filter p xs))) ≡ true) → list_any test (filter_map g (map f (cond (p y) (y ∷ filter p xs) (filter p xs)))) ≡ true
    by (inl same) more =
        ap (λ b. list_any test (filter_map g (map f (cond b (y ∷ filter p xs) (filter p xs))))) (ap p same ∙ t)
        ∙ ap (λ o. list_any test (cons_option o (filter_map g (map f (filter p xs))))) (ap (λ w. g (f w)) same ∙ made) ∙ ap (λ b. b || list_any test (filter_map g (map f (filter p xs)))) u
    by (inr later) more = next (p y) (more later)
      where
        added : (o : Option Z) → list_any test (filter_map g (map f (filter p xs))) ≡ true → list_any test (cons_option o (filter_map g (map f (filter p xs)))) ≡ true
        added None e = e
        added (Some w) e = ap (λ b. test w || b) e ∙ or_true (test w)

        next : (b : Bool) → list_any test (filter_map g (map f (filter p xs))) ≡ true → list_any test (filter_map g (map f (cond b (y ∷ filter p xs) (filter p xs)))) ≡ true
        next true e = added (g (f y)) e
        next false e = e

module _ (schema : Declarations) (limits : Limits) (table : Contents) (vertical shard : ℕ) (kept : IsKept schema limits table) where
  -- an edge of the table that the shard keeps
  record IsKeptEdge (h : Held) : Type 0 where
    there : audience_at table h.edge ≡ Some h.audience
    own : is_kept_in schema vertical shard h.edge ≡ true

  at_itself : AllByRecursion (λ (e : EdgeRef × EdgeRow). edge_at table e.0 ≡ Some e.1) table.edges
  at_itself =
      recursion_from_All (λ (e : EdgeRef × EdgeRow). edge_at table e.0 ≡ Some e.1) table.edges
      (All-weaker (Contains table.edges) (λ (e : EdgeRef × EdgeRow). edge_at table e.0 ≡ Some e.1)
      (λ e among. lookup-from_Contains {eq = eq_by_cmp edge_cmp} (eq_by_cmp_equiv edge_total) e.0 e.1 table.edges (IsDistinct-from_sorted edge_cmp (keys_of table.edges) kept.edges) among) table.edges (All-contains_itself table.edges))

  kept_edges : (es : List (EdgeRef × EdgeRow)) → AllByRecursion (λ (e : EdgeRef × EdgeRow). edge_at table e.0 ≡ Some e.1) es → AllByRecursion IsKeptEdge (map held_of (filter (λ e. is_kept_in schema vertical shard e.0) es))
  kept_edges [] all = tt
  kept_edges (e ∷ es) all = by (is_kept_in schema vertical shard e.0) refl (kept_edges es all.1) all.0
    where
      by : (b : Bool) → is_kept_in schema vertical shard e.0 ≡ b → AllByRecursion IsKeptEdge (map held_of (filter (λ f. is_kept_in schema vertical shard f.0) es)) → edge_at table e.0 ≡ Some e.1
          → AllByRecursion IsKeptEdge (map held_of (cond b (e ∷ filter (λ f. is_kept_in schema vertical shard f.0) es) (filter (λ f. is_kept_in schema vertical shard f.0) es)))
      by true own later at = (record { there = ap (option_map (λ (row : EdgeRow). row.audience)) at; own = own }, later)
      by false own later at = later

  module _ (number : ℕ) (key : Key) (leads : leads_to schema vertical number ≡ true) where
    -- what is known of the type
    pub record Leading : Type 0 where
      pub type_def : TypeDef
      pub at : type_at schema number ≡ Some type_def
      pub stored : is_index type_def.store ≡ true
      pub leading : (type_def.target == vertical) ≡ true

    pub leading : Leading
    leading = by (type_at schema number) refl leads
      where
        first : (a b : Bool) → (a && b) ≡ true → (a ≡ true) × (b ≡ true)
        first true b t = (refl, t)
        first false b t = cc

        by : (o : Option TypeDef) → type_at schema number ≡ o → option_map_or (λ d. is_index d.store && d.target == vertical) o false ≡ true → Leading
        by None at t = cc
        by (Some d) at t = let both = first (is_index d.store) (d.target == vertical) t in record { type_def = d; at = at; stored = both.0; leading = both.1 }

    -- an edge of the type is kept in the shard of its target
    pub kept_by_target : (k : Key) (target : ℕ) → is_kept_in schema vertical shard (edge_to number k target) ≡ (shard_of schema vertical target == shard)
    kept_by_target k target =
        ap (λ o. option_map_or (is_kept_by schema vertical shard (edge_to number k target)) o false) leading.at
        ∙ ap (λ b. if b then keeps_target schema vertical shard leading.type_def target else option_map_or (keeps_source schema vertical shard leading.type_def) (source_of k) false) leading.stored
        ∙ ap (λ b. b && (shard_of schema vertical target == shard)) leading.leading

    module _ (k : DocKey) where
      -- the audience of the edge to an entity of the shard that stands at the place
      abbrev pub posted : DocKey → Option Audience
      posted doc = if eq_by_cmp doc_cmp k doc && (shard_of schema vertical k.id == shard) then audience_at table (edge_to number key k.id) else None

      abbrev pub answer : Option Audience
      answer = option_and_then posted (doc_at table k.id)

      abbrev place : Place
      place = place_of (term_of number key) k

      both_true : (a b : Bool) → a ≡ true → b ≡ true → (a && b) ≡ true
      both_true true b s t = t
      both_true false b s t = cc

      -- an edge whose posting stands at the place
      one_agrees : (h : Held) (doc : DocKey) → IsKeptEdge h → doc_at table h.edge.target ≡ Some doc → eq_by_cmp place_cmp place (place_of (term_of h.edge.type_no h.edge.key) doc) ≡ true → answer ≡ Some h.audience
      one_agrees h doc own at t =
          let same : place ≡ place_of (term_of h.edge.type_no h.edge.key) doc = place_apart place (place_of (term_of h.edge.type_no h.edge.key) doc) (equal_of (place_cmp place (place_of (term_of h.edge.type_no h.edge.key) doc)) t) in
          let types : number ≡ h.edge.type_no = ap (λ (p : Place). p.term.type_no) same in
          let keys : key ≡ h.edge.key = ap (λ (p : Place). p.term.key) same in
          let docs : k ≡ doc = ap (λ (p : Place). p.key) same in
          let target : k.id ≡ h.edge.target = ap (λ (d : DocKey). d.id) docs ∙ named h.edge.target doc at in
          let edge : edge_to number key k.id ≡ h.edge = λ i. record { type_no = types i; key = keys i; target = target i } in
          let shard_is : (shard_of schema vertical k.id == shard) ≡ true = sym (kept_by_target key k.id) ∙ ap (is_kept_in schema vertical shard) edge ∙ own.own in
          ap (option_and_then posted) (ap (doc_at table) target ∙ at ∙ ap Some (sym docs))
          ∙ ap (λ b. if b then audience_at table (edge_to number key k.id) else None) (both_true (eq_by_cmp doc_cmp k k) (shard_of schema vertical k.id == shard) (ap is_eq (tied_itself doc_total k)) shard_is)
          ∙ ap (audience_at table) edge ∙ own.there
        where
          named : (id : ℕ) (d : DocKey) → doc_at table id ≡ Some d → d.id ≡ id
          named id d e = by (entity_at table id) e
            where
              by : (o : Option EntityRow) → option_map (λ (row : EntityRow). record { rank = row.rank; id = id }) o ≡ Some d → d.id ≡ id
              by None f = cc
              by (Some row) f = sym (ap (λ o. option_map_or (λ (x : DocKey). x.id) o id) f)

      agree : (held : List Held) → AllByRecursion IsKeptEdge held → Agree place_cmp place answer (filter_map (posting_row schema table) held)
      agree [] all = tt
      agree (h ∷ held) all = by (is_indexed schema h) (doc_at table h.edge.target) refl (agree held all.1) all.0
        where
          by : (b : Bool) (o : Option DocKey) → doc_at table h.edge.target ≡ o → Agree place_cmp place answer (filter_map (posting_row schema table) held) → IsKeptEdge h
              → Agree place_cmp place answer (cons_option (if b then option_map (λ doc. (place_of (term_of h.edge.type_no h.edge.key) doc, h.audience)) o else None) (filter_map (posting_row schema table) held))
          by false o at later own = later
          by true None at later own = later
          by true (Some doc) at later own = (one_agrees h doc own at, later)

      -- where no posting stands at the place, the table has no such edge, or it leads elsewhere
      missing : stands_there place_cmp place answer (filter_map (posting_row schema table) (shard_edges schema table vertical shard)) ≡ false → answer ≡ None
      missing e = by (doc_at table k.id) refl
        where
          there : (doc : DocKey) → doc_at table k.id ≡ Some doc → k ≡ doc → (shard_of schema vertical k.id == shard) ≡ true → (o : Option EdgeRow) → edge_at table (edge_to number key k.id) ≡ o → option_map (λ (row : EdgeRow). row.audience) o ≡ None
          there doc at same own None found = refl
          there doc at same own (Some row) found =
              let among = Contains-from_lookup {eq = eq_by_cmp edge_cmp} (λ x y t. exact_edges x y (equal_of (edge_cmp x y) t)) (edge_to number key k.id) row table.edges found in
              let indexed : is_indexed schema (held_of (edge_to number key k.id, row)) ≡ true = ap (λ o. option_map_or (λ (d : TypeDef). is_index d.store) o false) leading.at ∙ leading.stored in
              let made : posting_row schema table (held_of (edge_to number key k.id, row)) ≡ Some (place_of (term_of number key) doc, row.audience) =
              (λ i. if indexed i then option_map (λ d. (place_of (term_of number key) d, row.audience)) (at i) else None) in
              let tied : eq_by_cmp place_cmp place (place_of (term_of number key) doc) ≡ true = ap (λ d. eq_by_cmp place_cmp place (place_of (term_of number key) d)) (sym same) ∙ ap is_eq (tied_itself place_total place) in
              let stands : stands_there place_cmp place answer (filter_map (posting_row schema table) (shard_edges schema table vertical shard)) ≡ true =
              any_made (λ (f : EdgeRef × EdgeRow). is_kept_in schema vertical shard f.0) held_of (posting_row schema table) (λ row. eq_by_cmp place_cmp place row.0) table.edges (edge_to number key k.id, row) (place_of (term_of number key) doc, row.audience) among
              (kept_by_target key k.id ∙ own) made tied in
              let both : true ≡ false = sym stands ∙ e in absurd cc

          by : (o : Option DocKey) → doc_at table k.id ≡ o → option_and_then posted o ≡ None
          by None at = refl
          by (Some doc) at = next (eq_by_cmp doc_cmp k doc) refl (shard_of schema vertical k.id == shard) refl
            where
              next : (a : Bool) → eq_by_cmp doc_cmp k doc ≡ a → (b : Bool) → (shard_of schema vertical k.id == shard) ≡ b → (if a && b then audience_at table (edge_to number key k.id) else None) ≡ None
              next true t true own = there doc at (exact_key k doc (equal_of (doc_cmp k doc) t)) own (edge_at table (edge_to number key k.id)) refl
              next true t false own = refl
              next false t b own = refl

      pub postings_read : finite.get (shard_rows schema table vertical shard).postings (place_of (term_of number key) k) ≡ answer
      unfolding shard_rows
      postings_read = logged_is place_cmp place answer place_total (filter_map (posting_row schema table) (shard_edges schema table vertical shard)) (agree (shard_edges schema table vertical shard) (kept_edges table.edges at_itself)) missing
