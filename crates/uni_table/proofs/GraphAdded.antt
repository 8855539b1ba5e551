-- The rows after an edge is added.
use Rattle.std.proofs.Common.{◌≡◌, ◌≤◌, ◌<◌, ◌+◌, ◌^◌, ◌==◌, ◌&&◌, ℕ, zero, suc, Bool, true, false, List, [], ◌∷◌, ◌++◌, Option, None, Some, refl, sym, ◌∙◌, ap, subst, length, map, take, slice_get, nat_eq, if◌then◌else◌, arith, true≢false, length-append}
use Rattle.std.specs.BTreeSet.{contains}
use Rattle.std.specs.List.{IsDistinct, list_any}
use Rattle.std.specs.Map.{keys_of, lookup}
use Rattle.std.specs.BTreeMap.{is_at}
use Rattle.std.specs.Option.{option_map, option_map_or}
use Rattle.std.specs.Ordering.{nat_cmp, eq_by_cmp, is_eq}
use Rattle.std.proofs.lemmas.Cmp.{eq_by_cmp_equiv, tied_itself}
use Rattle.std.proofs.lemmas.List.{map_push, take-append-le}
use Rattle.std.proofs.lemmas.Map.{NonePasses, lookup-none}
use Rattle.std.proofs.lemmas.Map.Entries.{length-keys_of}
use Rattle.std.proofs.lemmas.Map.Keys.{IsDistinct-push}
use Rattle.std.proofs.lemmas.Option.{slice_get-map, slice_get_within}
use Rattle.indexmap.specs.Layout.{set_value_at}
use Rattle.chained_rows.specs.Chains.{AtEach, last_no}
use Rattle.chained_rows.specs.Counts.{count_of, one_if}
use Rattle.chained_rows.specs.Ordered.{ordered}
use Rattle.chained_rows.proofs.Chains.{last_no-push}
use Rattle.chained_rows.proofs.Counted.{count-push, count-written}
use Rattle.chained_rows.proofs.Ordered.{ordered-push}
use Rattle.chained_rows.proofs.Places.{keys-written, length-written, map-written, written-same, at_each-push}
use Rattle.uni_base.specs.EdgeOrder.{edge_cmp}
use Rattle.uni_base.specs.declared.edge.EdgeRef.{EdgeRef}
use Rattle.uni_table.specs.Contents.{Contents, with_edge}
use Rattle.uni_table.specs.GraphKeys.{source_eq, edge_total, exact_edges}
use Rattle.uni_table.specs.GraphRows.{IsRows, AreTouched, IsBeforeKnown, published_of, slot_before, node_before, is_same, is_same_entity, IsKnown, IsCircleKnown, IsNoted, audience_named, edge_named, row_of, slot_named, slots_named, node_named, contents_of, is_entity, is_live, last_at, next_at, no_at, has_at, end_cmp, with_edge_row, circle_named, source_named}
use Rattle.uni_table.specs.declared.command.EdgeRow.{EdgeRow}
use Rattle.uni_table.specs.declared.graph.numbers.Source.{Source}
use Rattle.uni_table.specs.declared.graph.numbers.Node.{Node}
use Rattle.uni_table.specs.declared.graph.numbers.EdgeNo.{EdgeNo}
use Rattle.uni_table.specs.declared.graph.numbers.Slot.{Slot}
use Rattle.uni_table.specs.declared.graph.numbers.Before.TheVariants as before
use Rattle.uni_table.specs.declared.graph.numbers.SlotState.{SlotState}
use Rattle.uni_table.specs.declared.graph.numbers.SlotState.TheVariants.{Gone, Public, Only, Circle}
use Rattle.uni_table.specs.declared.graph.numbers.Side.{Side}
use Rattle.uni_table.specs.declared.graph.numbers.Side.TheVariants.{Target, Source as From}
use Rattle.uni_table.specs.declared.graph.rows.Rows.{Rows}
use Rattle.uni_table.proofs.GraphNames.{edge_no_eq}
use Rattle.uni_table.proofs.GraphPlaces.{read-set, same-number}
use Rattle.uni_table.proofs.Published.{made-then, nodes-led}
use Rattle.uni_table.proofs.TouchedRows.{touched-beside, touched-made, touched-room}

-- numbers that name an edge that never was there are none of the rows'
pub unused-numbers : (sources : List Source) (ids : List ℕ) (n : EdgeNo) (es : List (EdgeNo × Slot)) → NonePasses (is_at (edge_cmp (edge_named sources ids n))) (map (slot_named sources ids) es) → lookup (edge_no_eq n) es ≡ None
unused-numbers sources ids n es none = lookup-none (edge_no_eq n) es (by es none)
  where
    one : (m : EdgeNo) → is_at (edge_cmp (edge_named sources ids n)) (edge_named sources ids m) ≡ false → (b : Bool) → edge_no_eq n m ≡ b → edge_no_eq n m ≡ false
    one m apart false at = at
    one m apart true at = absurd (true≢false (sym (ap is_eq (tied_itself edge_total (edge_named sources ids n))) ∙ ap (λ k. is_at (edge_cmp (edge_named sources ids n)) (edge_named sources ids k)) (same (n.source == m.source) refl at) ∙ apart))
      where
        same : (b : Bool) → (n.source == m.source) ≡ b → (b && n.target == m.target) ≡ true → n ≡ m
        same true f g = let source = same-number n.source m.source f in let target = same-number n.target m.target g in λ j. record { source = source j; target = target j }
        same false f g = cc

    by : (fs : List (EdgeNo × Slot)) → NonePasses (is_at (edge_cmp (edge_named sources ids n))) (map (slot_named sources ids) fs) → NonePasses (edge_no_eq n) fs
    by [] h = tt
    by (f ∷ fs) h = (one f.0 h.0 (edge_no_eq n f.0) refl, by fs h.1)

not-any : {K X : Type 0} (test : K → Bool) (es : List (K × X)) → NonePasses test es → list_any test (keys_of es) ≡ false
not-any test [] none = refl
not-any test (e ∷ es) none = ap (λ b. Rattle.std.proofs.Common.◌||◌ b (list_any test (keys_of es))) none.0 ∙ not-any test es none.1

-- a state with an audience is live
pub state-live : (sources : List Source) (state : SlotState) (audience : Rattle.uni_base.specs.declared.edge.Audience.Audience) → audience_named sources state ≡ Some audience → is_live state ≡ true
state-live sources Gone audience named = cc
state-live sources Public audience named = refl
state-live sources Only audience named = refl
state-live sources (Circle n) audience named = refl

-- a state that is live makes a row
pub live-row : (sources : List Source) (state : SlotState) (end : ℕ) → is_live state ≡ true → (row : EdgeRow) × (row_of sources state end ≡ Some row)
live-row sources Gone end live = cc
live-row sources Public end live = (record { audience = Rattle.uni_base.specs.declared.edge.Audience.TheVariants.Public; end = end }, refl)
live-row sources Only end live = (record { audience = Rattle.uni_base.specs.declared.edge.Audience.TheVariants.Only; end = end }, refl)
live-row sources (Circle n) end live = (record { audience = circle_named (source_named sources n); end = end }, refl)

-- the row of an edge that is put
pub put-same : (table : Contents) (named edge : EdgeRef) (sources : List Source) (state : SlotState) (row : EdgeRow) → named ≡ edge → audience_named sources state ≡ Some row.audience
    → with_edge_row table named (row_of sources state row.end) ≡ with_edge table edge row
put-same table named edge sources state row name audience =
    ap (λ e. with_edge_row table e (row_of sources state row.end)) name
    ∙ ap (λ a. with_edge_row table edge (option_map (λ x. record { audience = x; end = row.end }) a)) audience

module _ (old new : Rows) (kept : IsRows old) (n : EdgeNo) (slot : Slot) (id : ℕ) (node : Node) (source : Source) (last : ℕ)
    (at_target : slice_get old.ids.entries n.target ≡ Some (id, node)) (at_source : slice_get old.sources.entries n.source ≡ Some (source, last))
    (ids : new.ids.entries ≡ set_value_at old.ids.entries n.target (record node { last_edge = length old.edges.entries + 1 }))
    (sources : new.sources.entries ≡ set_value_at old.sources.entries n.source (length old.edges.entries + 1))
    (edges : new.edges.entries ≡ old.edges.entries ++ (n, slot) ∷ [])
    (unused : NonePasses (is_at (edge_cmp (edge_named (keys_of old.sources.entries) (keys_of old.ids.entries) n))) (slots_named old)) where
  names : EdgeNo × Slot → EdgeRef × Option EdgeRow
  names = slot_named (keys_of old.sources.entries) (keys_of old.ids.entries)

  id_keys : keys_of new.ids.entries ≡ keys_of old.ids.entries
  id_keys = ap keys_of ids ∙ keys-written old.ids.entries n.target (record node { last_edge = length old.edges.entries + 1 })

  source_keys : keys_of new.sources.entries ≡ keys_of old.sources.entries
  source_keys = ap keys_of sources ∙ keys-written old.sources.entries n.source (length old.edges.entries + 1)

  id_count : length new.ids.entries ≡ length old.ids.entries
  id_count = ap length ids ∙ length-written old.ids.entries n.target (record node { last_edge = length old.edges.entries + 1 })

  source_count : length new.sources.entries ≡ length old.sources.entries
  source_count = ap length sources ∙ length-written old.sources.entries n.source (length old.edges.entries + 1)

  edge_keys : keys_of new.edges.entries ≡ keys_of old.edges.entries ++ n ∷ []
  edge_keys = ap keys_of edges ∙ map_push (λ e. e.0) old.edges.entries (n, slot)

  slots : slots_named new ≡ slots_named old ++ (edge_named (keys_of old.sources.entries) (keys_of old.ids.entries) n, row_of (keys_of old.sources.entries) slot.state slot.end) ∷ []
  slots =
      (λ j. map (slot_named (source_keys j) (id_keys j)) (edges j))
      ∙ map_push (slot_named (keys_of old.sources.entries) (keys_of old.ids.entries)) old.edges.entries (n, slot)

  apart : IsDistinct (eq_by_cmp edge_cmp) (keys_of (slots_named new))
  apart =
      let name = edge_named (keys_of old.sources.entries) (keys_of old.ids.entries) n in
      subst (IsDistinct (eq_by_cmp edge_cmp)) (sym (ap keys_of slots ∙ map_push (λ e. e.0) (slots_named old) (name, row_of (keys_of old.sources.entries) slot.state slot.end)))
      (IsDistinct-push (eq_by_cmp_equiv edge_total) (keys_of (slots_named old)) name kept.edges (not-any (is_at (edge_cmp name)) (slots_named old) unused))

  module _ (into : slot.next_into ≡ last_at Target old n.target) (from : slot.next_from ≡ last_at From old n.source) (source_below : n.source < length old.sources.entries) (target_below : n.target < length old.ids.entries)
      (circle : IsCircleKnown (length old.sources.entries) slot.state) (noted : IsNoted old slot.state slot.end (length old.edges.entries)) (live : is_live slot.state ≡ true)
      (few : length old.edges.entries + 1 < 2 ^ 32) (count : new.edge_count ≡ old.edge_count + 1)
      (gone : slot.before ≡ before.Gone) (places : new.touched_edges.items ≡ old.touched_edges.items ++ length old.edges.entries ∷ []) (room : old.touched_edges.cap ≤ new.touched_edges.cap) (more : length old.edges.entries + 1 ≤ new.touched_edges.cap) where
    after : Rows
    after = record old { ids = new.ids; sources = new.sources; edges = new.edges; edge_count = new.edge_count; touched_edges = new.touched_edges }

    -- the rows with the edge are kept
    pub add-kept : IsRows (record old { ids = new.ids; sources = new.sources; edges = new.edges; edge_count = new.edge_count; touched_edges = new.touched_edges })
    add-kept = record {
      known =
          subst (AtEach (λ i e. IsKnown (length new.sources.entries) (length new.ids.entries) e)) (sym edges)
          (subst (λ m. AtEach (λ i e. IsKnown (length new.sources.entries) m e) (old.edges.entries ++ (n, slot) ∷ [])) (sym id_count)
          (subst (λ m. AtEach (λ i e. IsKnown m (length old.ids.entries) e) (old.edges.entries ++ (n, slot) ∷ [])) (sym source_count)
          (at_each-push (λ i e. IsKnown (length old.sources.entries) (length old.ids.entries) e) old.edges.entries (n, slot) kept.known (record { source = source_below; target = target_below; circle = circle; before = subst (IsBeforeKnown (length old.sources.entries)) (sym gone) tt }))));
      chains = λ side.
          subst (λ ks. AtEach (λ i e. next_at side e.1 ≡ last_no (has_at side (no_at side e.0)) (take i ks)) new.edges.entries) (sym edge_keys)
          (subst (AtEach (λ i e. next_at side e.1 ≡ last_no (has_at side (no_at side e.0)) (take i (keys_of old.edges.entries ++ n ∷ [])))) (sym edges)
          (at_each-push (λ i e. next_at side e.1 ≡ last_no (has_at side (no_at side e.0)) (take i (keys_of old.edges.entries ++ n ∷ []))) old.edges.entries (n, slot)
          (λ i e at. kept.chains side i e at ∙ ap (last_no (has_at side (no_at side e.0))) (sym (before i (slice_get_within old.edges.entries i e at))))
          (first side ∙ kept.lasts side (no_at side n) ∙ ap (last_no (has_at side (no_at side n))) (sym (all_before)))));
      lasts = λ side q. ends side q ∙ ap (λ b. if has_at side q n then length old.edges.entries + 1 else b) (kept.lasts side q)
          ∙ ap (λ m. if has_at side q n then m + 1 else last_no (has_at side q) (keys_of old.edges.entries)) (sym (length-keys_of old.edges.entries))
          ∙ sym (last_no-push (has_at side q) (keys_of old.edges.entries) n) ∙ ap (last_no (has_at side q)) (sym edge_keys);
      ids = subst (IsDistinct nat_eq) (sym id_keys) kept.ids;
      sources = subst (IsDistinct source_eq) (sym source_keys) kept.sources;
      edges = apart;
      few_ids = omega (arith, kept.few_ids, id_count);
      few_sources = omega (arith, kept.few_sources, source_count);
      few_edges = omega (arith, few, ap length edges, length-append old.edges.entries ((n, slot) ∷ []));
      entity_count = kept.entity_count ∙ sym (ap (count_of is_entity) ids ∙ omega (arith, count-written is_entity old.ids.entries n.target id node (record node { last_edge = length old.edges.entries + 1 }) at_target));
      edge_count = count ∙ ap (λ m. m + 1) kept.edge_count ∙ ap (λ b. count_of (λ s. is_live s.state) old.edges.entries + one_if b) (sym live)
          ∙ sym (ap (count_of (λ s. is_live s.state)) edges ∙ count-push (λ s. is_live s.state) old.edges.entries n slot);
      ended =
          subst (AtEach (λ i e. is_live e.1.state ≡ true → 0 < e.1.end → contains end_cmp old.ends (e.1.end, i + 1) ≡ true)) (sym edges)
          (at_each-push (λ i e. is_live e.1.state ≡ true → 0 < e.1.end → contains end_cmp old.ends (e.1.end, i + 1) ≡ true) old.edges.entries (n, slot) kept.ended noted);
      touched_ids =
          subst (λ es. AreTouched (λ m. is_same_entity m.before) es old.touched_ids.items old.touched_ids.cap) (sym ids)
          (touched-beside (λ m. is_same_entity m.before) old.ids.entries old.touched_ids.items old.touched_ids.cap kept.touched_ids n.target id node (record node { last_edge = length old.edges.entries + 1 }) at_target refl);
      touched_edges =
          subst (λ es. AreTouched (λ s. is_same s.before) es new.touched_edges.items new.touched_edges.cap) (sym edges)
          (subst (λ ps. AreTouched (λ s. is_same s.before) (old.edges.entries ++ (n, slot) ∷ []) ps new.touched_edges.cap) (sym places)
          (touched-made (λ s. is_same s.before) old.edges.entries old.touched_edges.items new.touched_edges.cap
          (touched-room (λ s. is_same s.before) old.edges.entries old.touched_edges.items old.touched_edges.cap kept.touched_edges new.touched_edges.cap room) n slot (ap is_same gone) more));
    }
      where
        first : (side : Side) → next_at side slot ≡ last_at side old (no_at side n)
        first Target = into
        first From = from

        before : (i : ℕ) → i < length old.edges.entries → take i (keys_of old.edges.entries ++ n ∷ []) ≡ take i (keys_of old.edges.entries)
        before i below = take-append-le i (keys_of old.edges.entries) (n ∷ []) (omega (arith, length-keys_of old.edges.entries))

        all_before : take (length old.edges.entries) (keys_of old.edges.entries ++ n ∷ []) ≡ keys_of old.edges.entries
        all_before =
            take-append-le (length old.edges.entries) (keys_of old.edges.entries) (n ∷ []) (omega (arith, length-keys_of old.edges.entries))
            ∙ Rattle.std.proofs.lemmas.List.take_all (length old.edges.entries) (keys_of old.edges.entries) (omega (arith, length-keys_of old.edges.entries))

        ends : (side : Side) (q : ℕ) → last_at side (record old { ids = new.ids; sources = new.sources; edges = new.edges; edge_count = new.edge_count; touched_edges = new.touched_edges }) q ≡ (if has_at side q n then length old.edges.entries + 1 else last_at side old q)
        ends Target q =
            ap (λ es. option_map_or (λ e. e.1.last_edge) (slice_get es q) 0) ids
            ∙ read-set (λ e. e.1.last_edge) old.ids.entries n.target id node (record node { last_edge = length old.edges.entries + 1 }) at_target q
        ends From q =
            ap (λ es. option_map_or (λ e. e.1) (slice_get es q) 0) sources
            ∙ read-set (λ e. e.1) old.sources.entries n.source source last (length old.edges.entries + 1) at_source q

  -- and were at the last publish what they were
  pub add-then : slot.before ≡ before.Gone → published_of (record old { ids = new.ids; sources = new.sources; edges = new.edges; edge_count = new.edge_count; touched_edges = new.touched_edges }) ≡ published_of old
  add-then gone = λ j. record { entities = entities j; edges = all j }
    where
      entities : ordered nat_cmp (map node_before new.ids.entries) ≡ (published_of old).entities
      entities = ap (λ es. ordered nat_cmp (map node_before es)) ids ∙ ap (ordered nat_cmp) (nodes-led old.ids.entries n.target id (length old.edges.entries + 1) node at_target)

      all : ordered edge_cmp (map (slot_before (keys_of new.sources.entries) (keys_of new.ids.entries)) new.edges.entries) ≡ (published_of old).edges
      all =
          (λ j. ordered edge_cmp (map (slot_before (source_keys j) (id_keys j)) (edges j)))
          ∙ made-then old.edges.entries (keys_of old.sources.entries) (keys_of old.ids.entries) n slot gone

  -- and stand for the contents with it
  pub add-set : (row : EdgeRow) → row_of (keys_of old.sources.entries) slot.state slot.end ≡ Some row
      → contents_of (record old { ids = new.ids; sources = new.sources; edges = new.edges; edge_count = new.edge_count; touched_edges = new.touched_edges })
      ≡ with_edge (contents_of old) (edge_named (keys_of old.sources.entries) (keys_of old.ids.entries) n) row
  add-set row is = λ j. record { entities = entities j; edges = all j }
    where
      name : EdgeRef
      name = edge_named (keys_of old.sources.entries) (keys_of old.ids.entries) n

      entities : ordered nat_cmp (map node_named new.ids.entries) ≡ (contents_of old).entities
      entities =
          ap (λ es. ordered nat_cmp (map node_named es)) ids
          ∙ ap (ordered nat_cmp) (map-written node_named old.ids.entries n.target (record node { last_edge = length old.edges.entries + 1 }) node.row (λ e there. refl)
          ∙ written-same (map node_named old.ids.entries) n.target id node.row (slice_get-map node_named old.ids.entries n.target ∙ ap (option_map node_named) at_target))

      pushed : slots_named new ≡ slots_named old ++ (name, Some row) ∷ []
      pushed = slots ∙ ap (λ r. slots_named old ++ (name, r) ∷ []) is

      all : ordered edge_cmp (slots_named new) ≡ (with_edge (contents_of old) name row).edges
      all =
          ap (ordered edge_cmp) pushed
          ∙ ordered-push edge_total exact_edges (slots_named old) name row (subst (λ es. IsDistinct (eq_by_cmp edge_cmp) (keys_of es)) pushed apart) kept.edges unused
