-- The rows after a batch has ended, row by row.
use Rattle.std.proofs.Common.{◌≡◌, ◌<◌, ◌+◌, ℕ, true, List, [], ◌∷◌, ◌++◌, Option, Some, refl, sym, ◌∙◌, ap, subst, length, map, take, slice_get, nat_eq, arith}
use Rattle.std.specs.BTreeSet.{contains}
use Rattle.std.specs.List.{IsDistinct}
use Rattle.std.specs.Map.{keys_of}
use Rattle.std.specs.Option.{option_map, option_map_or}
use Rattle.std.specs.Ordering.{nat_cmp, eq_by_cmp}
use Rattle.std.proofs.lemmas.Option.{slice_get-map}
use Rattle.indexmap.specs.Layout.{set_value_at}
use Rattle.chained_rows.specs.Chains.{AtEach, last_no}
use Rattle.chained_rows.specs.Counts.{count_of}
use Rattle.chained_rows.specs.Ordered.{ordered}
use Rattle.chained_rows.proofs.Counted.{count-written}
use Rattle.chained_rows.proofs.Places.{keys-written, length-written, map-agree, map-written, written-same, at_each-set}
use Rattle.uni_base.specs.EdgeOrder.{edge_cmp}
use Rattle.uni_table.specs.GraphRows.{IsRows, IsKnown, AreTouched, contents_of, published_of, slots_named, slot_named, slot_before, node_named, node_before, row_before, row_of, entity_then_of, settled, settled_entity, is_same, is_same_entity, is_entity, is_live, next_at, no_at, has_at, last_at, end_cmp, edge_named}
use Rattle.uni_table.specs.declared.graph.numbers.Before.{Before}
use Rattle.uni_table.specs.declared.graph.numbers.Before.TheVariants as before
use Rattle.uni_table.specs.declared.graph.numbers.EntityBefore.{EntityBefore}
use Rattle.uni_table.specs.declared.graph.numbers.EntityBefore.TheVariants as entity_then
use Rattle.uni_table.specs.declared.graph.numbers.EdgeNo.{EdgeNo}
use Rattle.uni_table.specs.declared.graph.numbers.Node.{Node}
use Rattle.uni_table.specs.declared.graph.numbers.Slot.{Slot}
use Rattle.uni_table.specs.declared.graph.numbers.Side.{Side}
use Rattle.uni_table.specs.declared.graph.numbers.Side.TheVariants.{Target, Source as From}
use Rattle.uni_table.specs.declared.graph.rows.Rows.{Rows}
use Rattle.uni_table.proofs.GraphPlaces.{read-written}
use Rattle.uni_table.proofs.TouchedRows.{none-touched, touched-settled}

module _ (old new : Rows) (kept : IsRows old) (front : List ℕ) (i : ℕ) where
  module _ (n : EdgeNo) (slot : Slot) (at : slice_get old.edges.entries i ≡ Some (n, slot)) (is : new.edges.entries ≡ set_value_at old.edges.entries i (settled slot)) where
    after : Rows
    after = record old { edges = new.edges; touched_edges = new.touched_edges }

    same : (e : EdgeNo × Slot) → slice_get old.edges.entries i ≡ Some e → slot ≡ e.1
    same e there = let both : (n, slot) ≡ e = cc in ap (λ (x : EdgeNo × Slot). x.1) both

    keys : keys_of new.edges.entries ≡ keys_of old.edges.entries
    keys = ap keys_of is ∙ keys-written old.edges.entries i (settled slot)

    slots : map (slot_named (keys_of old.sources.entries) (keys_of old.ids.entries)) new.edges.entries ≡ slots_named old
    slots =
        ap (map (slot_named (keys_of old.sources.entries) (keys_of old.ids.entries))) is
        ∙ map-written (slot_named (keys_of old.sources.entries) (keys_of old.ids.entries)) old.edges.entries i (settled slot) (row_of (keys_of old.sources.entries) slot.state slot.end) (λ e there. refl)
        ∙ written-same (slots_named old) i _ _ (slice_get-map (slot_named (keys_of old.sources.entries) (keys_of old.ids.entries)) old.edges.entries i ∙ ap (option_map (slot_named (keys_of old.sources.entries) (keys_of old.ids.entries))) at)

    -- an edge that the batch touched is settled: the rows stand for what they stood for
    pub edge-settled-same : contents_of (record old { edges = new.edges; touched_edges = new.touched_edges }) ≡ contents_of old
    edge-settled-same = ap (λ es. record (contents_of old) { edges = ordered edge_cmp es }) slots

    -- and are kept
    pub edge-settled : old.touched_edges.items ≡ front ++ i ∷ [] → new.touched_edges.items ≡ front → new.touched_edges.cap ≡ old.touched_edges.cap → IsRows (record old { edges = new.edges; touched_edges = new.touched_edges })
    edge-settled places left room = record {
      known =
          subst (AtEach (λ j e. IsKnown (length old.sources.entries) (length old.ids.entries) e)) (sym is)
          (at_each-set (λ j e. IsKnown (length old.sources.entries) (length old.ids.entries) e) old.edges.entries i n slot (settled slot) kept.known at
          (let whole = kept.known i (n, slot) at in record { source = whole.source; target = whole.target; circle = whole.circle; before = tt }));
      chains = λ side.
          subst (λ ks. AtEach (λ j e. next_at side e.1 ≡ last_no (has_at side (no_at side e.0)) (take j ks)) new.edges.entries) (sym keys)
          (subst (AtEach (λ j e. next_at side e.1 ≡ last_no (has_at side (no_at side e.0)) (take j (keys_of old.edges.entries)))) (sym is)
          (at_each-set (λ j e. next_at side e.1 ≡ last_no (has_at side (no_at side e.0)) (take j (keys_of old.edges.entries))) old.edges.entries i n slot (settled slot) (kept.chains side) at
          (next side ∙ kept.chains side i (n, slot) at)));
      lasts = λ side q. last side q ∙ kept.lasts side q ∙ ap (last_no (has_at side q)) (sym keys);
      ids = kept.ids;
      sources = kept.sources;
      edges = subst (λ es. IsDistinct (eq_by_cmp edge_cmp) (keys_of es)) (sym slots) kept.edges;
      few_ids = kept.few_ids;
      few_sources = kept.few_sources;
      few_edges = omega (arith, kept.few_edges, ap length is, length-written old.edges.entries i (settled slot));
      entity_count = kept.entity_count;
      edge_count = omega (arith, kept.edge_count, ap (count_of (λ s. is_live s.state)) is, count-written (λ s. is_live s.state) old.edges.entries i n slot (settled slot) at);
      ended =
          subst (AtEach (λ j e. is_live e.1.state ≡ true → 0 < e.1.end → contains end_cmp old.ends (e.1.end, j + 1) ≡ true)) (sym is)
          (at_each-set (λ j e. is_live e.1.state ≡ true → 0 < e.1.end → contains end_cmp old.ends (e.1.end, j + 1) ≡ true) old.edges.entries i n slot (settled slot) kept.ended at (kept.ended i (n, slot) at));
      touched_ids = kept.touched_ids;
      touched_edges =
          subst (λ es. AreTouched (λ s. is_same s.before) es new.touched_edges.items new.touched_edges.cap) (sym is)
          (subst (λ m. AreTouched (λ s. is_same s.before) (set_value_at old.edges.entries i (settled slot)) new.touched_edges.items m) (sym room)
          (subst (λ ps. AreTouched (λ s. is_same s.before) (set_value_at old.edges.entries i (settled slot)) ps old.touched_edges.cap) (sym left)
          (touched-settled (λ s. is_same s.before) old.edges.entries front i old.touched_edges.cap (subst (λ ps. AreTouched (λ s. is_same s.before) old.edges.entries ps old.touched_edges.cap) places kept.touched_edges) n slot (settled slot) at refl)));
    }
      where
        next : (side : Side) → next_at side (settled slot) ≡ next_at side slot
        next Target = refl
        next From = refl

        last : (side : Side) (q : ℕ) → last_at side (record old { edges = new.edges; touched_edges = new.touched_edges }) q ≡ last_at side old q
        last Target q = refl
        last From q = refl

  module _ (id : ℕ) (node : Node) (at : slice_get old.ids.entries i ≡ Some (id, node)) (is : new.ids.entries ≡ set_value_at old.ids.entries i (settled_entity node)) where
    id_keys : keys_of new.ids.entries ≡ keys_of old.ids.entries
    id_keys = ap keys_of is ∙ keys-written old.ids.entries i (settled_entity node)

    id_count : length new.ids.entries ≡ length old.ids.entries
    id_count = ap length is ∙ length-written old.ids.entries i (settled_entity node)

    nodes : map node_named new.ids.entries ≡ map node_named old.ids.entries
    nodes =
        ap (map node_named) is ∙ map-written node_named old.ids.entries i (settled_entity node) node.row (λ e there. refl)
        ∙ written-same (map node_named old.ids.entries) i id node.row (slice_get-map node_named old.ids.entries i ∙ ap (option_map node_named) at)

    -- so is an id
    pub id-settled-same : contents_of (record old { ids = new.ids; touched_ids = new.touched_ids }) ≡ contents_of old
    id-settled-same = λ j. record { entities = ordered nat_cmp (nodes j); edges = ordered edge_cmp (map (slot_named (keys_of old.sources.entries) (id_keys j)) old.edges.entries) }

    pub id-settled : old.touched_ids.items ≡ front ++ i ∷ [] → new.touched_ids.items ≡ front → new.touched_ids.cap ≡ old.touched_ids.cap → IsRows (record old { ids = new.ids; touched_ids = new.touched_ids })
    id-settled places left room = record {
      known = λ j e there. let k = kept.known j e there in record { source = k.source; target = omega (arith, k.target, id_count); circle = k.circle; before = k.before };
      chains = kept.chains;
      lasts = λ side q. last side q ∙ kept.lasts side q;
      ids = subst (IsDistinct nat_eq) (sym id_keys) kept.ids;
      sources = kept.sources;
      edges = subst (λ ks. IsDistinct (eq_by_cmp edge_cmp) (keys_of (map (slot_named (keys_of old.sources.entries) ks) old.edges.entries))) (sym id_keys) kept.edges;
      few_ids = omega (arith, kept.few_ids, id_count);
      few_sources = kept.few_sources;
      few_edges = kept.few_edges;
      entity_count = omega (arith, kept.entity_count, ap (count_of is_entity) is, count-written is_entity old.ids.entries i id node (settled_entity node) at);
      edge_count = kept.edge_count;
      ended = kept.ended;
      touched_ids =
          subst (λ es. AreTouched (λ m. is_same_entity m.before) es new.touched_ids.items new.touched_ids.cap) (sym is)
          (subst (λ c. AreTouched (λ m. is_same_entity m.before) (set_value_at old.ids.entries i (settled_entity node)) new.touched_ids.items c) (sym room)
          (subst (λ ps. AreTouched (λ m. is_same_entity m.before) (set_value_at old.ids.entries i (settled_entity node)) ps old.touched_ids.cap) (sym left)
          (touched-settled (λ m. is_same_entity m.before) old.ids.entries front i old.touched_ids.cap (subst (λ ps. AreTouched (λ m. is_same_entity m.before) old.ids.entries ps old.touched_ids.cap) places kept.touched_ids) id node (settled_entity node) at refl)));
      touched_edges = kept.touched_edges;
    }
      where
        last : (side : Side) (q : ℕ) → last_at side (record old { ids = new.ids; touched_ids = new.touched_ids }) q ≡ last_at side old q
        last Target q =
            ap (λ es. option_map_or (λ e. e.1.last_edge) (slice_get es q) 0) is
            ∙ read-written (λ e. e.1.last_edge) old.ids.entries i (settled_entity node) (λ e there. ap (λ (x : ℕ × Node). x.1.last_edge) (let same : (id, node) ≡ e = cc in same)) q
        last From q = refl

-- once no row is touched, what stood at the last publish is what stands now
pub all-settled : (rows : Rows) → IsRows rows → rows.touched_ids.items ≡ [] → rows.touched_edges.items ≡ [] → published_of rows ≡ contents_of rows
all-settled rows kept no_ids no_edges = λ j. record { entities = ordered nat_cmp (nodes j); edges = ordered edge_cmp (slots j) }
  where
    entity : (b : EntityBefore) (row : Option Rattle.uni_table.specs.declared.command.EntityRow.EntityRow) → is_same_entity b ≡ true → entity_then_of b row ≡ row
    entity entity_then.Same row is = refl
    entity entity_then.Absent row is = cc
    entity (entity_then.Present x) row is = cc

    edge : (sources : List Rattle.uni_table.specs.declared.graph.numbers.Source.Source) (b : Before) (row : Option Rattle.uni_table.specs.declared.command.EdgeRow.EdgeRow) → is_same b ≡ true → row_before sources b row ≡ row
    edge sources before.Same row is = refl
    edge sources before.Gone row is = cc
    edge sources (before.Public end) row is = cc
    edge sources (before.Only end) row is = cc
    edge sources (before.Circle n end) row is = cc

    nodes : map node_before rows.ids.entries ≡ map node_named rows.ids.entries
    nodes = map-agree node_before node_named rows.ids.entries (λ i e at. ap (λ r. (e.0, r)) (entity e.1.before e.1.row
        (none-touched (λ n. is_same_entity n.before) rows.ids.entries rows.touched_ids.cap (subst (λ ps. AreTouched (λ n. is_same_entity n.before) rows.ids.entries ps rows.touched_ids.cap) no_ids kept.touched_ids) i e at)))

    slots : map (slot_before (keys_of rows.sources.entries) (keys_of rows.ids.entries)) rows.edges.entries ≡ slots_named rows
    slots = map-agree (slot_before (keys_of rows.sources.entries) (keys_of rows.ids.entries)) (slot_named (keys_of rows.sources.entries) (keys_of rows.ids.entries)) rows.edges.entries
        (λ i e at. ap (λ r. (edge_named (keys_of rows.sources.entries) (keys_of rows.ids.entries) e.0, r)) (edge (keys_of rows.sources.entries) e.1.before (row_of (keys_of rows.sources.entries) e.1.state e.1.end)
        (none-touched (λ s. is_same s.before) rows.edges.entries rows.touched_edges.cap (subst (λ ps. AreTouched (λ s. is_same s.before) rows.edges.entries ps rows.touched_edges.cap) no_edges kept.touched_edges) i e at)))
