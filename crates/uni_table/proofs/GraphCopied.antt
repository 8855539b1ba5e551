-- Rows whose maps have the same entries keep and stand for the same.
use Rattle.std.proofs.Common.{◌≡◌, ◌<◌, ◌≤◌, ◌+◌, ◌^◌, ℕ, Bool, List, true, sym, ◌∙◌, ap, subst, length, map, take, slice_get, nat_eq}
use Rattle.std.specs.BTreeMap.{is_at}
use Rattle.std.specs.BTreeSet.{contains}
use Rattle.std.specs.List.{IsDistinct, list_any}
use Rattle.std.specs.Map.{keys_of}
use Rattle.std.specs.Option.{option_map_or}
use Rattle.std.specs.Ordering.{nat_cmp, eq_by_cmp}
use Rattle.chained_rows.specs.Chains.{AtEach, last_no}
use Rattle.chained_rows.specs.Counts.{count_of}
use Rattle.chained_rows.specs.Ordered.{ordered}
use Rattle.uni_base.specs.EdgeOrder.{edge_cmp}
use Rattle.uni_table.specs.GraphKeys.{source_eq}
use Rattle.uni_table.specs.GraphRows.{IsRows, AreTouched, published_of, slot_before, node_before, is_same, is_same_entity, IsKnown, contents_of, slot_named, slots_named, node_named, next_at, no_at, has_at, last_at, is_entity, is_live, end_cmp}
use Rattle.uni_table.specs.declared.graph.numbers.Side.{Side}
use Rattle.uni_table.specs.declared.graph.numbers.Side.TheVariants.{Target, Source as From}
use Rattle.uni_table.specs.declared.graph.rows.Rows.{Rows}

roomed : {K V : Type 0} {same : V → Bool} (es : List (K × V)) {places : List ℕ} {room more : ℕ} → AreTouched same es places room → length es ≤ more → AreTouched same es places more
roomed es t le = record { roomy = le; counted = t.counted; listed = t.listed; marked = t.marked; apart = t.apart }

module _ (old new : Rows) (ids : new.ids.entries ≡ old.ids.entries) (sources : new.sources.entries ≡ old.sources.entries) (edges : new.edges.entries ≡ old.edges.entries) where
  slots : slots_named new ≡ slots_named old
  slots = λ j. map (slot_named (keys_of (sources j)) (keys_of (ids j))) (edges j)

  pub copy-same : contents_of new ≡ contents_of old
  copy-same = λ j. record { entities = ordered nat_cmp (map node_named (ids j)); edges = ordered edge_cmp (map (slot_named (keys_of (sources j)) (keys_of (ids j))) (edges j)) }

  pub copy-then : published_of new ≡ published_of old
  copy-then = λ j. record { entities = ordered nat_cmp (map node_before (ids j)); edges = ordered edge_cmp (map (slot_before (keys_of (sources j)) (keys_of (ids j))) (edges j)) }

  pub copy-kept : new.ends.keys ≡ old.ends.keys → new.entity_count ≡ old.entity_count → new.edge_count ≡ old.edge_count → new.touched_ids.items ≡ old.touched_ids.items → length old.ids.entries ≤ new.touched_ids.cap
      → new.touched_edges.items ≡ old.touched_edges.items → length old.edges.entries ≤ new.touched_edges.cap → IsRows old → IsRows new
  copy-kept ends entity_count edge_count id_places id_room edge_places edge_room kept = record {
    known =
        subst (AtEach (λ i e. IsKnown (length new.sources.entries) (length new.ids.entries) e)) (sym edges)
        (subst (λ m. AtEach (λ i e. IsKnown (length new.sources.entries) (length m) e) old.edges.entries) (sym ids)
        (subst (λ m. AtEach (λ i e. IsKnown (length m) (length old.ids.entries) e) old.edges.entries) (sym sources) kept.known));
    chains = subst (λ es. (side : Side) → AtEach (λ i e. next_at side e.1 ≡ last_no (has_at side (no_at side e.0)) (take i (keys_of es))) es) (sym edges) kept.chains;
    lasts = λ side q. last side q ∙ kept.lasts side q ∙ ap (λ es. last_no (has_at side q) (keys_of es)) (sym edges);
    ids = subst (λ es. IsDistinct nat_eq (keys_of es)) (sym ids) kept.ids;
    sources = subst (λ es. IsDistinct source_eq (keys_of es)) (sym sources) kept.sources;
    edges = subst (λ es. IsDistinct (eq_by_cmp edge_cmp) (keys_of es)) (sym slots) kept.edges;
    few_ids = subst (λ es. length es < 2 ^ 32) (sym ids) kept.few_ids;
    few_sources = subst (λ es. length es < 2 ^ 32) (sym sources) kept.few_sources;
    few_edges = subst (λ es. length es < 2 ^ 32) (sym edges) kept.few_edges;
    entity_count = entity_count ∙ kept.entity_count ∙ ap (count_of is_entity) (sym ids);
    edge_count = edge_count ∙ kept.edge_count ∙ ap (count_of (λ slot. is_live slot.state)) (sym edges);
    ended =
        subst (AtEach (λ i e. is_live e.1.state ≡ true → 0 < e.1.end → contains end_cmp new.ends (e.1.end, i + 1) ≡ true)) (sym edges)
        (λ i e at live some. ap (list_any (is_at (end_cmp (e.1.end, i + 1)))) ends ∙ kept.ended i e at live some);
    touched_ids =
        subst (λ es. AreTouched (λ node. is_same_entity node.before) es new.touched_ids.items new.touched_ids.cap) (sym ids)
        (subst (λ ps. AreTouched (λ node. is_same_entity node.before) old.ids.entries ps new.touched_ids.cap) (sym id_places) (roomed old.ids.entries kept.touched_ids id_room));
    touched_edges =
        subst (λ es. AreTouched (λ slot. is_same slot.before) es new.touched_edges.items new.touched_edges.cap) (sym edges)
        (subst (λ ps. AreTouched (λ slot. is_same slot.before) old.edges.entries ps new.touched_edges.cap) (sym edge_places) (roomed old.edges.entries kept.touched_edges edge_room));
  }
    where
      last : (side : Side) (q : ℕ) → last_at side new q ≡ last_at side old q
      last Target q = ap (λ es. option_map_or (λ e. e.1.last_edge) (slice_get es q) 0) ids
      last From q = ap (λ es. option_map_or (λ e. e.1) (slice_get es q) 0) sources
