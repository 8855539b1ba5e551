-- Edges by place: look-ups, and the rows after one of them is written.
use Rattle.std.proofs.Common.{◌≡◌, ◌≤◌, ◌<◌, ◌+◌, ◌^◌, ℕ, Bool, true, false, if◌then◌else◌, List, [], ◌∷◌, ◌++◌, Option, None, Some, refl, sym, ◌∙◌, ap, subst, length, map, take, slice_get, is_some, arith}
use Rattle.std.specs.BTreeSet.{contains}
use Rattle.std.specs.List.{IsDistinct}
use Rattle.std.specs.Map.{keys_of}
use Rattle.std.specs.BTreeMap.{is_at}
use Rattle.std.specs.Option.{option_map}
use Rattle.std.specs.Ordering.{eq_by_cmp}
use Rattle.std.proofs.lemmas.Cmp.{eq_by_cmp_equiv}
use Rattle.std.proofs.lemmas.Map.{lookup-none}
use Rattle.std.proofs.lemmas.Map.Entries.{lookup_from_place}
use Rattle.std.proofs.lemmas.Option.{slice_get-map}
use Rattle.indexmap.specs.Layout.{set_value_at}
use Rattle.chained_rows.specs.Chains.{AtEach, last_no}
use Rattle.chained_rows.specs.Counts.{count_of, one_if}
use Rattle.chained_rows.specs.Ordered.{ordered}
use Rattle.chained_rows.proofs.Counted.{count-written, count-le}
use Rattle.chained_rows.proofs.Ordered.{lookup-ordered, ordered-put, ordered-hide, absent-ordered, joined}
use Rattle.chained_rows.proofs.Places.{keys-written, length-written, map-written, at_each-written}
use Rattle.uni_base.specs.EdgeOrder.{edge_cmp}
use Rattle.uni_base.specs.declared.edge.EdgeRef.{EdgeRef}
use Rattle.uni_table.specs.Contents.{edge_at, without_edge}
use Rattle.uni_table.specs.GraphKeys.{edge_total, exact_edges}
use Rattle.uni_table.specs.GraphRows.{IsRows, AreTouched, IsBeforeKnown, published_of, slot_before, is_same, is_same_entity, stood, written, IsKnown, IsCircleKnown, IsPlaceOf, IsNoted, IsQuiet, edge_named, row_of, slot_named, slots_named, contents_of, is_live, last_at, next_at, no_at, has_at, end_cmp, with_edge_row}
use Rattle.uni_table.specs.declared.command.EdgeRow.{EdgeRow}
use Rattle.uni_table.specs.declared.graph.numbers.EdgeNo.{EdgeNo}
use Rattle.uni_table.specs.declared.graph.numbers.Slot.{Slot}
use Rattle.uni_table.specs.declared.graph.numbers.SlotState.{SlotState}
use Rattle.uni_table.specs.declared.graph.numbers.Source.{Source}
use Rattle.uni_table.specs.declared.graph.numbers.SlotState.TheVariants.{Gone, Public, Only, Circle}
use Rattle.uni_table.specs.declared.graph.numbers.Side.{Side}
use Rattle.uni_table.specs.declared.graph.numbers.Side.TheVariants.{Target, Source as From}
use Rattle.uni_table.specs.declared.graph.rows.Rows.{Rows}
use Rattle.uni_table.proofs.GraphGrown.{longer-refl}
use Rattle.uni_table.proofs.GraphPlaces.{remove-none}
use Rattle.uni_table.proofs.Published.{slots-then, stood-known, stood-touched}
use Rattle.uni_table.proofs.TouchedRows.{touched-again, touched-first, touched-room}

-- an edge with its row at a place
pub slot-at : (rows : Rows) (i : ℕ) (e : EdgeNo × Slot) → slice_get rows.edges.entries i ≡ Some e → slice_get (slots_named rows) i ≡ Some (slot_named (keys_of rows.sources.entries) (keys_of rows.ids.entries) e)
slot-at rows i e at = slice_get-map (slot_named (keys_of rows.sources.entries) (keys_of rows.ids.entries)) rows.edges.entries i ∙ ap (option_map (slot_named (keys_of rows.sources.entries) (keys_of rows.ids.entries))) at

-- a look-up by an edge's place finds its row
pub edge-found : (rows : Rows) → IsRows rows → (edge : EdgeRef) (i : ℕ) (p : IsPlaceOf rows edge (Some i)) → edge_at (contents_of rows) edge ≡ row_of (keys_of rows.sources.entries) p.0.1.state p.0.1.end
edge-found rows kept edge i p =
    let row = row_of (keys_of rows.sources.entries) p.0.1.state p.0.1.end in
    lookup-ordered edge_total edge (slots_named rows) kept.edges
    ∙ ap joined
    (lookup_from_place (eq_by_cmp_equiv edge_total) (slots_named rows) i edge row kept.edges (slot-at rows i p.0 p.1 ∙ ap (λ name. Some (name, row)) p.2))

-- and finds none where there is no place
pub edge-missing : (rows : Rows) → IsRows rows → (edge : EdgeRef) → IsPlaceOf rows edge None → edge_at (contents_of rows) edge ≡ None
edge-missing rows kept edge none =
    lookup-ordered edge_total edge (slots_named rows) kept.edges ∙ ap joined (lookup-none (is_at (edge_cmp edge)) (slots_named rows) none)

pub edge-absent : (rows : Rows) → IsRows rows → (edge : EdgeRef) → IsPlaceOf rows edge None → without_edge (contents_of rows) edge ≡ contents_of rows
edge-absent rows kept edge none =
    ap (λ es. record (contents_of rows) { edges = es })
    (remove-none (is_at (edge_cmp edge)) (contents_of rows).edges (absent-ordered edge_total edge (slots_named rows) kept.edges none))

module _ (old new : Rows) (kept : IsRows old) (i : ℕ) (n : EdgeNo) (slot : Slot) (state : SlotState) (end : ℕ) (at : slice_get old.edges.entries i ≡ Some (n, slot))
    (is : new.edges.entries ≡ set_value_at old.edges.entries i (written slot state end)) where
  w : Slot
  w = written slot state end

  same : (e : EdgeNo × Slot) → slice_get old.edges.entries i ≡ Some e → slot ≡ e.1
  same e there = let both : (n, slot) ≡ e = cc in ap (λ x. x.1) both

  keys : keys_of new.edges.entries ≡ keys_of old.edges.entries
  keys = ap keys_of is ∙ keys-written old.edges.entries i (written slot state end)

  pub slots-written : map (slot_named (keys_of old.sources.entries) (keys_of old.ids.entries)) new.edges.entries ≡ set_value_at (slots_named old) i (row_of (keys_of old.sources.entries) state end)
  slots-written =
      ap (map (slot_named (keys_of old.sources.entries) (keys_of old.ids.entries))) is
      ∙ map-written (slot_named (keys_of old.sources.entries) (keys_of old.ids.entries)) old.edges.entries i (written slot state end) (row_of (keys_of old.sources.entries) state end) (λ e there. refl)

  -- the rows with it are kept, if its end is noted and what lives is counted
  pub edge-kept : IsCircleKnown (length old.sources.entries) state → IsNoted old state end i → new.edge_count + one_if (is_live slot.state) ≡ old.edge_count + one_if (is_live state)
      → new.touched_edges.items ≡ (if is_same slot.before then old.touched_edges.items ++ i ∷ [] else old.touched_edges.items) → new.touched_edges.cap ≡ old.touched_edges.cap
      → IsRows (record old { edges = new.edges; edge_count = new.edge_count; touched_edges = new.touched_edges })
  edge-kept circle noted count places room = record {
    known =
        subst (AtEach (λ j e. IsKnown (length old.sources.entries) (length old.ids.entries) e)) (sym is)
        (at_each-written (λ j e. IsKnown (length old.sources.entries) (length old.ids.entries) e) old.edges.entries i (written slot state end) kept.known
        (λ e there k. let told = known-told e there k in record { source = k.source; target = k.target; circle = circle; before = told }));
    chains = λ side.
        subst (λ ks. AtEach (λ j e. next_at side e.1 ≡ last_no (has_at side (no_at side e.0)) (take j ks)) new.edges.entries) (sym keys)
        (subst (AtEach (λ j e. next_at side e.1 ≡ last_no (has_at side (no_at side e.0)) (take j (keys_of old.edges.entries)))) (sym is)
        (at_each-written (λ j e. next_at side e.1 ≡ last_no (has_at side (no_at side e.0)) (take j (keys_of old.edges.entries))) old.edges.entries i (written slot state end) (kept.chains side)
        (λ e there k. next side ∙ ap (next_at side) (same e there) ∙ k)));
    lasts = λ side q. last side q ∙ kept.lasts side q ∙ ap (last_no (has_at side q)) (sym keys);
    ids = kept.ids;
    sources = kept.sources;
    edges = subst (λ es. IsDistinct (eq_by_cmp edge_cmp) (keys_of es)) (sym slots-written) (subst (IsDistinct (eq_by_cmp edge_cmp)) (sym (keys-written (slots_named old) i (row_of (keys_of old.sources.entries) state end))) kept.edges);
    few_ids = kept.few_ids;
    few_sources = kept.few_sources;
    few_edges = omega (arith, kept.few_edges, ap length is, length-written old.edges.entries i (written slot state end));
    entity_count = kept.entity_count;
    edge_count =
        omega (arith, count, kept.edge_count, ap (count_of (λ s. is_live s.state)) is, count-written (λ s. is_live s.state) old.edges.entries i n slot (written slot state end) at);
    ended =
        subst (AtEach (λ j e. is_live e.1.state ≡ true → 0 < e.1.end → contains end_cmp old.ends (e.1.end, j + 1) ≡ true)) (sym is)
        (here (λ j e. is_live e.1.state ≡ true → 0 < e.1.end → contains end_cmp old.ends (e.1.end, j + 1) ≡ true) kept.ended noted);
    touched_ids = kept.touched_ids;
    touched_edges =
        subst (λ es. AreTouched (λ s. is_same s.before) es new.touched_edges.items new.touched_edges.cap) (sym is)
        (subst (λ m. AreTouched (λ s. is_same s.before) (set_value_at old.edges.entries i (written slot state end)) new.touched_edges.items m) (sym room)
        (subst (λ ps. AreTouched (λ s. is_same s.before) (set_value_at old.edges.entries i (written slot state end)) ps old.touched_edges.cap) (sym places)
        (touched (is_same slot.before) refl)));
  }
    where
      known-told : (e : EdgeNo × Slot) → slice_get old.edges.entries i ≡ Some e → IsKnown (length old.sources.entries) (length old.ids.entries) e → IsBeforeKnown (length old.sources.entries) (stood slot.before slot.state slot.end)
      known-told e there k =
          let whole : IsKnown (length old.sources.entries) (length old.ids.entries) (n, slot) = kept.known i (n, slot) at in
          stood-known (length old.sources.entries) slot.before slot.state slot.end whole.before whole.circle

      touched : (b : Bool) → is_same slot.before ≡ b
          → AreTouched (λ s. is_same s.before) (set_value_at old.edges.entries i (written slot state end)) (if b then old.touched_edges.items ++ i ∷ [] else old.touched_edges.items) old.touched_edges.cap
      touched true was = touched-first (λ s. is_same s.before) old.edges.entries old.touched_edges.items old.touched_edges.cap kept.touched_edges i n slot (written slot state end) at was (stood-touched slot.before slot.state slot.end)
      touched false was = touched-again (λ s. is_same s.before) old.edges.entries old.touched_edges.items old.touched_edges.cap kept.touched_edges i n slot (written slot state end) at was (stood-touched slot.before slot.state slot.end)

      next : (side : Side) → next_at side (written slot state end) ≡ next_at side slot
      next Target = refl
      next From = refl

      last : (side : Side) (q : ℕ) → last_at side (record old { edges = new.edges; edge_count = new.edge_count; touched_edges = new.touched_edges }) q ≡ last_at side old q
      last Target q = refl
      last From q = refl

      here : (P : ℕ → EdgeNo × Slot → Type 0) → AtEach P old.edges.entries → P i (n, written slot state end) → AtEach P (set_value_at old.edges.entries i (written slot state end))
      here P all is_so =
          Rattle.chained_rows.proofs.Places.at_each-set P old.edges.entries i n slot (written slot state end) all at is_so

  edges : ordered edge_cmp (map (slot_named (keys_of old.sources.entries) (keys_of old.ids.entries)) new.edges.entries)
      ≡ (with_edge_row (contents_of old) (edge_named (keys_of old.sources.entries) (keys_of old.ids.entries) n) (row_of (keys_of old.sources.entries) state end)).edges
  edges = ap (ordered edge_cmp) slots-written ∙ by (row_of (keys_of old.sources.entries) state end)
    where
      name : EdgeRef
      name = edge_named (keys_of old.sources.entries) (keys_of old.ids.entries) n

      by : (r : Option EdgeRow) → ordered edge_cmp (set_value_at (slots_named old) i r) ≡ (with_edge_row (contents_of old) name r).edges
      by None = ordered-hide edge_total exact_edges (slots_named old) i name (row_of (keys_of old.sources.entries) slot.state slot.end) kept.edges (slot-at old i (n, slot) at)
      by (Some x) = ordered-put edge_total exact_edges (slots_named old) i name (row_of (keys_of old.sources.entries) slot.state slot.end) x kept.edges (slot-at old i (n, slot) at)

  entities : (r : Option EdgeRow) → (contents_of old).entities ≡ (with_edge_row (contents_of old) (edge_named (keys_of old.sources.entries) (keys_of old.ids.entries) n) r).entities
  entities None = refl
  entities (Some x) = refl

  -- they stand for the contents with it
  pub edge-set : contents_of (record old { edges = new.edges; edge_count = new.edge_count; touched_edges = new.touched_edges })
      ≡ with_edge_row (contents_of old) (edge_named (keys_of old.sources.entries) (keys_of old.ids.entries) n) (row_of (keys_of old.sources.entries) state end)
  edge-set = λ j. record { entities = entities (row_of (keys_of old.sources.entries) state end) j; edges = edges j }

  -- and were at the last publish what they were
  pub edge-then : published_of (record old { edges = new.edges; edge_count = new.edge_count; touched_edges = new.touched_edges }) ≡ published_of old
  edge-then =
      let all = ap (map (slot_before (keys_of old.sources.entries) (keys_of old.ids.entries))) is ∙ slots-then (keys_of old.sources.entries) (keys_of old.ids.entries) old.edges.entries i n slot state end at in
      ap (λ es. record (published_of old) { edges = ordered edge_cmp es }) all

-- what lives is counted
pub edge-counted : (rows : Rows) → IsRows rows → (i : ℕ) (n : EdgeNo) (slot : Slot) → slice_get rows.edges.entries i ≡ Some (n, slot) → one_if (is_live slot.state) ≤ rows.edge_count
edge-counted rows kept i n slot at =
    omega (arith, kept.edge_count, count-written (λ s. is_live s.state) rows.edges.entries i n slot (record slot { state = Gone }) at)

pub edges-few : (rows : Rows) → IsRows rows → rows.edge_count < 2 ^ 32
edges-few rows kept = omega (arith, kept.edge_count, kept.few_edges, count-le (λ s. is_live s.state) rows.edges.entries)

-- more ends change nothing
pub quiet-ends : (old new : Rows) → IsRows old → ((q : ℕ × ℕ) → contains end_cmp old.ends q ≡ true → contains end_cmp new.ends q ≡ true) → IsQuiet old (record old { ends = new.ends })
quiet-ends old new kept more = record {
  kept = record {
    known = kept.known;
    chains = kept.chains;
    lasts = λ side q. last side q ∙ kept.lasts side q;
    ids = kept.ids;
    sources = kept.sources;
    edges = kept.edges;
    few_ids = kept.few_ids;
    few_sources = kept.few_sources;
    few_edges = kept.few_edges;
    entity_count = kept.entity_count;
    edge_count = kept.edge_count;
    ended = λ i e at live ends. more (e.1.end, i + 1) (kept.ended i e at live ends);
    touched_ids = kept.touched_ids;
    touched_edges = kept.touched_edges;
  };
  same = refl;
  published = refl;
  edges = refl;
  sources = longer-refl (keys_of old.sources.entries);
  ids = longer-refl (keys_of old.ids.entries);
}
  where
    last : (side : Side) (q : ℕ) → last_at side (record old { ends = new.ends }) q ≡ last_at side old q
    last Target q = refl
    last From q = refl

module _ (old new : Rows) (kept : IsRows old) where
  last : (side : Side) (q : ℕ) → last_at side (record old { touched_ids = new.touched_ids; touched_edges = new.touched_edges }) q ≡ last_at side old q
  last Target q = refl
  last From q = refl

  -- more room for places changes nothing
  pub quiet-room : new.touched_ids.items ≡ old.touched_ids.items → old.touched_ids.cap ≤ new.touched_ids.cap → new.touched_edges.items ≡ old.touched_edges.items → old.touched_edges.cap ≤ new.touched_edges.cap
      → IsQuiet old (record old { touched_ids = new.touched_ids; touched_edges = new.touched_edges })
  quiet-room ids more_ids edges more_edges = record {
    kept = record {
      known = kept.known;
      chains = kept.chains;
      lasts = λ side q. last side q ∙ kept.lasts side q;
      ids = kept.ids;
      sources = kept.sources;
      edges = kept.edges;
      few_ids = kept.few_ids;
      few_sources = kept.few_sources;
      few_edges = kept.few_edges;
      entity_count = kept.entity_count;
      edge_count = kept.edge_count;
      ended = kept.ended;
      touched_ids =
          subst (λ ps. AreTouched (λ n. is_same_entity n.before) old.ids.entries ps new.touched_ids.cap) (sym ids)
          (touched-room (λ n. is_same_entity n.before) old.ids.entries old.touched_ids.items old.touched_ids.cap kept.touched_ids new.touched_ids.cap more_ids);
      touched_edges =
          subst (λ ps. AreTouched (λ s. is_same s.before) old.edges.entries ps new.touched_edges.cap) (sym edges)
          (touched-room (λ s. is_same s.before) old.edges.entries old.touched_edges.items old.touched_edges.cap kept.touched_edges new.touched_edges.cap more_edges);
    };
    same = refl;
    published = refl;
    edges = refl;
    sources = longer-refl (keys_of old.sources.entries);
    ids = longer-refl (keys_of old.ids.entries);
  }

module _ (old more : Rows) (kept : IsRows old) (is : more.edges.entries ≡ old.edges.entries) where
  abbrev wide : Rows
  wide = record old { edges = more.edges }

  last-wide : (side : Side) (q : ℕ) → last_at side wide q ≡ last_at side old q
  last-wide Target q = refl
  last-wide From q = refl

  -- nor does more room for edges
  pub quiet-wide : IsQuiet old wide
  quiet-wide = record {
    kept = record {
      known = subst (AtEach (λ i e. IsKnown (length old.sources.entries) (length old.ids.entries) e)) (sym is) kept.known;
      chains = λ side. subst (λ es. AtEach (λ i e. next_at side e.1 ≡ last_no (has_at side (no_at side e.0)) (take i (keys_of es))) es) (sym is) (kept.chains side);
      lasts = λ side q. last-wide side q ∙ kept.lasts side q ∙ ap (λ (es : List (EdgeNo × Slot)). last_no (has_at side q) (keys_of es)) (sym is);
      ids = kept.ids;
      sources = kept.sources;
      edges = subst (λ es. IsDistinct (eq_by_cmp edge_cmp) (keys_of (map (slot_named (keys_of old.sources.entries) (keys_of old.ids.entries)) es))) (sym is) kept.edges;
      few_ids = kept.few_ids;
      few_sources = kept.few_sources;
      few_edges = subst (λ (es : List (EdgeNo × Slot)). length es < 2 ^ 32) (sym is) kept.few_edges;
      entity_count = kept.entity_count;
      edge_count = kept.edge_count ∙ ap (count_of (λ slot. is_live slot.state)) (sym is);
      ended = subst (AtEach (λ i e. is_live e.1.state ≡ true → 0 < e.1.end → contains end_cmp old.ends (e.1.end, i + 1) ≡ true)) (sym is) kept.ended;
      touched_ids = kept.touched_ids;
      touched_edges = subst (λ es. AreTouched (λ slot. is_same slot.before) es old.touched_edges.items old.touched_edges.cap) (sym is) kept.touched_edges;
    };
    same = λ i. record { entities = (contents_of old).entities; edges = ordered edge_cmp (map (slot_named (keys_of old.sources.entries) (keys_of old.ids.entries)) (is i)) };
    published = λ i. record { entities = (published_of old).entities; edges = ordered edge_cmp (map (slot_before (keys_of old.sources.entries) (keys_of old.ids.entries)) (is i)) };
    edges = is;
    sources = longer-refl (keys_of old.sources.entries);
    ids = longer-refl (keys_of old.ids.entries);
  }

-- a row stands for an edge exactly where that is not gone
pub row-lives : (sources : List Source) (state : SlotState) (end : ℕ) → is_some (row_of sources state end) ≡ is_live state
row-lives sources Gone end = refl
row-lives sources Public end = refl
row-lives sources Only end = refl
row-lives sources (Circle n) end = refl

-- the count is that of the contents' edges
pub edges-counted : (rows : Rows) → IsRows rows → rows.edge_count ≡ length (contents_of rows).edges
edges-counted rows kept =
    kept.edge_count
    ∙ sym (Rattle.chained_rows.proofs.Counted.length-ordered (λ s. is_live s.state) edge_total (slot_named (keys_of rows.sources.entries) (keys_of rows.ids.entries))
    (λ e. row-lives (keys_of rows.sources.entries) e.1.state e.1.end) rows.edges.entries kept.edges)
