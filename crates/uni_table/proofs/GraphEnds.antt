-- The ends beside the rows: what is taken out, and what is listed.
use Rattle.std.proofs.Common.{◌≡◌, ◌≤◌, ◌<◌, ◌+◌, ◌==◌, ◌&&◌, ℕ, zero, suc, Bool, true, false, not, nat_le, List, ◌∷◌, Option, None, Some, cond, refl, sym, ◌∙◌, ap, length, map, filter, slice_get, if◌then◌else◌, arith, true≢false}
use Rattle.std.specs.BTreeSet.{BTreeSet, contains}
use Rattle.std.specs.Cmp.{IsTotalOrder}
use Rattle.std.specs.declared.cmp.Ordering.{Ordering}
use Rattle.std.specs.declared.cmp.Ordering.TheVariants.{Less, Equal, Greater}
use Rattle.std.specs.List.{IsDistinct, AllByRecursion, filter_map, cons_option, list_any}
use Rattle.std.specs.Map.{keys_of, lookup}
use Rattle.std.specs.BTreeMap.{is_at}
use Rattle.std.specs.Option.{option_map, option_map_or, option_and_then}
use Rattle.std.specs.Ordering.{nat_cmp, ordering_then, eq_by_cmp, is_eq, is_gt, is_lt}
use Rattle.std.proofs.lemmas.Bool.Decides.{nat_tests}
use Rattle.std.proofs.lemmas.Cmp.{on_total, then_total, nat_cmp_total}
use Rattle.std.proofs.lemmas.Map.Keys.{IsDistinct-from_sorted, IsDistinct-cons}
use Rattle.std.proofs.lemmas.Map.Lookups.{CmpEqualImpliesEq, exact_unsigned}
use Rattle.std.proofs.lemmas.Option.{slice_get-map}
use Rattle.indexmap.specs.Layout.{set_value_at}
use Rattle.chained_rows.specs.Chains.{AtEach}
use Rattle.chained_rows.specs.Ordered.{ordered, kept_if}
use Rattle.chained_rows.proofs.Compared.{equal_from}
use Rattle.chained_rows.proofs.Picked.{filter-ordered}
use Rattle.chained_rows.proofs.Places.{map-agree, map-written, written-same, slice_get-written}
use Rattle.uni_base.specs.EdgeOrder.{edge_cmp}
use Rattle.uni_base.specs.declared.edge.EdgeRef.{EdgeRef}
use Rattle.uni_table.specs.Contents.{ended, has_ended}
use Rattle.uni_table.specs.GraphKeys.{edge_total}
use Rattle.uni_table.specs.GraphRows.{IsRows, IsFirstEnded, contents_of, edge_named, slot_named, slots_named, row_of, audience_named, is_live, is_ended, row_no, ending_by, ending_no, end_cmp, last_at}
use Rattle.uni_table.specs.declared.command.EdgeRow.{EdgeRow}
use Rattle.uni_table.specs.declared.graph.numbers.Source.{Source}
use Rattle.uni_table.specs.declared.graph.numbers.EdgeNo.{EdgeNo}
use Rattle.uni_table.specs.declared.graph.numbers.Slot.{Slot}
use Rattle.uni_table.specs.declared.graph.numbers.SlotState.{SlotState}
use Rattle.uni_table.specs.declared.graph.numbers.SlotState.TheVariants.{Gone, Public, Only, Circle}
use Rattle.uni_table.specs.declared.graph.numbers.Side.{Side}
use Rattle.uni_table.specs.declared.graph.numbers.Side.TheVariants.{Target, Source as From}
use Rattle.uni_table.specs.declared.graph.rows.Rows.{Rows}
use Rattle.uni_table.proofs.GraphEdges.{slot-at, slots-written}
use Rattle.uni_table.proofs.GraphPlaces.{map-map}

pub end_total : IsTotalOrder end_cmp
end_total = then_total (on_total (λ e. e.0) nat_cmp_total) (on_total (λ e. e.1) nat_cmp_total)

pub exact_ends : CmpEqualImpliesEq end_cmp
exact_ends = Rattle.std.proofs.lemmas.Map.Lookups.exact_pairs nat_cmp nat_cmp exact_unsigned exact_unsigned

-- an end that is not above another comes no later
pub not-later : (a b : ℕ × ℕ) → is_gt (end_cmp a b) ≡ false → a.0 ≤ b.0
not-later a b h = Rattle.std.proofs.lemmas.Map.Keys.le_from_not_gt a.0 b.0 (by (nat_cmp a.0 b.0) h)
  where
    by : (o : Ordering) → is_gt (ordering_then o (nat_cmp a.1 b.1)) ≡ false → is_gt o ≡ false
    by Less e = refl
    by Equal e = refl
    by Greater e = e

-- a slot that ends lives, with an end that is from 1 to the publish
pub ended-parts : (publish : ℕ) (slot : Slot) → is_ended publish slot ≡ true → (is_live slot.state ≡ true) × (0 < slot.end) × (slot.end ≤ publish)
ended-parts publish slot h = by (is_live slot.state) refl h
  where
    by : (b : Bool) → is_live slot.state ≡ b → (b && (not (slot.end == 0) && nat_le slot.end publish)) ≡ true → (is_live slot.state ≡ true) × (0 < slot.end) × (slot.end ≤ publish)
    by false live e = cc
    by true live e = (live, grind (arith, nat_tests), grind (arith, nat_tests))

ended-from : (publish : ℕ) (slot : Slot) → is_live slot.state ≡ true → 0 < slot.end → slot.end ≤ publish → is_ended publish slot ≡ true
ended-from publish slot live some le = ap (λ b. b && (not (slot.end == 0) && nat_le slot.end publish)) live ∙ tests
  where
    tests : (not (slot.end == 0) && nat_le slot.end publish) ≡ true
    tests = grind (arith, nat_tests)

-- the row of a slot, without those that have ended
abbrev stays : ℕ → EdgeRef × EdgeRow → Bool
stays publish e = not (has_ended publish e.1)

-- a slot that has ended has a row that goes, and another one a row that stays
row-ended : (sources : List Source) (publish : ℕ) (k : EdgeRef) (slot : Slot) → is_ended publish slot ≡ true → kept_if (stays publish) (k, row_of sources slot.state slot.end) ≡ (k, None)
row-ended sources publish k slot h = by slot.state (ended-parts publish slot h)
  where
    gone-now : (a : Rattle.uni_base.specs.declared.edge.Audience.Audience) → (0 < slot.end) → (slot.end ≤ publish)
        → ◌≡◌ {A = EdgeRef × Option EdgeRow} (kept_if (stays publish) (k, Some (record { audience = a; end = slot.end }))) (k, None)
    gone-now a some le =
        let passes : (not (slot.end == 0) && nat_le slot.end publish) ≡ true = grind (arith, nat_tests) in
        ap (λ b. (k, if not b then Some (record { audience = a; end = slot.end }) else None)) passes

    by : (state : SlotState) → (is_live slot.state ≡ true) × (0 < slot.end) × (slot.end ≤ publish) → ◌≡◌ {A = EdgeRef × Option EdgeRow} (kept_if (stays publish) (k, row_of sources state slot.end)) (k, None)
    by Gone p = refl
    by Public p = gone-now _ p.1 p.2
    by Only p = gone-now _ p.1 p.2
    by (Circle n) p = gone-now _ p.1 p.2

row-stays : (sources : List Source) (publish : ℕ) (k : EdgeRef) (slot : Slot) → is_ended publish slot ≡ false → kept_if (stays publish) (k, row_of sources slot.state slot.end) ≡ (k, row_of sources slot.state slot.end)
row-stays sources publish k slot h = by slot.state h
  where
    same : (a : Rattle.uni_base.specs.declared.edge.Audience.Audience) → (not (slot.end == 0) && nat_le slot.end publish) ≡ false
        → ◌≡◌ {A = EdgeRef × Option EdgeRow} (kept_if (stays publish) (k, Some (record { audience = a; end = slot.end }))) (k, Some (record { audience = a; end = slot.end }))
    same a fails = ap (λ b. (k, if not b then Some (record { audience = a; end = slot.end }) else None)) fails

    by : (state : SlotState) → (is_live state && (not (slot.end == 0) && nat_le slot.end publish)) ≡ false → ◌≡◌ {A = EdgeRef × Option EdgeRow} (kept_if (stays publish) (k, row_of sources state slot.end)) (k, row_of sources state slot.end)
    by Gone e = refl
    by Public e = same _ e
    by Only e = same _ e
    by (Circle n) e = same _ e

module _ (publish : ℕ) where
  -- once no slot has ended, no row goes
  pub nothing-ended : (rows : Rows) → IsRows rows → AtEach (λ i e. is_ended publish e.1 ≡ false) rows.edges.entries → ended (contents_of rows) publish ≡ contents_of rows
  nothing-ended rows kept none =
      ap (λ es. record (contents_of rows) { edges = es })
      (filter-ordered edge_total (stays publish) (slots_named rows) kept.edges
      ∙ ap (ordered edge_cmp) (map-map (kept_if (stays publish)) (slot_named (keys_of rows.sources.entries) (keys_of rows.ids.entries)) rows.edges.entries
      ∙ map-agree (λ e. kept_if (stays publish) (slot_named (keys_of rows.sources.entries) (keys_of rows.ids.entries) e)) (slot_named (keys_of rows.sources.entries) (keys_of rows.ids.entries)) rows.edges.entries
      (λ i e at. row-stays (keys_of rows.sources.entries) publish (edge_named (keys_of rows.sources.entries) (keys_of rows.ids.entries) e.0) e.1 (none i e at))))

  -- none has, once the ends that are left are all to come
  pub none-ended : (rows : Rows) → IsRows rows → IsFirstEnded rows publish None → AtEach (λ i e. is_ended publish e.1 ≡ false) rows.edges.entries
  none-ended rows kept later i e at = by (is_ended publish e.1) refl
    where
      by : (b : Bool) → is_ended publish e.1 ≡ b → is_ended publish e.1 ≡ false
      by false h = h
      by true h =
          let p = ended-parts publish e.1 h in
          let after : publish < e.1.end = later (e.1.end, i + 1) (kept.ended i e at p.0 p.1) in
          absurd (omega (arith, after, p.2))

  -- an edge that has ended and is marked as gone: the others that stay are the same
  pub marked-same : (old new : Rows) → IsRows old → IsRows new → (i : ℕ) (n : EdgeNo) (slot : Slot) → slice_get old.edges.entries i ≡ Some (n, slot) → is_ended publish slot ≡ true
      → new.ids ≡ old.ids → new.sources ≡ old.sources → new.edges.entries ≡ set_value_at old.edges.entries i (Rattle.uni_table.specs.GraphRows.written slot Gone 0)
      → ended (contents_of new) publish ≡ ended (contents_of old) publish
  marked-same old new kept made i n slot at has ids sources edges =
      λ j. record { entities = ordered nat_cmp (map Rattle.uni_table.specs.GraphRows.node_named (ids j).entries); edges = all j }
    where
      name : EdgeRef
      name = edge_named (keys_of old.sources.entries) (keys_of old.ids.entries) n

      slots : slots_named new ≡ set_value_at (slots_named old) i None
      slots =
          (λ j. map (slot_named (keys_of (sources j).entries) (keys_of (ids j).entries)) new.edges.entries)
          ∙ slots-written old new kept i n slot Gone 0 at edges

      place : slice_get (map (kept_if (stays publish)) (slots_named old)) i ≡ Some (name, None)
      place =
          slice_get-map (kept_if (stays publish)) (slots_named old) i ∙ ap (option_map (kept_if (stays publish))) (slot-at old i (n, slot) at)
          ∙ ap Some (row-ended (keys_of old.sources.entries) publish name slot has)

      all : filter (stays publish) (contents_of new).edges ≡ filter (stays publish) (contents_of old).edges
      all =
          filter-ordered edge_total (stays publish) (slots_named new) made.edges
          ∙ ap (ordered edge_cmp) (ap (map (kept_if (stays publish))) slots
          ∙ map-written (kept_if (stays publish)) (slots_named old) i None None (λ e there. refl)
          ∙ written-same (map (kept_if (stays publish)) (slots_named old)) i name None place)
          ∙ sym (filter-ordered edge_total (stays publish) (slots_named old) kept.edges)

  -- an end that has come goes, once its edge has not ended
  pub pop-kept : (old new : Rows) → IsRows old → (first : ℕ × ℕ) → first.0 ≤ publish → option_map_or (λ e. is_ended publish e.1) (row_no old.edges.entries first.1) false ≡ false
      → ((q : ℕ × ℕ) → contains end_cmp new.ends q ≡ cond (is_at (end_cmp first) q) false (contains end_cmp old.ends q)) → IsRows (record old { ends = new.ends })
  pop-kept old new kept first come marked others = record {
    known = kept.known;
    chains = kept.chains;
    lasts = λ side q. last side q ∙ kept.lasts side q;
    ids = kept.ids;
    sources = kept.sources;
    edges = kept.edges;
    few_ids = kept.few_ids;
    few_sources = kept.few_sources;
    few_edges = kept.few_edges;
    entity_count = kept.entity_count;
    edge_count = kept.edge_count;
    ended = λ i e at live some. others (e.1.end, i + 1) ∙ by i e at live some (is_at (end_cmp first) (e.1.end, i + 1)) refl;
    touched_ids = kept.touched_ids;
    touched_edges = kept.touched_edges;
  }
    where
      last : (side : Side) (q : ℕ) → last_at side (record old { ends = new.ends }) q ≡ last_at side old q
      last Target q = refl
      last From q = refl

      by : (i : ℕ) (e : EdgeNo × Slot) → slice_get old.edges.entries i ≡ Some e → is_live e.1.state ≡ true → 0 < e.1.end → (b : Bool) → is_at (end_cmp first) (e.1.end, i + 1) ≡ b
          → cond b false (contains end_cmp old.ends (e.1.end, i + 1)) ≡ true
      by i e at live some false h = kept.ended i e at live some
      by i e at live some true h =
          let same : first ≡ (e.1.end, i + 1) = exact_ends first (e.1.end, i + 1) (equal_from (end_cmp first (e.1.end, i + 1)) h) in
          let ends : first.0 ≡ e.1.end = ap (λ p. p.0) same in
          let number : first.1 ≡ suc i = ap (λ p. p.1) same ∙ omega arith in
          let le : e.1.end ≤ publish = omega (arith, ends, come) in
          let fails : is_ended publish e.1 ≡ false = sym (ap (λ o. option_map_or (λ x. is_ended publish x.1) o false) (ap (row_no old.edges.entries) number ∙ at)) ∙ marked in
          absurd (true≢false (sym (ended-from publish e.1 live some le) ∙ fails))

-- an edge of a number that has ended
pub ended-row : (publish : ℕ) (es : List (EdgeNo × Slot)) (number : ℕ) → option_map_or (λ e. is_ended publish e.1) (row_no es number) false ≡ true
    → (i : ℕ) × (number ≡ suc i) × (e : EdgeNo × Slot) × (slice_get es i ≡ Some e) × (is_ended publish e.1 ≡ true)
ended-row publish es zero h = cc
ended-row publish es (suc i) h = by (slice_get es i) refl h
  where
    by : (o : Option (EdgeNo × Slot)) → slice_get es i ≡ o → option_map_or (λ e. is_ended publish e.1) o false ≡ true
        → (k : ℕ) × (suc i ≡ suc k) × (e : EdgeNo × Slot) × (slice_get es k ≡ Some e) × (is_ended publish e.1 ≡ true)
    by None at f = cc
    by (Some e) at f = (i, refl, e, at, f)

-- once it is marked, the edge of its number has not ended
pub marked-row : (publish : ℕ) (es new : List (EdgeNo × Slot)) (number i : ℕ) (n : EdgeNo) (slot : Slot) → number ≡ suc i → slice_get es i ≡ Some (n, slot)
    → new ≡ set_value_at es i (Rattle.uni_table.specs.GraphRows.written slot Gone 0) → option_map_or (λ e. is_ended publish e.1) (row_no new number) false ≡ false
marked-row publish es new number i n slot is at written =
    ap (λ m. option_map_or (λ e. is_ended publish e.1) (row_no new m) false) is
    ∙ ap (λ o. option_map_or (λ e. is_ended publish e.1) o false) (ap (λ fs. slice_get fs i) written ∙ slice_get-written es i n slot (Rattle.uni_table.specs.GraphRows.written slot Gone 0) at)

-- the ends without the first
pub popped : (result : Option (ℕ × ℕ)) (old new : BTreeSet (ℕ × ℕ)) → Rattle.std.specs.Option.IfSome result (λ k. old.keys ≡ k ∷ new.keys) → Rattle.std.specs.Option.IfSome result (λ k. Rattle.std.specs.BTreeSet.Updates end_cmp old new k false)
    → (0 < length old.keys → Rattle.std.specs.Option.IsSome result) → (first : ℕ × ℕ) → slice_get old.keys 0 ≡ Some first
    → (q : ℕ × ℕ) → contains end_cmp new q ≡ cond (is_at (end_cmp first) q) false (contains end_cmp old q)
popped None old new removal updates some first at q = let is : Rattle.std.specs.Option.IsSome {T = ℕ × ℕ} None = some (Rattle.std.proofs.lemmas.Option.slice_get_within old.keys 0 first at) in cc
popped (Some k) old new removal updates some first at q =
    let same : Some k ≡ Some first = sym (ap (λ ks. slice_get ks 0) removal) ∙ at in
    let is : k ≡ first = cc in
    updates.0 q ∙ ap (λ p. cond (is_at (end_cmp p) q) false (contains end_cmp old q)) is
