-- Edges by name and by number.
use Rattle.std.proofs.Common.{◌≡◌, ◌<◌, ◌+◌, ◌^◌, ◌==◌, ◌&&◌, inl, inr, ℕ, Bool, true, false, List, [], ◌∷◌, None, Some, refl, sym, ◌∙◌, ap, subst, length, map, take, slice_get, get_or, nat_eq, arith, true≢false}
use Rattle.std.specs.Cmp.{IsEquivalence}
use Rattle.std.specs.BTreeSet.{contains}
use Rattle.std.specs.List.{IsDistinct, AllByRecursion}
use Rattle.std.specs.Map.{keys_of, lookup}
use Rattle.std.specs.Option.{option_map_or}
use Rattle.std.specs.BTreeMap.{is_at}
use Rattle.std.specs.Ordering.{eq_by_cmp}
use Rattle.std.proofs.lemmas.Bool.{cases_lt}
use Rattle.std.proofs.lemmas.Cmp.{nat_eq_equiv, eq_by_cmp_equiv, on_equiv, and_equiv}
use Rattle.std.proofs.lemmas.Map.{NonePasses, none_passes_from_lookup}
use Rattle.std.proofs.lemmas.Map.Keys.{apart_from_distinct}
use Rattle.std.proofs.lemmas.Option.{slice_get-get_or, get_or_from_slice_get, slice_get_within}
use Rattle.chained_rows.specs.Chains.{AtEach, last_no}
use Rattle.chained_rows.specs.Counts.{count_of}
use Rattle.chained_rows.proofs.Compared.{equal_from}
use Rattle.chained_rows.proofs.Places.{at_each-tail}
use Rattle.uni_base.specs.EdgeOrder.{edge_cmp, key_cmp-total}
use Rattle.uni_base.specs.declared.edge.EdgeRef.{EdgeRef}
use Rattle.uni_base.specs.declared.edge.Key.TheVariants.{Id}
use Rattle.uni_table.specs.GraphKeys.{source_eq, exact_edges}
use Rattle.uni_table.specs.GraphRows.{IsRows, AreTouched, is_same, is_same_entity, IsKnown, IsNumbered, IsPlaceOf, source_named, edge_named, slot_named, next_at, no_at, has_at, last_at, is_entity, is_live, end_cmp}
use Rattle.uni_table.specs.declared.graph.numbers.Source.{Source}
use Rattle.uni_table.specs.declared.graph.numbers.Node.{Node}
use Rattle.uni_table.specs.declared.graph.numbers.EdgeNo.{EdgeNo}
use Rattle.uni_table.specs.declared.graph.numbers.Slot.{Slot}
use Rattle.uni_table.specs.declared.graph.numbers.Side.{Side}
use Rattle.uni_table.specs.declared.graph.numbers.Side.TheVariants.{Target, Source as From}
use Rattle.uni_table.specs.declared.graph.rows.Rows.{Rows}
use Rattle.uni_table.proofs.TouchedRows.{touched-none}
use Rattle.uni_table.proofs.GraphGrown.{known-keys}
use Rattle.uni_table.proofs.GraphPlaces.{all-at}

-- of keys that differ, equal ones stand at one place
pub same-place : {K : Type 0} {eq : K → K → Bool} → IsEquivalence eq → (ks : List K) (i j : ℕ) (x y : K) → IsDistinct eq ks → slice_get ks i ≡ Some x → slice_get ks j ≡ Some y → eq x y ≡ true → i ≡ j
same-place {K} {eq} laws ks i j x y apart at to same =
    elim (cases_lt i j) [
      | inl below ↦ absurd (true≢false (sym same ∙ both i j x y at to ∙ apart_from_distinct eq ks i j x apart below (slice_get_within ks j y to)))
      | inr above ↦ elim (cases_lt j i) [
        | inl below ↦ absurd (true≢false (sym (laws.symm y x ∙ same) ∙ both j i y x to at ∙ apart_from_distinct eq ks j i x apart below (slice_get_within ks i x at)))
        | inr under ↦ omega arith
      ]
    ]
  where
    both : (m n : ℕ) (u v : K) → slice_get ks m ≡ Some u → slice_get ks n ≡ Some v → eq u v ≡ eq (get_or ks m x) (get_or ks n x)
    both m n u v p q = (λ k. eq (sym (get_or_from_slice_get ks m u x p) k) (sym (get_or_from_slice_get ks n v x q) k))

pub source_equiv : IsEquivalence source_eq
source_equiv = and_equiv (on_equiv (λ s. s.type_no) nat_eq_equiv) (on_equiv (λ s. s.key) (eq_by_cmp_equiv key_cmp-total))

-- whether two are the same numbers
abbrev pub edge_no_eq : EdgeNo → EdgeNo → Bool
edge_no_eq a b = a.source == b.source && a.target == b.target

module _ (sources : List Source) (ids : List ℕ) (n : EdgeNo) (edge : EdgeRef)
    (at_source : slice_get sources n.source ≡ Some (record { type_no = edge.type_no; key = edge.key })) (at_target : slice_get ids n.target ≡ Some edge.target) where
  -- the numbers name the edge
  pub named : edge_named sources ids n ≡ edge
  named =
      let source = get_or_from_slice_get sources n.source (record { type_no = edge.type_no; key = edge.key }) (record { type_no = 0; key = Id 0 }) at_source in
      let target = get_or_from_slice_get ids n.target edge.target 0 at_target in
      λ j. record { type_no = (source j).type_no; key = (source j).key; target = target j }

  module _ (s : IsDistinct source_eq sources) (t : IsDistinct nat_eq ids) where
    -- and no others do
    pub numbers-same : (m : EdgeNo) → m.source < length sources → m.target < length ids → edge_named sources ids m ≡ edge → m ≡ n
    numbers-same m below under is =
        let its_source : source_named sources m.source ≡ record { type_no = edge.type_no; key = edge.key } = ap (λ e. record { type_no = e.type_no; key = e.key }) is in
        let source : m.source ≡ n.source =
        same-place source_equiv sources m.source n.source (source_named sources m.source) (record { type_no = edge.type_no; key = edge.key }) s
        (slice_get-get_or sources m.source (record { type_no = 0; key = Id 0 }) below) at_source
        (sym (ap (source_eq (source_named sources m.source)) its_source) ∙ source_equiv.refl (source_named sources m.source)) in
        let target : m.target ≡ n.target =
        same-place nat_eq_equiv ids m.target n.target (get_or ids m.target 0) edge.target t (slice_get-get_or ids m.target 0 under) at_target
        (sym (ap (nat_eq (get_or ids m.target 0)) (ap (λ e. e.target) is)) ∙ nat_eq_equiv.refl (get_or ids m.target 0)) in
        λ j. record { source = source j; target = target j }

    pub none-named : (es : List (EdgeNo × Slot)) → AtEach (λ i e. IsKnown (length sources) (length ids) e) es → NonePasses (edge_no_eq n) es → NonePasses (is_at (edge_cmp edge)) (map (slot_named sources ids) es)
    none-named [] known none = tt
    none-named (e ∷ es) known none = (by (is_at (edge_cmp edge) (edge_named sources ids e.0)) refl, none-named es (at_each-tail (λ i x. IsKnown (length sources) (length ids) x) e es known) none.1)
      where
        by : (b : Bool) → is_at (edge_cmp edge) (edge_named sources ids e.0) ≡ b → is_at (edge_cmp edge) (edge_named sources ids e.0) ≡ false
        by false at = at
        by true at =
            let k = known 0 e refl in
            let is : e.0 ≡ n = numbers-same e.0 k.source k.target (sym (exact_edges edge (edge_named sources ids e.0) (equal_from (edge_cmp edge (edge_named sources ids e.0)) at))) in
            absurd (true≢false (sym (both n) ∙ ap (edge_no_eq n) (sym is) ∙ none.0))
          where
            both : (m : EdgeNo) → edge_no_eq m m ≡ true
            both m = ap (λ b. b && m.target == m.target) (nat_eq_equiv.refl m.source) ∙ nat_eq_equiv.refl m.target

module _ (rows : Rows) (kept : IsRows rows) (n : EdgeNo) (edge : EdgeRef) (numbered : IsNumbered rows n edge) where
  -- where the edge was found by its numbers
  pub placed : (i : ℕ) (e : EdgeNo × Slot) → slice_get rows.edges.entries i ≡ Some e → edge_no_eq n e.0 ≡ true → IsPlaceOf rows edge (Some i)
  placed i e at same = (
    e,
    at,
    ap (edge_named (keys_of rows.sources.entries) (keys_of rows.ids.entries)) (numbers n e.0 same)
        ∙ named (keys_of rows.sources.entries) (keys_of rows.ids.entries) n edge numbered.source numbered.target,
  )
    where
      numbers : (a b : EdgeNo) → edge_no_eq a b ≡ true → b ≡ a
      numbers a b is = by (a.source == b.source) refl is
        where
          by : (c : Bool) → (a.source == b.source) ≡ c → (c && a.target == b.target) ≡ true → b ≡ a
          by true f g =
              let source : b.source ≡ a.source = grind (arith, Rattle.std.proofs.lemmas.Bool.Decides.nat_tests) in
              let target : b.target ≡ a.target = grind (arith, Rattle.std.proofs.lemmas.Bool.Decides.nat_tests) in
              λ j. record { source = source j; target = target j }
          by false f g = cc

  -- and where it was not
  pub unplaced : lookup (edge_no_eq n) rows.edges.entries ≡ None → IsPlaceOf rows edge None
  unplaced none =
      none-named (keys_of rows.sources.entries) (keys_of rows.ids.entries) n edge numbered.source numbered.target kept.sources kept.ids rows.edges.entries
      (λ i e at. known-keys rows.sources.entries rows.ids.entries e (kept.known i e at)) (none_passes_from_lookup (edge_no_eq n) rows.edges.entries none)

-- where one end of an edge never was there, the edge never was
module _ (rows : Rows) (kept : IsRows rows) (edge : EdgeRef) where
  none-if : ((e : EdgeNo × Slot) → IsKnown (length (keys_of rows.sources.entries)) (length (keys_of rows.ids.entries)) e → edge ≡ edge_named (keys_of rows.sources.entries) (keys_of rows.ids.entries) e.0 → true ≡ false)
      → (es : List (EdgeNo × Slot)) → AtEach (λ i e. IsKnown (length rows.sources.entries) (length rows.ids.entries) e) es
      → NonePasses (is_at (edge_cmp edge)) (map (slot_named (keys_of rows.sources.entries) (keys_of rows.ids.entries)) es)
  none-if apart [] known = tt
  none-if apart (e ∷ es) known = (
    by (is_at (edge_cmp edge) (edge_named (keys_of rows.sources.entries) (keys_of rows.ids.entries) e.0)) refl,
    none-if apart es (at_each-tail (λ i x. IsKnown (length rows.sources.entries) (length rows.ids.entries) x) e es known),
  )
    where
      name : EdgeRef
      name = edge_named (keys_of rows.sources.entries) (keys_of rows.ids.entries) e.0

      by : (b : Bool) → is_at (edge_cmp edge) name ≡ b → is_at (edge_cmp edge) name ≡ false
      by false at = at
      by true at = absurd (true≢false (apart e (known-keys rows.sources.entries rows.ids.entries e (known 0 e refl)) (exact_edges edge name (equal_from (edge_cmp edge name) at))))

  pub no-source : AllByRecursion (λ x. source_eq (record { type_no = edge.type_no; key = edge.key }) x ≡ false) (keys_of rows.sources.entries) → IsPlaceOf rows edge None
  no-source none =
      none-if (λ e known is.
      let its_source : record { type_no = edge.type_no; key = edge.key } ≡ source_named (keys_of rows.sources.entries) e.0.source = ap (λ x. record { type_no = x.type_no; key = x.key }) is in
      sym (source_equiv.refl (record { type_no = edge.type_no; key = edge.key })) ∙ ap (source_eq (record { type_no = edge.type_no; key = edge.key })) its_source
      ∙ all-at (λ x. source_eq (record { type_no = edge.type_no; key = edge.key }) x ≡ false) (keys_of rows.sources.entries) e.0.source (source_named (keys_of rows.sources.entries) e.0.source) none
      (slice_get-get_or (keys_of rows.sources.entries) e.0.source (record { type_no = 0; key = Id 0 }) known.source))
      rows.edges.entries kept.known

  pub no-target : AllByRecursion (λ x. nat_eq edge.target x ≡ false) (keys_of rows.ids.entries) → IsPlaceOf rows edge None
  no-target none =
      none-if (λ e known is.
      sym (nat_eq_equiv.refl edge.target) ∙ ap (nat_eq edge.target) (ap (λ x. x.target) is)
      ∙ all-at (λ x. nat_eq edge.target x ≡ false) (keys_of rows.ids.entries) e.0.target (get_or (keys_of rows.ids.entries) e.0.target 0) none
      (slice_get-get_or (keys_of rows.ids.entries) e.0.target 0 known.target))
      rows.edges.entries kept.known

-- no rows keep all
pub empty-kept : (rows : Rows) → rows.ids.entries ≡ [] → rows.sources.entries ≡ [] → rows.edges.entries ≡ [] → rows.entity_count ≡ 0 → rows.edge_count ≡ 0
    → IsDistinct nat_eq (keys_of rows.ids.entries) → IsDistinct source_eq (keys_of rows.sources.entries) → rows.touched_ids.items ≡ [] → rows.touched_edges.items ≡ [] → IsRows rows
unfolding IsDistinct
empty-kept rows ids sources edges entity_count edge_count ids_apart sources_apart touched_ids touched_edges = record {
  known = subst (AtEach (λ i e. IsKnown (length rows.sources.entries) (length rows.ids.entries) e)) (sym edges) (λ i e at. cc);
  chains = λ side. subst (λ es. AtEach (λ i e. next_at side e.1 ≡ last_no (has_at side (no_at side e.0)) (take i (keys_of rows.edges.entries))) es) (sym edges) (λ i e at. cc);
  lasts = λ side q. last side q ∙ ap (λ es. last_no (has_at side q) (keys_of es)) (sym edges);
  ids = ids_apart;
  sources = sources_apart;
  edges = subst (λ es. IsDistinct (eq_by_cmp edge_cmp) (keys_of (map (slot_named (keys_of rows.sources.entries) (keys_of rows.ids.entries)) es))) (sym edges) tt;
  few_ids = subst (λ es. length es < 2 ^ 32) (sym ids) (omega arith);
  few_sources = subst (λ es. length es < 2 ^ 32) (sym sources) (omega arith);
  few_edges = subst (λ es. length es < 2 ^ 32) (sym edges) (omega arith);
  entity_count = entity_count ∙ ap (count_of is_entity) (sym ids);
  edge_count = edge_count ∙ ap (count_of (λ slot. is_live slot.state)) (sym edges);
  ended = subst (AtEach (λ i e. is_live e.1.state ≡ true → 0 < e.1.end → contains end_cmp rows.ends (e.1.end, i + 1) ≡ true)) (sym edges) (λ i e at. cc);
  touched_ids =
      subst (λ es. AreTouched {K = ℕ} (λ (node : Node). is_same_entity node.before) es rows.touched_ids.items rows.touched_ids.cap) (sym ids)
      (subst (λ ps. AreTouched {K = ℕ} (λ (node : Node). is_same_entity node.before) [] ps rows.touched_ids.cap) (sym touched_ids) (touched-none (λ (node : Node). is_same_entity node.before) rows.touched_ids.cap));
  touched_edges =
      subst (λ es. AreTouched {K = EdgeNo} (λ (slot : Slot). is_same slot.before) es rows.touched_edges.items rows.touched_edges.cap) (sym edges)
      (subst (λ ps. AreTouched {K = EdgeNo} (λ (slot : Slot). is_same slot.before) [] ps rows.touched_edges.cap) (sym touched_edges) (touched-none (λ (slot : Slot). is_same slot.before) rows.touched_edges.cap));
}
  where
    last : (side : Side) (q : ℕ) → last_at side rows q ≡ 0
    last Target q = ap (λ es. option_map_or (λ e. e.1.last_edge) (slice_get es q) 0) ids
    last From q = ap (λ es. option_map_or (λ e. e.1) (slice_get es q) 0) sources
