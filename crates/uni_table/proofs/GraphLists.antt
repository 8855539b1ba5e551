-- The edges with a number at an end are those of the contents that pass a test.
use Rattle.std.proofs.Common.{◌≡◌, ◌<◌, ℕ, zero, Bool, true, false, not, List, [], ◌∷◌, ◌++◌, Option, None, Some, refl, sym, ◌∙◌, ap, subst, length, map, filter, reverse, slice_get, get_or, nat_eq, if◌then◌else◌, true≢false}
use Rattle.std.specs.Cmp.{IsEquivalence}
use Rattle.std.specs.List.{IsDistinct, AllByRecursion, filter_map, cons_option}
use Rattle.std.specs.List.Sorted.{IsPermutation}
use Rattle.std.specs.Map.{keys_of}
use Rattle.std.specs.Option.{option_map, option_and_then}
use Rattle.std.proofs.lemmas.Cmp.{nat_eq_equiv}
use Rattle.std.proofs.lemmas.List.{nil_from_length}
use Rattle.std.proofs.lemmas.List.Sorted.{length_permutation, IsPermutation-sym, IsPermutation-trans, IsPermutation-reverse, IsPermutation-refl}
use Rattle.std.proofs.lemmas.Option.{slice_get-get_or, get_or_from_slice_get}
use Rattle.chained_rows.specs.Chains.{AtEach}
use Rattle.chained_rows.specs.Ordered.{ordered, kept_if, living}
use Rattle.chained_rows.proofs.Picked.{IsPermutation-picked, filter-ordered, picked}
use Rattle.chained_rows.proofs.Places.{map-agree, at_each-tail}
use Rattle.uni_base.specs.EdgeOrder.{edge_cmp}
use Rattle.uni_base.specs.declared.edge.EdgeRef.{EdgeRef}
use Rattle.uni_base.specs.declared.edge.Held.{Held}
use Rattle.uni_base.specs.declared.edge.Key.{Key}
use Rattle.uni_base.specs.declared.edge.Key.TheVariants.{Id}
use Rattle.uni_table.specs.Added.{Adds}
use Rattle.uni_table.specs.Contents.{starts_at, reaches}
use Rattle.uni_table.specs.GraphKeys.{source_eq, edge_total}
use Rattle.uni_table.specs.GraphRows.{IsRows, IsKnown, contents_of, edge_named, source_named, slot_named, slots_named, held_by, all_held, gone, gone_at, has_at, row_of}
use Rattle.uni_table.specs.Lists.{held_of}
use Rattle.uni_table.specs.declared.command.EdgeRow.{EdgeRow}
use Rattle.uni_table.specs.declared.graph.numbers.Source.{Source}
use Rattle.uni_table.specs.declared.graph.numbers.EdgeNo.{EdgeNo}
use Rattle.uni_table.specs.declared.graph.numbers.Slot.{Slot}
use Rattle.uni_table.specs.declared.graph.numbers.Side.{Side}
use Rattle.uni_table.specs.declared.graph.numbers.Side.TheVariants.{Target, Source as From}
use Rattle.uni_table.specs.declared.graph.rows.Rows.{Rows}
use Rattle.uni_table.proofs.GraphGrown.{known-keys}
use Rattle.uni_table.proofs.GraphNames.{same-place, source_equiv}
use Rattle.uni_table.proofs.GraphPlaces.{all-at, same-number}

-- two ways to pick that agree at each place
pub filter_map-agree : {X Y : Type 0} (f g : X → Option Y) (xs : List X) → AtEach (λ i x. f x ≡ g x) xs → filter_map f xs ≡ filter_map g xs
filter_map-agree f g [] same = refl
filter_map-agree f g (x ∷ xs) same = λ j. cons_option (same zero x refl j) (filter_map-agree f g xs (at_each-tail (λ i y. f y ≡ g y) x xs same) j)

-- a number is that of a key exactly where the keys are equal
place-test : {K : Type 0} {eq : K → K → Bool} → IsEquivalence eq → (ks : List K) (i n : ℕ) (x d : K) → IsDistinct eq ks → slice_get ks i ≡ Some x → n < length ks → nat_eq i n ≡ eq x (get_or ks n d)
place-test {K} {eq} laws ks i n x d apart at below = by (nat_eq i n) (eq x (get_or ks n d)) refl refl
  where
    by : (a b : Bool) → nat_eq i n ≡ a → eq x (get_or ks n d) ≡ b → a ≡ b
    by true true e f = refl
    by false false e f = refl
    by false true e f =
        let same : i ≡ n = same-place laws ks i n x (get_or ks n d) apart at (slice_get-get_or ks n d below) f in
        absurd (true≢false (sym (nat_eq_equiv.refl i) ∙ ap (nat_eq i) same ∙ e))
    by true false e f =
        absurd (true≢false (sym (laws.refl x) ∙ ap (eq x) (sym (get_or_from_slice_get ks i x d at) ∙ ap (λ m. get_or ks m d) (same-number i n e)) ∙ f))

module _ (rows : Rows) (kept : IsRows rows) where
  sources : List Source
  sources = keys_of rows.sources.entries

  names : EdgeNo → EdgeRef
  names = edge_named (keys_of rows.sources.entries) (keys_of rows.ids.entries)

  -- which tests of edges the numbers at an end stand for
  pub source-agrees : (number : ℕ) (key : Key) (q : ℕ) → slice_get (keys_of rows.sources.entries) q ≡ Some (record { type_no = number; key = key })
      → AtEach (λ i e. has_at From q e.0 ≡ starts_at number key (edge_named (keys_of rows.sources.entries) (keys_of rows.ids.entries) e.0)) rows.edges.entries
  source-agrees number key q at i e there =
      place-test source_equiv (keys_of rows.sources.entries) q e.0.source (record { type_no = number; key = key }) (record { type_no = 0; key = Id 0 }) kept.sources at
      (known-keys rows.sources.entries rows.ids.entries e (kept.known i e there)).source

  pub source-fails : (number : ℕ) (key : Key) → AllByRecursion (λ x. source_eq (record { type_no = number; key = key }) x ≡ false) (keys_of rows.sources.entries)
      → AtEach (λ i e. false ≡ starts_at number key (edge_named (keys_of rows.sources.entries) (keys_of rows.ids.entries) e.0)) rows.edges.entries
  source-fails number key none i e there =
      sym (all-at (λ x. source_eq (record { type_no = number; key = key }) x ≡ false) (keys_of rows.sources.entries) e.0.source (source_named (keys_of rows.sources.entries) e.0.source) none
      (slice_get-get_or (keys_of rows.sources.entries) e.0.source (record { type_no = 0; key = Id 0 }) (known-keys rows.sources.entries rows.ids.entries e (kept.known i e there)).source))

  pub target-agrees : (id q : ℕ) → slice_get (keys_of rows.ids.entries) q ≡ Some id
      → AtEach (λ i e. has_at Target q e.0 ≡ reaches id (edge_named (keys_of rows.sources.entries) (keys_of rows.ids.entries) e.0)) rows.edges.entries
  target-agrees id q at i e there =
      place-test nat_eq_equiv (keys_of rows.ids.entries) q e.0.target id 0 kept.ids at (known-keys rows.sources.entries rows.ids.entries e (kept.known i e there)).target

  pub target-fails : (id : ℕ) → AllByRecursion (λ x. nat_eq id x ≡ false) (keys_of rows.ids.entries)
      → AtEach (λ i e. false ≡ reaches id (edge_named (keys_of rows.sources.entries) (keys_of rows.ids.entries) e.0)) rows.edges.entries
  target-fails id none i e there =
      sym (all-at (λ x. nat_eq id x ≡ false) (keys_of rows.ids.entries) e.0.target (get_or (keys_of rows.ids.entries) e.0.target 0) none
      (slice_get-get_or (keys_of rows.ids.entries) e.0.target 0 (known-keys rows.sources.entries rows.ids.entries e (kept.known i e there)).target))

  module _ (has : EdgeNo → Bool) (test : EdgeRef → Bool) (agree : AtEach (λ i e. has e.0 ≡ test (edge_named (keys_of rows.sources.entries) (keys_of rows.ids.entries) e.0)) rows.edges.entries) where
    -- the edges with their audiences, by number
    abbrev pub held_if : EdgeNo × Slot → Option Held
    held_if e = if has e.0 then held_by (slot_named (keys_of rows.sources.entries) (keys_of rows.ids.entries) e) else None

    pick-same : (b : Bool) (k : EdgeRef) (r : Option EdgeRow)
        → (if b then held_by (k, r) else None) ≡ option_map held_of (living (k, option_and_then (λ x. if b then Some x else None) r))
    pick-same true k None = refl
    pick-same true k (Some x) = refl
    pick-same false k None = refl
    pick-same false k (Some x) = refl

    all-picked : filter_map (λ e. if has e.0 then held_by (slot_named (keys_of rows.sources.entries) (keys_of rows.ids.entries) e) else None) rows.edges.entries
        ≡ filter_map (picked edge_total held_of (λ e. test e.0) (slot_named (keys_of rows.sources.entries) (keys_of rows.ids.entries))) rows.edges.entries
    all-picked =
        filter_map-agree (λ e. if has e.0 then held_by (slot_named (keys_of rows.sources.entries) (keys_of rows.ids.entries) e) else None)
        (picked edge_total held_of (λ e. test e.0) (slot_named (keys_of rows.sources.entries) (keys_of rows.ids.entries))) rows.edges.entries
        (λ i e there. ap (λ b. if b then held_by (slot_named (keys_of rows.sources.entries) (keys_of rows.ids.entries) e) else None) (agree i e there)
        ∙ pick-same (test (edge_named (keys_of rows.sources.entries) (keys_of rows.ids.entries) e.0)) (edge_named (keys_of rows.sources.entries) (keys_of rows.ids.entries) e.0) (row_of (keys_of rows.sources.entries) e.1.state e.1.end))

    -- they are those of the contents that pass, in some order
    pub held-permutation : IsPermutation (filter_map (λ e. if has e.0 then held_by (slot_named (keys_of rows.sources.entries) (keys_of rows.ids.entries) e) else None) rows.edges.entries)
        (map held_of (filter (λ e. test e.0) (contents_of rows).edges))
    held-permutation =
        subst (λ xs. IsPermutation xs (map held_of (filter (λ e. test e.0) (contents_of rows).edges))) (sym all-picked)
        (IsPermutation-picked edge_total held_of (λ e. test e.0) (slot_named (keys_of rows.sources.entries) (keys_of rows.ids.entries)) rows.edges.entries kept.edges)

    -- and as many
    pub held-count : length (filter_map (λ e. if has e.0 then held_by (slot_named (keys_of rows.sources.entries) (keys_of rows.ids.entries) e) else None) rows.edges.entries)
        ≡ length (filter (λ e. test e.0) (contents_of rows).edges)
    held-count = sym (length_permutation _ _ held-permutation) ∙ Rattle.std.proofs.lemmas.List.length-map (filter (λ e. test e.0) (contents_of rows).edges) held_of

    kept-same : (b : Bool) (k : EdgeRef) (r : Option EdgeRow) → ◌≡◌ {A = EdgeRef × Option EdgeRow} (if b then (k, None) else (k, r)) (k, option_and_then (λ x. if not b then Some x else None) r)
    kept-same true k None = refl
    kept-same true k (Some x) = refl
    kept-same false k None = refl
    kept-same false k (Some x) = refl

    -- with these marked as gone, the contents are without those that pass
    pub gone-edges : ordered edge_cmp (map (slot_named (keys_of rows.sources.entries) (keys_of rows.ids.entries)) (map (λ e. if has e.0 then gone e else e) rows.edges.entries))
        ≡ filter (λ e. not (test e.0)) (contents_of rows).edges
    gone-edges =
        ap (ordered edge_cmp)
        (Rattle.uni_table.proofs.GraphPlaces.map-map (slot_named (keys_of rows.sources.entries) (keys_of rows.ids.entries)) (λ e. if has e.0 then gone e else e) rows.edges.entries
        ∙ map-agree (λ e. slot_named (keys_of rows.sources.entries) (keys_of rows.ids.entries) (if has e.0 then gone e else e))
        (λ e. kept_if (λ x. not (test x.0)) (slot_named (keys_of rows.sources.entries) (keys_of rows.ids.entries) e)) rows.edges.entries
        (λ i e there. outside (has e.0) e ∙ ap (λ b. if b then (edge_named (keys_of rows.sources.entries) (keys_of rows.ids.entries) e.0, None) else slot_named (keys_of rows.sources.entries) (keys_of rows.ids.entries) e) (agree i e there)
        ∙ kept-same (test (edge_named (keys_of rows.sources.entries) (keys_of rows.ids.entries) e.0)) (edge_named (keys_of rows.sources.entries) (keys_of rows.ids.entries) e.0) (row_of (keys_of rows.sources.entries) e.1.state e.1.end))
        ∙ sym (Rattle.uni_table.proofs.GraphPlaces.map-map (kept_if (λ x. not (test x.0))) (slot_named (keys_of rows.sources.entries) (keys_of rows.ids.entries)) rows.edges.entries))
        ∙ sym (filter-ordered edge_total (λ e. not (test e.0)) (slots_named rows) kept.edges)
      where
        outside : (b : Bool) (e : EdgeNo × Slot) → slot_named (keys_of rows.sources.entries) (keys_of rows.ids.entries) (if b then gone e else e)
            ≡ (if b then (edge_named (keys_of rows.sources.entries) (keys_of rows.ids.entries) e.0, None) else slot_named (keys_of rows.sources.entries) (keys_of rows.ids.entries) e)
        outside true e = refl
        outside false e = refl

  module _ (test : EdgeRef → Bool) (fails : AtEach (λ i e. false ≡ test (edge_named (keys_of rows.sources.entries) (keys_of rows.ids.entries) e.0)) rows.edges.entries) where
    nothing : (es : List (EdgeNo × Slot)) → filter_map (λ e. if false then held_by (slot_named (keys_of rows.sources.entries) (keys_of rows.ids.entries) e) else None) es ≡ []
    nothing [] = refl
    nothing (e ∷ es) = nothing es

    -- where none has the number, none passes
    pub none-pass : length (filter (λ e. test e.0) (contents_of rows).edges) ≡ 0
    none-pass = sym (held-count (λ n. false) test fails) ∙ ap length (nothing rows.edges.entries)

    pub none-gone : filter (λ e. not (test e.0)) (contents_of rows).edges ≡ (contents_of rows).edges
    none-gone = sym (gone-edges (λ n. false) test fails) ∙ ap (λ es. ordered edge_cmp (map (slot_named (keys_of rows.sources.entries) (keys_of rows.ids.entries)) es)) (all rows.edges.entries)
      where
        all : (es : List (EdgeNo × Slot)) → map (λ e. if false then gone e else e) es ≡ es
        all [] = refl
        all (e ∷ es) = ap (λ xs. e ∷ xs) (all es)

    pub none-added : (old : List Held) → Adds old old (map held_of (filter (λ e. test e.0) (contents_of rows).edges))
    none-added old = record {
      added = [];
      is = sym (Rattle.std.proofs.lemmas.List.append-nil old);
      same = subst (λ xs. IsPermutation xs []) (sym (ap (map held_of) (nil_from_length (filter (λ e. test e.0) (contents_of rows).edges) none-pass))) (IsPermutation-refl []);
    }

  -- what a walk adds
  pub walk-added : (side : Side) (q : ℕ) (test : EdgeRef → Bool) → AtEach (λ i e. has_at side q e.0 ≡ test (edge_named (keys_of rows.sources.entries) (keys_of rows.ids.entries) e.0)) rows.edges.entries
      → (old new : List Held) → new ≡ old ++ reverse (all_held rows side q) → Adds old new (map held_of (filter (λ e. test e.0) (contents_of rows).edges))
  walk-added side q test agree old new is = record {
    added = reverse (all_held rows side q);
    is = is;
    same =
        IsPermutation-trans (map held_of (filter (λ e. test e.0) (contents_of rows).edges)) (all_held rows side q) (reverse (all_held rows side q))
        (IsPermutation-sym (all_held rows side q) (map held_of (filter (λ e. test e.0) (contents_of rows).edges)) (held-permutation (has_at side q) test agree)) (IsPermutation-reverse (all_held rows side q));
  }

  -- and what the contents are once the edges of a walk are marked
  pub walk-removed : (new : Rows) (side : Side) (q : ℕ) (test : EdgeRef → Bool) → AtEach (λ i e. has_at side q e.0 ≡ test (edge_named (keys_of rows.sources.entries) (keys_of rows.ids.entries) e.0)) rows.edges.entries
      → new.ids ≡ rows.ids → new.sources ≡ rows.sources → new.edges.entries ≡ map (gone_at side q) rows.edges.entries
      → contents_of new ≡ record (contents_of rows) { edges = filter (λ e. not (test e.0)) (contents_of rows).edges }
  walk-removed new side q test agree ids same edges =
      let all : (contents_of new).edges ≡ filter (λ e. not (test e.0)) (contents_of rows).edges =
      (λ j. ordered edge_cmp (map (slot_named (keys_of (same j).entries) (keys_of (ids j).entries)) (edges j))) ∙ gone-edges (has_at side q) test agree in
      λ j. record { entities = ordered Rattle.std.specs.Ordering.nat_cmp (map Rattle.uni_table.specs.GraphRows.node_named (ids j).entries); edges = all j }
