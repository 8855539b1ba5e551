-- The sources of edges in their order: each once, and all of them.
use Rattle.std.proofs.Common.{arith, ◌≡◌, ◌<◌, ◌+◌, ◌&&◌, ⊎_elim, ℕ, zero, suc, nat_eq, nat_lt, Bool, true, false, List, [], ◌∷◌, Option, None, Some, refl, sym, ◌∙◌, ap, subst, length, map, take, get_or, slice_get, is_some, if◌then◌else◌, true≢false}
use Rattle.std.proofs.lemmas.Bool.Decides.{nat_tests}
use Rattle.std.proofs.lemmas.Cmp.{eq_by_cmp_equiv, nat_cmp_total, on_total, then_total}
use Rattle.std.proofs.lemmas.List.Elements.{All-contains_itself, All-weaker}
use Rattle.std.proofs.lemmas.List.Sorted.{All-permutation, Contains-permutation}
use Rattle.std.proofs.lemmas.Map.Entries.{length-keys_of}
use Rattle.std.proofs.lemmas.Map.Lookups.{CmpEqualImpliesEq, exact_unsigned}
use Rattle.std.proofs.lemmas.Option.{slice_get-get_or, slice_get_within}
use Rattle.std.specs.Cmp.{IsTotalOrder}
use Rattle.std.specs.declared.cmp.Ordering.{Ordering}
use Rattle.std.specs.declared.cmp.Ordering.TheVariants.{Less, Equal, Greater}
use Rattle.std.specs.List.{All, AllByRecursion, Contains, IsDistinct, filter_map, range_with_len}
use Rattle.std.specs.List.Sorted.{IsPermutation, IsSortedByKey, IsStrictlySortedBy}
use Rattle.std.specs.Map.{keys_of}
use Rattle.std.specs.Option.{option_and_then}
use Rattle.std.specs.Ordering.{eq_by_cmp, is_eq, is_lt, nat_cmp, ordering_then}
use Rattle.chained_rows.specs.Chains.{last_no}
use Rattle.uni_base.specs.declared.edge.EdgeRef.{EdgeRef}
use Rattle.uni_base.specs.declared.edge.Key.TheVariants.{Id}
use Rattle.uni_base.specs.EdgeOrder.{edge_cmp, key_cmp, key_cmp-total}
use Rattle.uni_base.specs.KeyHash.{exact_keys}
use Rattle.uni_table.specs.Contents.{has_edge}
use Rattle.uni_table.specs.GraphChanges.{place_of}
use Rattle.uni_table.specs.GraphKeys.{source_eq}
use Rattle.uni_table.specs.GraphOrder.{edge_told, placed_at, type_told}
use Rattle.uni_table.specs.GraphRows.{IsRows, contents_of, edge_named, has_at, last_at, source_named}
use Rattle.uni_table.specs.GraphSources.{AreLasts, last_at_place, last_from, of_types, source_told}
use Rattle.uni_table.specs.Sources.{source_cmp, source_from}
use Rattle.uni_table.specs.declared.graph.numbers.EdgeNo.{EdgeNo}
use Rattle.uni_table.specs.declared.graph.numbers.Side.TheVariants.{Source as From}
use Rattle.uni_table.specs.declared.graph.numbers.Slot.{Slot}
use Rattle.uni_table.specs.declared.graph.numbers.Source.{Source}
use Rattle.uni_table.specs.declared.graph.order.PlacedEdge.{PlacedEdge}
use Rattle.uni_table.specs.declared.graph.rows.Rows.{Rows}
use Rattle.uni_table.proofs.Compared.{is_eq-nat_cmp, is_eq-then}
use Rattle.uni_table.proofs.GraphChanged.{edge-none, edge-place, picked-apart, picked-from, picked-into}
use Rattle.uni_table.proofs.GraphOrdered.{told}
use Rattle.uni_table.proofs.GraphPlaces.{entry-at, key-at, same-number}
use Rattle.uni_table.proofs.GraphWalks.{along-passes, along-start, along-within, last_no-past, start}
use Rattle.uni_table.proofs.InOrder.{exact_in_order}
use Rattle.uni_table.proofs.Ranges.{in_range, range_apart}

-- ---- the order of types and keys

pub source_total : IsTotalOrder source_cmp
source_total = then_total (on_total (λ s. s.type_no) nat_cmp_total) (on_total (λ s. s.key) key_cmp-total)

pub exact_source_cmp : CmpEqualImpliesEq source_cmp
exact_source_cmp a b same = types (nat_cmp a.type_no b.type_no) refl same
  where
    types : (o : Ordering) → nat_cmp a.type_no b.type_no ≡ o → ordering_then o (key_cmp a.key b.key) ≡ Equal → a ≡ b
    types Less at rest = cc
    types Equal at rest = λ j. record { type_no = exact_unsigned a.type_no b.type_no at j; key = exact_keys a.key b.key rest j }
    types Greater at rest = cc

same_test : (a b : Source) → source_eq a b ≡ eq_by_cmp source_cmp a b
same_test a b = sym (is_eq-then (nat_cmp a.type_no b.type_no) (key_cmp a.key b.key) ∙ ap (λ t. t && is_eq (key_cmp a.key b.key)) (is_eq-nat_cmp a.type_no b.type_no))

-- edges in order start at types and keys in order
starts_rise : (a b : EdgeRef) → is_lt (edge_cmp a b) ≡ false → is_lt (source_cmp (source_from a) (source_from b)) ≡ false
starts_rise a b up = by (nat_cmp a.type_no b.type_no) (key_cmp a.key b.key) up
  where
    by : (t k : Ordering) → is_lt (ordering_then t (ordering_then k (nat_cmp a.target b.target))) ≡ false → is_lt (ordering_then t k) ≡ false
    by Less k h = h
    by Greater k h = refl
    by Equal Less h = h
    by Equal Equal h = refl
    by Equal Greater h = refl

-- ---- the last edge of a source

module _ (rows : Rows) (kept : IsRows rows) where
  abbrev sources : List Source
  sources = keys_of rows.sources.entries

  abbrev named : EdgeNo × Slot → EdgeRef
  named e = edge_named (keys_of rows.sources.entries) (keys_of rows.ids.entries) e.0

  abbrev At : ℕ → EdgeNo × Slot → Type 0
  At i e = slice_get rows.edges.entries i ≡ Some e

  -- an edge starts at the source of its number
  starts : (i : ℕ) (e : EdgeNo × Slot) → At i e → slice_get sources e.0.source ≡ Some (source_from (named e))
  starts i e at = slice_get-get_or sources e.0.source (record { type_no = 0; key = Id 0 }) (subst (λ n. e.0.source < n) (sym (length-keys_of rows.sources.entries)) (kept.known i e at).source)

  -- a last edge of a source
  pub record IsLastOf (types q : ℕ) (last : PlacedEdge) : Type 0 where
    pub number : last.source ≡ q
    pub at : slice_get sources q ≡ Some (source_told rows last)
    pub declared : (source_told rows last).type_no < types

  is_below : (x types : ℕ) → nat_lt x types ≡ true → x < types
  is_below x types e = grind (arith, nat_tests, e)

  tells_below : (x types : ℕ) → x < types → nat_lt x types ≡ true
  tells_below x types e = grind (arith, nat_tests, e)

  pub last_is : (types q : ℕ) (last : PlacedEdge) → last_from rows types q ≡ Some last → IsLastOf types q last
  last_is types q last is = by (last_at From rows q) refl is
    where
      placed : (place : ℕ) → last_at From rows q ≡ suc place → (e : EdgeNo × Slot) → At place e → of_types types (placed_at rows place e.0) ≡ Some last → IsLastOf types q last
      placed place here e at h = next (nat_lt (type_told (placed_at rows place e.0)) types) refl h
        where
          passes : has_at From q e.0 ≡ true
          passes = along-passes rows kept From q (last_at From rows q) place here (along-start rows kept From q) e at

          number : e.0.source ≡ q
          number = sym (same-number q e.0.source passes)

          next : (b : Bool) → nat_lt (type_told (placed_at rows place e.0)) types ≡ b → (if b then Some (placed_at rows place e.0) else None) ≡ Some last → IsLastOf types q last
          next false low g = cc
          next true low g =
              let same : placed_at rows place e.0 ≡ last = cc in
              subst (IsLastOf types q) same (record {
                number = number;
                at = ap (slice_get sources) (sym number) ∙ starts place e at ∙ ap (λ (x : EdgeRef). Some (source_from x)) (sym (told rows kept place e at));
                declared = is_below (type_told (placed_at rows place e.0)) types low;
              })

      by : (n : ℕ) → last_at From rows q ≡ n → option_and_then (last_at_place rows types) (place_of n) ≡ Some last → IsLastOf types q last
      by zero here h = cc
      by (suc place) here h = edge (slice_get rows.edges.entries place) refl h
        where
          edge : (o : Option (EdgeNo × Slot)) → slice_get rows.edges.entries place ≡ o → option_and_then (λ e. of_types types (placed_at rows place e.0)) o ≡ Some last → IsLastOf types q last
          edge None at g = cc
          edge (Some e) at g = placed place here e at g

  -- where an edge starts there is one
  pub last_there : (types i : ℕ) (e : EdgeNo × Slot) → At i e → (named e).type_no < types → (last : PlacedEdge) × (last_from rows types e.0.source ≡ Some last) × (source_told rows last ≡ source_from (named e))
  last_there types i e at declared = by (last_at From rows e.0.source) refl
    where
      q : ℕ
      q = e.0.source

      itself : (n : ℕ) → nat_eq n n ≡ true
      itself n = grind (arith, nat_tests)

      by : (n : ℕ) → last_at From rows q ≡ n → (last : PlacedEdge) × (last_from rows types q ≡ Some last) × (source_told rows last ≡ source_from (named e))
      by zero none =
          let passed = last_no-past (has_at From q) (keys_of rows.edges.entries) (length rows.edges.entries) i e.0 (key-at rows.edges.entries i e at) in
          let first : last_no (has_at From q) (take (length rows.edges.entries) (keys_of rows.edges.entries)) ≡ 0 = sym (start rows kept From q) ∙ none in
          absurd (true≢false (sym (itself q) ∙ passed (slice_get_within rows.edges.entries i e at) (omega (arith, first))))
      by (suc place) here =
          let along = along-start rows kept From q in
          let f = entry-at rows.edges.entries place (along-within rows kept From q (last_at From rows q) place here along) in
          let number : f.0.0.source ≡ q = sym (same-number q f.0.0.source (along-passes rows kept From q (last_at From rows q) place here along f.0 f.1)) in
          let last = placed_at rows place f.0.0 in
          let source : source_told rows last ≡ source_from (named e) =
          ap source_from (told rows kept place f.0 f.1) ∙ ap (λ n. source_named sources n) number in
          let low : nat_lt (type_told last) types ≡ true = tells_below (type_told last) types (subst (λ (s : Source). s.type_no < types) (sym source) declared) in (
            last,
            ap (λ n. option_and_then (last_at_place rows types) (place_of n)) here ∙ ap (option_and_then (λ (x : EdgeNo × Slot). of_types types (placed_at rows place x.0))) f.1
                ∙ ap (λ b. if b then Some last else None) low,
            source,
          )

  -- ---- all of them

  abbrev pub all_lasts : ℕ → List PlacedEdge
  all_lasts types = filter_map (last_from rows types) (range_with_len 0 (length rows.sources.entries))

  module _ (types : ℕ) (lasts : List PlacedEdge) (same : IsPermutation (all_lasts types) lasts) where
    each_last : All (λ (last : PlacedEdge). (q : ℕ) × IsLastOf types q last) lasts
    each_last =
        All-weaker (Contains lasts) (λ (last : PlacedEdge). (q : ℕ) × IsLastOf types q last)
        (λ last there.
        let p = picked-from (last_from rows types) (range_with_len 0 (length rows.sources.entries)) last (Contains-permutation lasts (all_lasts types) last (Rattle.std.proofs.lemmas.List.Sorted.IsPermutation-sym (all_lasts types) lasts same) there) in
        (p.0, last_is types p.0 last p.2)) lasts (All-contains_itself lasts)

    pub are_lasts : AreLasts rows lasts
    are_lasts = record {
      kept = kept;
      numbered =
          All-weaker (λ (last : PlacedEdge). (q : ℕ) × IsLastOf types q last) (λ last. slice_get sources last.source ≡ Some (source_told rows last))
          (λ last of. ap (slice_get sources) of.1.number ∙ of.1.at) lasts each_last;
    }

    pub are_declared : All (λ (last : PlacedEdge). (source_told rows last).type_no < types) lasts
    are_declared = All-weaker (λ (last : PlacedEdge). (q : ℕ) × IsLastOf types q last) (λ last. (source_told rows last).type_no < types) (λ last of. of.1.declared) lasts each_last

    sources_apart : IsDistinct (eq_by_cmp source_cmp) sources
    sources_apart = subst (λ eq. IsDistinct eq sources) (λ j a b. same_test a b j) kept.sources

    lasts_apart : IsDistinct (eq_by_cmp source_cmp) (map (source_told rows) (all_lasts types))
    lasts_apart =
        picked-apart (eq_by_cmp_equiv source_total) sources sources_apart (last_from rows types) (source_told rows) (λ q last is. (last_is types q last is).at)
        (range_with_len 0 (length rows.sources.entries)) (range_apart 0 (length rows.sources.entries))

    pub are_rising : IsSortedByKey (edge_told rows) edge_cmp lasts → IsStrictlySortedBy source_cmp (map (source_told rows) lasts)
    are_rising sorted =
        (exact_in_order (source_told rows) source_total exact_source_cmp (Contains (all_lasts types)) (all_lasts types) lasts (λ last. ((λ there. there), (λ there. there))) lasts_apart same
        (λ k d low high. starts_rise (edge_told rows (get_or lasts (k + 1) d)) (edge_told rows (get_or lasts k d)) (sorted k d low high))).1

    pub are_whole : (edge : EdgeRef) → has_edge (contents_of rows) edge ≡ true → edge.type_no < types → Contains (map (source_told rows) lasts) (source_from edge)
    are_whole edge there declared = ⊎_elim found missing (edge-place rows kept edge)
      where
        missing : Rattle.std.proofs.lemmas.Map.NonePasses (Rattle.std.specs.BTreeMap.is_at (edge_cmp edge)) (Rattle.uni_table.specs.GraphRows.slots_named rows) → Contains (map (source_told rows) lasts) (source_from edge)
        missing none = absurd (true≢false (sym there ∙ ap is_some (edge-none rows kept edge none).0))

        found : (i : ℕ) × (e : EdgeNo × Slot) × (slice_get rows.edges.entries i ≡ Some e) × (edge_named (keys_of rows.sources.entries) (keys_of rows.ids.entries) e.0 ≡ edge) → Contains (map (source_told rows) lasts) (source_from edge)
        found p =
            let e = p.1 in
            let last = last_there types p.0 e p.2 (subst (λ (x : EdgeRef). x.type_no < types) (sym p.3) declared) in
            let among = picked-into (last_from rows types) (range_with_len 0 (length rows.sources.entries)) e.0.source last.0 (in_range (length rows.sources.entries) e.0.source (kept.known p.0 e p.2).source) last.1 in
            subst (Contains (map (source_told rows) lasts)) (last.2 ∙ ap source_from p.3)
            (mapped (source_told rows) lasts last.0 (Contains-permutation (all_lasts types) lasts last.0 same among))
          where
            mapped : {X Y : Type 0} (f : X → Y) (xs : List X) (x : X) → Contains xs x → Contains (map f xs) (f x)
            mapped f [] x h = absurd (omega (arith, h.1))
            mapped f (y ∷ ys) x (zero, below, at) = (zero, omega arith, ap f at)
            mapped f (y ∷ ys) x (suc k, below, at) = let later = mapped f ys x (k, omega (arith, below), at) in (suc later.0, omega (arith, later.1), later.2)
