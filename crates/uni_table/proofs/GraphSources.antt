-- The edges of a source by number, and what they lead to.
use Rattle.std.proofs.Common.{◌≡◌, ℕ, Bool, true, false, List, [], ◌∷◌, Option, None, Some, refl, sym, ◌∙◌, ap, subst, length, map, filter, reverse, slice_get, if◌then◌else◌}
use Rattle.std.proofs.lemmas.List.Sorted.{IsPermutation-trans, IsPermutation-sym, IsPermutation-reverse}
use Rattle.std.specs.List.{AllByRecursion, filter_map, cons_option}
use Rattle.std.specs.List.Sorted.{IsPermutation}
use Rattle.std.specs.Map.{keys_of}
use Rattle.std.specs.Option.{option_and_then, option_map}
use Rattle.chained_rows.specs.Chains.{AtEach}
use Rattle.chained_rows.proofs.Places.{at_each-tail}
use Rattle.uni_base.specs.declared.edge.Audience.{Audience}
use Rattle.uni_table.specs.Contents.{starts_at}
use Rattle.uni_table.specs.GraphRows.{IsRows, IsKnown, IsCircleKnown, all_held, audience_named, contents_of, edge_named, has_at, held_at, held_by, slot_named}
use Rattle.uni_table.specs.GraphSources.{all_ends, doc_by, doc_in, end_at, far_end, led_to}
use Rattle.uni_table.specs.Lists.{held_of}
use Rattle.uni_table.specs.Ranked.{doc_at}
use Rattle.uni_table.specs.Targets.{target_of}
use Rattle.uni_table.specs.declared.command.EntityRow.{EntityRow}
use Rattle.uni_table.specs.declared.graph.numbers.EdgeNo.{EdgeNo}
use Rattle.uni_table.specs.declared.graph.numbers.Side.TheVariants.{Source as From}
use Rattle.uni_table.specs.declared.graph.numbers.Slot.{Slot}
use Rattle.uni_table.specs.declared.graph.numbers.Source.{Source}
use Rattle.uni_table.specs.declared.graph.rows.Rows.{Rows}
use Rattle.uni_table.specs.declared.graph.sources.FarEnd.{FarEnd}
use Rattle.uni_table.proofs.GraphChanged.{entity-now, target-at}
use Rattle.uni_table.proofs.GraphLists.{held-permutation, source-agrees}
use Rattle.uni_table.proofs.Permuted.{permuted-filter_map}

-- an edge has the number of the source, or is none of its edges
pub end-none : (q : ℕ) (e : EdgeNo × Slot) → has_at From q e.0 ≡ false → end_at q e ≡ None
end-none q e fails = ap (λ b. if b then Some (far_end e) else None) fails

pub end-here : (q : ℕ) (e : EdgeNo × Slot) → has_at From q e.0 ≡ true → end_at q e ≡ Some (far_end e)
end-here q e passes = ap (λ b. if b then Some (far_end e) else None) passes

module _ (rows : Rows) (kept : IsRows rows) where
  sources : List Source
  sources = keys_of rows.sources.entries

  ids : List ℕ
  ids = keys_of rows.ids.entries

  -- ---- the circles of edges are known

  known-from : (q : ℕ) (es : List (EdgeNo × Slot)) → AtEach (λ i e. IsKnown (length rows.sources.entries) (length rows.ids.entries) e) es → AllByRecursion (λ (end : FarEnd). IsCircleKnown (length rows.sources.entries) end.state) (filter_map (end_at q) es)
  known-from q [] known = tt
  known-from q (e ∷ es) known = by (has_at From q e.0) (known-from q es (at_each-tail (λ i x. IsKnown (length rows.sources.entries) (length rows.ids.entries) x) e es known))
    where
      by : (b : Bool) → AllByRecursion (λ (end : FarEnd). IsCircleKnown (length rows.sources.entries) end.state) (filter_map (end_at q) es)
          → AllByRecursion (λ (end : FarEnd). IsCircleKnown (length rows.sources.entries) end.state) (cons_option (if b then Some (far_end e) else None) (filter_map (end_at q) es))
      by false later = later
      by true later = ((known 0 e refl).circle, later)

  -- ---- what an edge leads to is what its name does

  module _ (i : ℕ) (e : EdgeNo × Slot) (at : slice_get rows.edges.entries i ≡ Some e) where
    -- at its place in rank order
    doc-named : doc_by rows e.0.target ≡ doc_at (contents_of rows) (edge_named (keys_of rows.sources.entries) (keys_of rows.ids.entries) e.0).target
    doc-named =
        let t = target-at rows kept i e at in
        ap (option_and_then doc_in) t.1
        ∙ ap (λ (r : Option EntityRow). option_map (λ (row : EntityRow). record { rank = row.rank; id = t.0.0 }) r) (sym (entity-now rows kept e.0.target t.0.0 t.0.1 t.1))
        ∙ ap (doc_at (contents_of rows)) t.2

    -- whatever its state
    led-named : led_to rows (far_end e) ≡ option_and_then (target_of (contents_of rows)) (held_by (slot_named (keys_of rows.sources.entries) (keys_of rows.ids.entries) e))
    led-named = by (audience_named (keys_of rows.sources.entries) e.1.state)
      where
        by : (o : Option Audience)
            → option_and_then (λ audience. option_map (λ doc. record { doc = doc; audience = audience }) (doc_by rows e.0.target)) o
            ≡ option_and_then (target_of (contents_of rows)) (held_by (edge_named (keys_of rows.sources.entries) (keys_of rows.ids.entries) e.0, option_map (λ audience. record { audience = audience; end = e.1.end }) o))
        by None = refl
        by (Some audience) = ap (option_map (λ doc. record { doc = doc; audience = audience })) doc-named

    led-at : (q : ℕ) → option_and_then (led_to rows) (end_at q e) ≡ option_and_then (target_of (contents_of rows)) (held_at rows From q e)
    led-at q = by (has_at From q e.0)
      where
        by : (b : Bool) → option_and_then (led_to rows) (if b then Some (far_end e) else None)
            ≡ option_and_then (target_of (contents_of rows)) (if b then held_by (slot_named (keys_of rows.sources.entries) (keys_of rows.ids.entries) e) else None)
        by true = led-named
        by false = refl

module _ {X Y Z : Type 0} where
  -- what is picked off what is picked
  pub picked-again : (f : X → Option Y) (g : Y → Option Z) (xs : List X) → filter_map g (filter_map f xs) ≡ filter_map (λ x. option_and_then g (f x)) xs
  picked-again f g [] = refl
  picked-again f g (x ∷ xs) = by (f x) ∙ ap (cons_option (option_and_then g (f x))) (picked-again f g xs)
    where
      by : (o : Option Y) → filter_map g (cons_option o (filter_map f xs)) ≡ cons_option (option_and_then g o) (filter_map g (filter_map f xs))
      by None = refl
      by (Some y) = refl

pub ends-known : (rows : Rows) → IsRows rows → (q : ℕ) → AllByRecursion (λ (end : FarEnd). IsCircleKnown (length rows.sources.entries) end.state) (all_ends rows q)
ends-known rows kept q = known-from rows kept q rows.edges.entries kept.known

-- the edges of a number lead to what those of its type and key lead to
pub targets-led : (rows : Rows) (kept : IsRows rows) (q : ℕ) → filter_map (led_to rows) (all_ends rows q) ≡ filter_map (target_of (contents_of rows)) (all_held rows From q)
targets-led rows kept q =
    picked-again (end_at q) (led_to rows) rows.edges.entries
    ∙ Rattle.uni_table.proofs.GraphLists.filter_map-agree (λ e. option_and_then (led_to rows) (end_at q e)) (λ e. option_and_then (target_of (contents_of rows)) (held_at rows From q e)) rows.edges.entries (λ i e at. led-at rows kept i e at q)
    ∙ sym (picked-again (held_at rows From q) (target_of (contents_of rows)) rows.edges.entries)

-- in whichever order they are read
pub all-targets : (rows : Rows) (kept : IsRows rows) (q : ℕ) (source : Source) → slice_get (keys_of rows.sources.entries) q ≡ Some source → (ends : List FarEnd) → ends ≡ reverse (all_ends rows q)
    → IsPermutation (filter_map (target_of (contents_of rows)) (map held_of (filter (λ e. starts_at source.type_no source.key e.0) (contents_of rows).edges))) (filter_map (led_to rows) ends)
all-targets rows kept q source at ends is =
    let held = all_held rows From q in
    let from = map held_of (filter (λ e. starts_at source.type_no source.key e.0) (contents_of rows).edges) in
    let table = contents_of rows in
    let same : IsPermutation from held = IsPermutation-sym held from (held-permutation rows kept (has_at From q) (starts_at source.type_no source.key) (source-agrees rows kept source.type_no source.key q at)) in
    let backwards : IsPermutation (filter_map (led_to rows) (all_ends rows q)) (filter_map (led_to rows) ends) =
    permuted-filter_map (led_to rows) (all_ends rows q) ends (subst (IsPermutation (all_ends rows q)) (sym is) (IsPermutation-reverse (all_ends rows q))) in
    IsPermutation-trans (filter_map (target_of table) from) (filter_map (target_of table) held) (filter_map (led_to rows) ends)
    (permuted-filter_map (target_of table) from held same)
    (subst (λ ts. IsPermutation ts (filter_map (led_to rows) ends)) (targets-led rows kept q) backwards)
