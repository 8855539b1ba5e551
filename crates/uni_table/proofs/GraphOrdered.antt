-- The changes of edges, as they are made of places in the order of the edges.
use Rattle.std.proofs.Common.{arith, ◌≡◌, ◌%◌, ◌==◌, ℕ, suc, nat_lt, Bool, true, false, if◌then◌else◌, List, [], ◌∷◌, Option, None, Some, refl, sym, ◌∙◌, ap, subst, length, slice_get, nat_eq, ◌<◌}
use Rattle.std.proofs.lemmas.Map.Entries.{length-keys_of}
use Rattle.std.proofs.lemmas.List.Sorted.{length_permutation}
use Rattle.std.proofs.lemmas.Bool.Decides.{nat_tests}
use Rattle.std.proofs.lemmas.Nat.{div-mul-add, mod-mul-add}
use Rattle.std.proofs.lemmas.Option.{slice_get-get_or}
use Rattle.std.specs.List.{IsDistinct, filter_map, cons_option}
use Rattle.std.specs.List.Sorted.{IsPermutation, IsSortedByKey}
use Rattle.std.specs.Map.{keys_of}
use Rattle.std.specs.Option.{option_map, option_map_or, option_and_then}
use Rattle.uni_base.specs.declared.edge.EdgeRef.{EdgeRef}
use Rattle.uni_base.specs.declared.edge.Key.{Key}
use Rattle.uni_base.specs.declared.edge.Key.TheVariants.{Id, Word}
use Rattle.uni_base.specs.EdgeOrder.{edge_cmp}
use Rattle.uni_table.specs.Changes.{AreEdgeChanges, IsEdgeChange}
use Rattle.uni_table.specs.GraphChanges.{AreAffected, change_of, edge_change, edge_change_at, is_affected}
use Rattle.uni_table.specs.GraphKeys.{edge_total, exact_edges}
use Rattle.uni_table.specs.GraphOrder.{HaveChanges, short_no, id_of_no, key_at, key_told, type_told, edge_told, placed, affected_by, affected_at, placed_change}
use Rattle.uni_table.specs.GraphRows.{IsRows, contents_of, published_of, edge_named, source_named}
use Rattle.uni_table.specs.declared.change.EdgeChange.{EdgeChange}
use Rattle.uni_table.specs.declared.graph.numbers.EdgeNo.{EdgeNo}
use Rattle.uni_table.specs.declared.graph.numbers.Slot.{Slot}
use Rattle.uni_table.specs.declared.graph.numbers.Source.{Source}
use Rattle.uni_table.specs.declared.graph.order.PlacedEdge.{PlacedEdge}
use Rattle.uni_table.specs.declared.graph.rows.Rows.{Rows}
use Rattle.uni_table.proofs.GraphChanged.{all-edges}
use Rattle.uni_table.proofs.InOrder.{exact_in_order}
use Rattle.uni_table.proofs.Permuted.{permuted-filter_map}
use Rattle.uni_table.proofs.PickedInOrder.{IsNamed, picked_in_order}

-- the number of a key is within those that a type has
short_below : (key : Key) → short_no key < 281474976710656
short_below (Id id) = by (nat_lt id 281474976710655) refl
  where
    by : (b : Bool) → nat_lt id 281474976710655 ≡ b → (if b then id else 281474976710655) < 281474976710656
    by true e = grind (arith, nat_tests, e)
    by false e = omega arith
short_below (Word text) = omega arith

-- where it is that of an id, it is the key's own
short_meant : (key other : Key) → other ≡ key → option_map_or (λ id. Id id) (id_of_no (short_no key)) other ≡ key
short_meant (Id id) other same = by (nat_lt id 281474976710655)
  where
    by : (b : Bool) → option_map_or (λ n. Id n) (id_of_no (if b then id else 281474976710655)) other ≡ Id id
    by false = same
    by true = own (id == 281474976710655) (id == 0)
      where
        own : (b c : Bool) → option_map_or (λ n. Id n) (if b then None else (if c then None else Some id)) other ≡ Id id
        own true c = same
        own false true = same
        own false false = refl
short_meant (Word text) other same = same

module _ (rows : Rows) where
  abbrev named : EdgeNo × Slot → EdgeRef
  named e = edge_named (keys_of rows.sources.entries) (keys_of rows.ids.entries) e.0

  -- the change of an edge is told by that edge
  told-change : (p : PlacedEdge) → IsNamed (edge_told rows) (λ (c : EdgeChange). c.edge) (placed_change rows) edge_total p
  told-change p c is = by (slice_get rows.edges.entries p.place) is
    where
      by : (o : Option (EdgeNo × Slot)) → option_map (change_of rows (edge_told rows p)) o ≡ Some c → c.edge ≡ edge_told rows p
      by None h = cc
      by (Some e) h = let same : change_of rows (edge_told rows p) e ≡ c = cc in ap (λ (x : EdgeChange). x.edge) (sym same)

  module _ (kept : IsRows rows) where
    -- the edge at a place is told by what it is ordered by
    pub told : (place : ℕ) (e : EdgeNo × Slot) → slice_get rows.edges.entries place ≡ Some e → edge_told rows (placed e.0 place (named e)) ≡ named e
    told place e at =
        let sources = keys_of rows.sources.entries in
        let edge = named e in
        let p = placed e.0 place edge in
        let within : e.0.source < length sources = subst (λ n. e.0.source < n) (sym (length-keys_of rows.sources.entries)) (kept.known place e at).source in
        let source : slice_get sources e.0.source ≡ Some (source_named sources e.0.source) = slice_get-get_or sources e.0.source (record { type_no = 0; key = Id 0 }) within in
        let there : key_at sources p ≡ edge.key = ap (λ (o : Option Source). option_map_or (λ s. s.key) o (Id edge.target)) source in
        let type_no : type_told p ≡ edge.type_no = div-mul-add edge.type_no 281474976710656 (short_no edge.key) (short_below edge.key) in
        let number : p.lead % 281474976710656 ≡ short_no edge.key = mod-mul-add edge.type_no 281474976710656 (short_no edge.key) (short_below edge.key) in
        let key : key_told sources p ≡ edge.key = ap (λ n. option_map_or (λ id. Id id) (id_of_no n) (key_at sources p)) number ∙ short_meant edge.key (key_at sources p) there in
        λ j. record { type_no = type_no j; key = key j; target = edge.target }

    -- so the changes at places are those of the edges there that are affected
    picks : (places : List ℕ) → filter_map (placed_change rows) (filter_map (affected_at rows) places) ≡ filter_map (edge_change_at rows) places
    picks [] = refl
    picks (p ∷ ps) = by (slice_get rows.edges.entries p) refl (picks ps)
      where
        by : (o : Option (EdgeNo × Slot)) → slice_get rows.edges.entries p ≡ o → filter_map (placed_change rows) (filter_map (affected_at rows) ps) ≡ filter_map (edge_change_at rows) ps
            → filter_map (placed_change rows) (cons_option (option_and_then (affected_by rows p) o) (filter_map (affected_at rows) ps))
            ≡ cons_option (option_and_then (edge_change rows) o) (filter_map (edge_change_at rows) ps)
        by None is rest = rest
        by (Some e) is rest = one (is_affected rows e)
          where
            one : (b : Bool) → filter_map (placed_change rows) (cons_option (if b then Some (placed e.0 p (named e)) else None) (filter_map (affected_at rows) ps))
                ≡ cons_option (if b then Some (change_of rows (named e) e) else None) (filter_map (edge_change_at rows) ps)
            one false = rest
            one true =
                ap (λ (o : Option (EdgeNo × Slot)). cons_option (option_map (change_of rows (edge_told rows (placed e.0 p (named e)))) o) (filter_map (placed_change rows) (filter_map (affected_at rows) ps))) is
                ∙ (λ j. cons_option (Some (change_of rows (told p e is j) e)) (rest j))

    -- and each of these has one
    each-changes : (places : List ℕ) → length (filter_map (placed_change rows) (filter_map (affected_at rows) places)) ≡ length (filter_map (affected_at rows) places)
    each-changes [] = refl
    each-changes (p ∷ ps) = by (slice_get rows.edges.entries p) refl (each-changes ps)
      where
        by : (o : Option (EdgeNo × Slot)) → slice_get rows.edges.entries p ≡ o → length (filter_map (placed_change rows) (filter_map (affected_at rows) ps)) ≡ length (filter_map (affected_at rows) ps)
            → length (filter_map (placed_change rows) (cons_option (option_and_then (affected_by rows p) o) (filter_map (affected_at rows) ps)))
            ≡ length (cons_option (option_and_then (affected_by rows p) o) (filter_map (affected_at rows) ps))
        by None is rest = rest
        by (Some e) is rest = one (is_affected rows e)
          where
            one : (b : Bool) → length (filter_map (placed_change rows) (cons_option (if b then Some (placed e.0 p (named e)) else None) (filter_map (affected_at rows) ps)))
                ≡ length (cons_option (if b then Some (placed e.0 p (named e)) else None) (filter_map (affected_at rows) ps))
            one false = rest
            one true =
                ap (λ (o : Option (EdgeNo × Slot)). length (cons_option (option_map (change_of rows (edge_told rows (placed e.0 p (named e)))) o) (filter_map (placed_change rows) (filter_map (affected_at rows) ps)))) is
                ∙ ap suc rest

    pub have-changes : (places : List ℕ) (edges : List PlacedEdge) → IsPermutation (filter_map (affected_at rows) places) edges → HaveChanges rows edges
    have-changes places edges permuted = record {
      kept = kept;
      each =
          length_permutation (filter_map (placed_change rows) (filter_map (affected_at rows) places)) (filter_map (placed_change rows) edges) (permuted-filter_map (placed_change rows) (filter_map (affected_at rows) places) edges permuted)
          ∙ each-changes places ∙ sym (length_permutation (filter_map (affected_at rows) places) edges permuted);
    }

    -- the changes of edges in order, where all that are affected are among them
    pub changes-in-order : (places : List ℕ) → IsDistinct nat_eq places → AreAffected rows places → (edges : List PlacedEdge) → IsPermutation (filter_map (affected_at rows) places) edges
        → IsSortedByKey (edge_told rows) edge_cmp edges → AreEdgeChanges (published_of rows) (contents_of rows) (filter_map (placed_change rows) edges)
    changes-in-order places apart all edges permuted sorted =
        let found = all-edges rows kept places apart all in
        let same : IsPermutation (filter_map (edge_change_at rows) places) (filter_map (placed_change rows) edges) =
        subst (λ (cs : List EdgeChange). IsPermutation cs (filter_map (placed_change rows) edges)) (picks places)
        (permuted-filter_map (placed_change rows) (filter_map (affected_at rows) places) edges permuted) in
        let up = picked_in_order (edge_told rows) (λ (c : EdgeChange). c.edge) (placed_change rows) edge_total told-change edges sorted in
        let exact = exact_in_order (λ (c : EdgeChange). c.edge) edge_total exact_edges (IsEdgeChange (published_of rows) (contents_of rows)) (filter_map (edge_change_at rows) places) (filter_map (placed_change rows) edges)
        found.exact found.apart same up in
        record { exact = exact.0; sorted = exact.1 }
