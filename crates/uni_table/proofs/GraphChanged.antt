-- Which entities and edges differ, by their rows.
use Rattle.std.proofs.Common.{◌≡◌, ◌≢◌, ◌⊎◌, ◌<◌, ◌==◌, ◌||◌, not, if◌then◌else◌, inl, inr, ⊎_elim, ℕ, zero, suc, Bool, true, false, List, [], ◌∷◌, Option, None, Some, refl, sym, ◌∙◌, ap, subst, length, map, slice_get, nat_eq, arith, true≢false}
use Rattle.std.specs.List.{AllByRecursion, Contains, IsDistinct, filter_map, cons_option, range_with_len}
use Rattle.std.specs.Map.{keys_of, lookup}
use Rattle.std.specs.BTreeMap.{is_at}
use Rattle.std.specs.Cmp.{IsEquivalence, nat_cmp_total}
use Rattle.std.specs.Option.{option_map, option_map_or, option_and_then, IsSome}
use Rattle.std.specs.Ordering.{nat_cmp, eq_by_cmp}
use Rattle.std.proofs.lemmas.Bool.Decides.{nat_tests}
use Rattle.std.proofs.lemmas.Cmp.{eq_by_cmp_equiv}
use Rattle.std.proofs.lemmas.Map.{NonePasses, lookup-none, none_passes_from_lookup}
use Rattle.std.proofs.lemmas.Map.Entries.{length-keys_of, lookup_from_place, place_from_lookup}
use Rattle.std.proofs.lemmas.Map.Made.{lookup-map_values, keys_of-map_values}
use Rattle.std.proofs.lemmas.Option.{slice_get-map, slice_get-get_or, get_or_from_slice_get, slice_get_within}
use Rattle.chained_rows.proofs.Ordered.{lookup-ordered, joined}
use Rattle.uni_base.specs.declared.entity.Rank.{Rank}
use Rattle.uni_base.specs.declared.edge.EdgeRef.{EdgeRef}
use Rattle.uni_base.specs.EdgeOrder.{edge_cmp}
use Rattle.uni_table.specs.Changes.{HasEntityChanges, HasEdgeChanges, IsEntityChange, IsEdgeChange, rank_at}
use Rattle.uni_table.specs.Contents.{empty, entity_at, edge_at}
use Rattle.uni_table.specs.GraphChanges.{AreAffected, entity_change, entity_change_at, entity_put, put_at, edge_change, edge_change_at, change_of, is_other_entity, is_changed_entity, is_other, is_changed, is_affected, no_ranks, rank_differs, rank_of, ranks_at, ranks_of, moved_at}
use Rattle.uni_table.specs.GraphKeys.{source_eq, edge_total, exact_edges}
use Rattle.uni_table.specs.GraphRows.{IsRows, IsCircleKnown, IsBeforeKnown, contents_of, published_of, slots_named, slot_named, slot_before, node_before, entity_before, entity_then_of, row_of, row_before, edge_named, source_named, circle_named, is_same_entity, is_live}
use Rattle.uni_table.specs.declared.change.EntityChange.{EntityChange}
use Rattle.uni_table.specs.declared.change.EdgeChange.{EdgeChange}
use Rattle.uni_table.specs.declared.command.EntityRow.{EntityRow}
use Rattle.uni_table.specs.declared.command.EdgeRow.{EdgeRow}
use Rattle.uni_table.specs.declared.graph.numbers.Before.{Before}
use Rattle.uni_table.specs.declared.graph.numbers.Before.TheVariants as before
use Rattle.uni_table.specs.declared.graph.numbers.EntityBefore.{EntityBefore}
use Rattle.uni_table.specs.declared.graph.numbers.EntityBefore.TheVariants as entity_then
use Rattle.uni_table.specs.declared.graph.numbers.EdgeNo.{EdgeNo}
use Rattle.uni_table.specs.declared.graph.numbers.Node.{Node}
use Rattle.uni_table.specs.declared.graph.numbers.Slot.{Slot}
use Rattle.uni_table.specs.declared.graph.numbers.Source.{Source}
use Rattle.uni_table.specs.declared.graph.numbers.SlotState.{SlotState}
use Rattle.uni_table.specs.declared.graph.numbers.SlotState.TheVariants.{Gone, Public, Only, Circle}
use Rattle.uni_table.specs.declared.graph.rows.Rows.{Rows}
use Rattle.uni_table.proofs.GraphEdges.{edge-found, edge-missing, slot-at}
use Rattle.uni_table.proofs.GraphEntities.{entity-found, entity-there}
use Rattle.uni_table.proofs.GraphLed.{affected-cases}
use Rattle.uni_table.proofs.GraphNames.{same-place, source_equiv}
use Rattle.uni_table.proofs.GraphPlaces.{entry-at, key-at, same-number}
use Rattle.uni_table.proofs.Compared.{equal_from}
use Rattle.uni_table.proofs.Ranges.{in_range, range_apart}
use Rattle.uni_table.proofs.TouchedRows.{agree, nat_equiv}

module _ {X Y : Type 0} (f : X → Option Y) where
  -- what is picked off a list is picked off one of its items
  pub picked-from : (xs : List X) (y : Y) → Contains (filter_map f xs) y → (x : X) × Contains xs x × (f x ≡ Some y)
  picked-from [] y there = absurd (omega (arith, there.1))
  picked-from (x ∷ xs) y there = by (f x) refl there (picked-from xs y)
    where
      later : (z : X) × Contains xs z × (f z ≡ Some y) → (z : X) × Contains (x ∷ xs) z × (f z ≡ Some y)
      later rest = (rest.0, (suc rest.1.0, omega (arith, rest.1.1), rest.1.2), rest.2)

      by : (o : Option Y) → f x ≡ o → Contains (cons_option o (filter_map f xs)) y → (Contains (filter_map f xs) y → (z : X) × Contains xs z × (f z ≡ Some y)) → (z : X) × Contains (x ∷ xs) z × (f z ≡ Some y)
      by None is h more = later (more h)
      by (Some z) is (zero, below, at) more = (x, (zero, omega arith, refl), is ∙ ap Some at)
      by (Some z) is (suc k, below, at) more = later (more (k, omega (arith, below), at))

  pub picked-into : (xs : List X) (x : X) (y : Y) → Contains xs x → f x ≡ Some y → Contains (filter_map f xs) y
  picked-into [] x y there is = absurd (omega (arith, there.1))
  picked-into (z ∷ zs) x y (zero, below, at) is = by (f z) (ap f at ∙ is)
    where
      by : (o : Option Y) → o ≡ Some y → Contains (cons_option o (filter_map f zs)) y
      by None h = cc
      by (Some w) h = let same : w ≡ y = cc in (zero, omega arith, same)
  picked-into (z ∷ zs) x y (suc k, below, at) is = by (f z) (picked-into zs x y (k, omega (arith, below), at) is)
    where
      by : (o : Option Y) → Contains (filter_map f zs) y → Contains (cons_option o (filter_map f zs)) y
      by None h = h
      by (Some w) h = (suc h.0, omega (arith, h.1), h.2)

-- keys at two places of keys that are apart
keys-apart : {K : Type 0} {eq : K → K → Bool} → IsEquivalence eq → (ks : List K) → IsDistinct eq ks → (i j : ℕ) (x y : K) → slice_get ks i ≡ Some x → slice_get ks j ≡ Some y → nat_eq i j ≡ false → eq x y ≡ false
keys-apart {K} {eq} laws ks apart i j x y at there differ = by (eq x y) refl
  where
    by : (b : Bool) → eq x y ≡ b → eq x y ≡ false
    by false is = is
    by true is = absurd (true≢false (sym (nat_equiv.refl i) ∙ ap (nat_eq i) (same-place laws ks i j x y apart at there is) ∙ differ))

module _ {C K : Type 0} {eq : K → K → Bool} (laws : IsEquivalence eq) (ks : List K) (apart : IsDistinct eq ks) (f : ℕ → Option C) (name : C → K)
    (named : (i : ℕ) (c : C) → f i ≡ Some c → slice_get ks i ≡ Some (name c)) where
  heads : (p : ℕ) (c : C) → f p ≡ Some c → (ps : List ℕ) → AllByRecursion (λ q. nat_eq p q ≡ false) ps → AllByRecursion (λ y. eq (name c) y ≡ false) (map name (filter_map f ps))
  heads p c is [] all = tt
  heads p c is (q ∷ qs) all = by (f q) refl (heads p c is qs all.1)
    where
      by : (o : Option C) → f q ≡ o → AllByRecursion (λ y. eq (name c) y ≡ false) (map name (filter_map f qs)) → AllByRecursion (λ y. eq (name c) y ≡ false) (map name (cons_option o (filter_map f qs)))
      by None at rest = rest
      by (Some d) at rest = (keys-apart laws ks apart p q (name c) (name d) (named p c is) (named q d at) all.0, rest)

  -- what is picked off places that are apart has names that are apart
  pub picked-apart : (places : List ℕ) → IsDistinct nat_eq places → IsDistinct eq (map name (filter_map f places))
  unfolding IsDistinct
  picked-apart [] distinct = tt
  picked-apart (p ∷ ps) distinct = by (f p) refl (picked-apart ps distinct.1)
    where
      by : (o : Option C) → f p ≡ o → IsDistinct eq (map name (filter_map f ps)) → IsDistinct eq (map name (cons_option o (filter_map f ps)))
      by None at rest = rest
      by (Some c) at rest = (heads p c at ps distinct.0, rest)

entity-touched-by : (b : EntityBefore) (row : Option EntityRow) → is_other_entity b row ≡ true → is_same_entity b ≡ false
entity-touched-by entity_then.Same row is = cc
entity-touched-by entity_then.Absent row is = refl
entity-touched-by (entity_then.Present old) row is = refl

-- ends that are told apart
equal-end : (end until : ℕ) → not (end == until) ≡ false → end ≡ until
equal-end end until is = grind (arith, nat_tests)

other-end : (end until : ℕ) → until ≡ end → not (end == until) ≡ true → ⊥
other-end end until value is = true≢false (sym is ∙ ap not (let same : (end == until) ≡ true = grind (arith, nat_tests) in same))

-- rows and their ranks that differ
same-rank : (a b : Rank) → (a.0 == b.0) ≡ true → a ≡ b
same-rank a b is = let value : a.0 ≡ b.0 = grind (arith, nat_tests) in λ j. record { 0 = value j }

equal-itself : (n : ℕ) → (n == n) ≡ true
equal-itself n = grind (arith, nat_tests)

entity-same : (b : EntityBefore) (row : Option EntityRow) → is_other_entity b row ≡ false → entity_then_of b row ≡ row
entity-same entity_then.Same row is = refl
entity-same entity_then.Absent None is = refl
entity-same entity_then.Absent (Some row) is = cc
entity-same (entity_then.Present old) None is = cc
entity-same (entity_then.Present old) (Some row) is = by (old.vertical == row.vertical) refl (old.rank.0 == row.rank.0) refl is
  where
    by : (v : Bool) → (old.vertical == row.vertical) ≡ v → (r : Bool) → (old.rank.0 == row.rank.0) ≡ r → (not v || not r) ≡ false → Some old ≡ Some row
    by true vertical true rank h =
        let v : old.vertical ≡ row.vertical = grind (arith, nat_tests) in
        let r : old.rank ≡ row.rank = same-rank old.rank row.rank rank in
        λ j. Some (record { vertical = v j; rank = r j })
    by true vertical false rank h = cc
    by false vertical r rank h = cc

entity-differs : (b : EntityBefore) (row : Option EntityRow) → is_other_entity b row ≡ true → entity_then_of b row ≢ row
entity-differs entity_then.Same row is same = cc
entity-differs entity_then.Absent None is same = cc
entity-differs entity_then.Absent (Some row) is same = cc
entity-differs (entity_then.Present old) None is same = cc
entity-differs (entity_then.Present old) (Some row) is same =
    let one : old ≡ row = cc in
    true≢false (sym is ∙ ap (λ (r : EntityRow). not (old.vertical == r.vertical) || not (old.rank.0 == r.rank.0)) (sym one) ∙ (λ j. not (equal-itself old.vertical j) || not (equal-itself old.rank.0 j)))

rank-differs : (a b : Option Rank) → rank_differs a b ≡ true → a ≢ b
rank-differs None None is same = cc
rank-differs None (Some b) is same = cc
rank-differs (Some a) None is same = cc
rank-differs (Some a) (Some b) is same =
    let one : a ≡ b = cc in
    true≢false (sym is ∙ ap (λ (r : Rank). not (a.0 == r.0)) (sym one) ∙ ap not (equal-itself a.0))

rank-same : (a b : Option Rank) → rank_differs a b ≡ false → a ≡ b
rank-same None None is = refl
rank-same None (Some b) is = cc
rank-same (Some a) None is = cc
rank-same (Some a) (Some b) is = by (a.0 == b.0) refl is
  where
    by : (r : Bool) → (a.0 == b.0) ≡ r → not r ≡ false → Some a ≡ Some b
    by true at h = ap Some (same-rank a b at)
    by false at h = cc

module _ (rows : Rows) (kept : IsRows rows) where
  id-place : (id : ℕ) → ((i : ℕ) × (node : Node) × (slice_get rows.ids.entries i ≡ Some (id, node))) ⊎ (lookup (nat_eq id) rows.ids.entries ≡ None)
  id-place id = by (lookup (nat_eq id) rows.ids.entries) refl
    where
      by : (o : Option Node) → lookup (nat_eq id) rows.ids.entries ≡ o → ((i : ℕ) × (node : Node) × (slice_get rows.ids.entries i ≡ Some (id, node))) ⊎ (lookup (nat_eq id) rows.ids.entries ≡ None)
      by None at = inr at
      by (Some node) at =
          let p = place_from_lookup (nat_eq id) rows.ids.entries node at in
          inl (p.0, node, p.2 ∙ ap (λ k. Some (k, node)) (sym (same-number id p.1 p.3)))

  found-then : (id : ℕ) → entity_at (published_of rows) id ≡ joined (option_map (λ n. entity_before n) (lookup (nat_eq id) rows.ids.entries))
  found-then id =
      lookup-ordered nat_cmp_total id (map node_before rows.ids.entries)
      (subst (IsDistinct (eq_by_cmp nat_cmp)) (sym (keys_of-map_values (λ n. entity_before n) rows.ids.entries)) (subst (λ eq. IsDistinct eq (keys_of rows.ids.entries)) (sym agree) kept.ids))
      ∙ ap joined (lookup-map_values (λ n. entity_before n) (is_at (nat_cmp id)) rows.ids.entries ∙ ap (λ test. option_map (λ n. entity_before n) (lookup test rows.ids.entries)) (ap (λ eq. eq id) agree))

  module _ (i id : ℕ) (node : Node) (at : slice_get rows.ids.entries i ≡ Some (id, node)) where
    found : lookup (nat_eq id) rows.ids.entries ≡ Some node
    found = lookup_from_place nat_equiv rows.ids.entries i id node kept.ids at

    pub entity-now : entity_at (contents_of rows) id ≡ node.row
    entity-now = entity-there rows kept i id node at

    entity-before : entity_at (published_of rows) id ≡ entity_before node
    entity-before = found-then id ∙ ap (λ o. joined (option_map (λ n. entity_before n) o)) found

  entity-none : (id : ℕ) → lookup (nat_eq id) rows.ids.entries ≡ None → (entity_at (contents_of rows) id ≡ None) × (entity_at (published_of rows) id ≡ None)
  entity-none id none = (entity-found rows kept id ∙ ap (λ o. joined (option_map (λ n. n.row) o)) none, found-then id ∙ ap (λ o. joined (option_map (λ n. entity_before n) o)) none)

  -- what is picked at a place is a change
  entity-sound : (place : ℕ) (change : EntityChange) → entity_change_at rows place ≡ Some change → IsEntityChange (published_of rows) (contents_of rows) change × (slice_get (keys_of rows.ids.entries) place ≡ Some change.id)
  entity-sound place change is = by (slice_get rows.ids.entries place) refl is
    where
      told : (id : ℕ) (node : Node) → slice_get rows.ids.entries place ≡ Some (id, node) → (b : Bool) → is_changed_entity node ≡ b
          → (if b then Some (record { id = id; before = entity_before node; after = node.row }) else None) ≡ Some change
          → IsEntityChange (published_of rows) (contents_of rows) change × (slice_get (keys_of rows.ids.entries) place ≡ Some change.id)
      told id node at false changed h = cc
      told id node at true changed h =
          let same : record { id = id; before = entity_before node; after = node.row } ≡ change = cc in
          subst (λ c. IsEntityChange (published_of rows) (contents_of rows) c × (slice_get (keys_of rows.ids.entries) place ≡ Some c.id)) same
          ((sym (entity-before place id node at), sym (entity-now place id node at), entity-differs node.before node.row changed), key-at rows.ids.entries place (id, node) at)

      by : (o : Option (ℕ × Node)) → slice_get rows.ids.entries place ≡ o → option_and_then entity_change o ≡ Some change
          → IsEntityChange (published_of rows) (contents_of rows) change × (slice_get (keys_of rows.ids.entries) place ≡ Some change.id)
      by None at h = cc
      by (Some e) at h = told e.0 e.1 at (is_changed_entity e.1) refl h

  -- and each change is picked
  entity-whole : (change : EntityChange) → IsEntityChange (published_of rows) (contents_of rows) change → Contains (filter_map (entity_change_at rows) rows.touched_ids.items) change
  entity-whole change is = ⊎_elim there absent (id-place change.id)
    where
      absent : lookup (nat_eq change.id) rows.ids.entries ≡ None → Contains (filter_map (entity_change_at rows) rows.touched_ids.items) change
      absent none = let both = entity-none change.id none in absurd (is.2 (is.0 ∙ both.1 ∙ sym both.0 ∙ sym is.1))

      there : (i : ℕ) × (node : Node) × (slice_get rows.ids.entries i ≡ Some (change.id, node)) → Contains (filter_map (entity_change_at rows) rows.touched_ids.items) change
      there p = by (is_changed_entity p.1) refl
        where
          was : entity_before p.1 ≡ change.before
          was = sym (is.0 ∙ entity-before p.0 change.id p.1 p.2)

          now : p.1.row ≡ change.after
          now = sym (is.1 ∙ entity-now p.0 change.id p.1 p.2)

          by : (b : Bool) → is_changed_entity p.1 ≡ b → Contains (filter_map (entity_change_at rows) rows.touched_ids.items) change
          by false changed = absurd (is.2 (sym was ∙ entity-same p.1.before p.1.row changed ∙ now))
          by true changed =
              picked-into (entity_change_at rows) rows.touched_ids.items p.0 change
              (kept.touched_ids.listed p.0 (change.id, p.1) p.2 (entity-touched-by p.1.before p.1.row changed))
              (ap (option_and_then entity_change) p.2 ∙ ap (λ b. if b then Some (record { id = change.id; before = entity_before p.1; after = p.1.row }) else None) changed
              ∙ (λ j. Some (record { id = change.id; before = was j; after = now j })))

  pub all-entities : HasEntityChanges (published_of rows) (contents_of rows) (filter_map (entity_change_at rows) rows.touched_ids.items)
  all-entities = record {
    exact = λ change. (
      (λ there. let p = picked-from (entity_change_at rows) rows.touched_ids.items change there in (entity-sound p.0 change p.2).0),
      entity-whole change,
    );
    apart = subst (λ eq. IsDistinct eq (map (λ change. change.id) (filter_map (entity_change_at rows) rows.touched_ids.items))) (sym agree)
        (picked-apart nat_equiv (keys_of rows.ids.entries) kept.ids (entity_change_at rows) (λ change. change.id) (λ i change is. (entity-sound i change is).1) rows.touched_ids.items kept.touched_ids.apart);
  }

-- ---- all entities, as changes of what holds none

module _ (rows : Rows) (kept : IsRows rows) where
  put-sound : (number : ℕ) (change : EntityChange) → put_at rows number ≡ Some change → IsEntityChange empty (contents_of rows) change × (slice_get (keys_of rows.ids.entries) number ≡ Some change.id)
  put-sound number change is = by (slice_get rows.ids.entries number) refl is
    where
      told : (id : ℕ) (node : Node) → slice_get rows.ids.entries number ≡ Some (id, node) → (row : Option EntityRow) → node.row ≡ row
          → option_map (λ (r : EntityRow). record { id = id; before = None; after = Some r }) row ≡ Some change
          → IsEntityChange empty (contents_of rows) change × (slice_get (keys_of rows.ids.entries) number ≡ Some change.id)
      told id node at None stands h = cc
      told id node at (Some row) stands h =
          let same : record { id = id; before = None; after = Some row } ≡ change = cc in
          subst (λ (c : EntityChange). IsEntityChange empty (contents_of rows) c × (slice_get (keys_of rows.ids.entries) number ≡ Some c.id)) same
          ((refl, sym (entity-now rows kept number id node at ∙ stands), (λ e. cc)), key-at rows.ids.entries number (id, node) at)

      by : (o : Option (ℕ × Node)) → slice_get rows.ids.entries number ≡ o → option_and_then entity_put o ≡ Some change
          → IsEntityChange empty (contents_of rows) change × (slice_get (keys_of rows.ids.entries) number ≡ Some change.id)
      by None at h = cc
      by (Some e) at h = told e.0 e.1 at e.1.row refl h

  abbrev all_numbers : List ℕ
  all_numbers = range_with_len 0 (length rows.ids.entries)

  put-whole : (change : EntityChange) → IsEntityChange empty (contents_of rows) change → Contains (filter_map (put_at rows) all_numbers) change
  put-whole change is = ⊎_elim there absent (id-place rows kept change.id)
    where
      absent : lookup (nat_eq change.id) rows.ids.entries ≡ None → Contains (filter_map (put_at rows) all_numbers) change
      absent none = absurd (is.2 (is.0 ∙ sym (entity-none rows kept change.id none).0 ∙ sym is.1))

      there : (i : ℕ) × (node : Node) × (slice_get rows.ids.entries i ≡ Some (change.id, node)) → Contains (filter_map (put_at rows) all_numbers) change
      there p = by p.1.row refl
        where
          by : (row : Option EntityRow) → p.1.row ≡ row → Contains (filter_map (put_at rows) all_numbers) change
          by None stands = absurd (is.2 (is.0 ∙ sym (is.1 ∙ entity-now rows kept p.0 change.id p.1 p.2 ∙ stands)))
          by (Some row) stands =
              picked-into (put_at rows) all_numbers p.0 change (in_range (length rows.ids.entries) p.0 (slice_get_within rows.ids.entries p.0 (change.id, p.1) p.2))
              (ap (option_and_then entity_put) p.2 ∙ ap (option_map (λ (r : EntityRow). record { id = change.id; before = None; after = Some r })) stands
              ∙ (λ j. Some (record { id = change.id; before = sym is.0 j; after = sym (is.1 ∙ entity-now rows kept p.0 change.id p.1 p.2 ∙ stands) j })))

  pub all-put : HasEntityChanges empty (contents_of rows) (filter_map (put_at rows) (range_with_len 0 (length rows.ids.entries)))
  all-put = record {
    exact = λ change. (
      (λ there. let p = picked-from (put_at rows) all_numbers change there in (put-sound p.0 change p.2).0),
      put-whole change,
    );
    apart = subst (λ eq. IsDistinct eq (map (λ change. change.id) (filter_map (put_at rows) all_numbers))) (sym agree)
        (picked-apart nat_equiv (keys_of rows.ids.entries) kept.ids (put_at rows) (λ change. change.id) (λ i change is. (put-sound i change is).1) all_numbers (range_apart 0 (length rows.ids.entries)));
  }

named-at : (sources : List Source) (n : ℕ) → n < length sources → slice_get sources n ≡ Some (source_named sources n)
named-at sources n below = slice_get-get_or sources n (record { type_no = 0; key = Rattle.uni_base.specs.declared.edge.Key.TheVariants.Id 0 }) below

-- what stood at an edge
edge-same : (sources : List Source) (b : Before) (state : SlotState) (end : ℕ) → is_other b state end ≡ false → row_before sources b (row_of sources state end) ≡ row_of sources state end
edge-same sources before.Same state end is = refl
edge-same sources before.Gone Gone end is = refl
edge-same sources before.Gone Public end is = cc
edge-same sources before.Gone Only end is = cc
edge-same sources before.Gone (Circle n) end is = cc
edge-same sources (before.Public until) Gone end is = cc
edge-same sources (before.Public until) Only end is = cc
edge-same sources (before.Public until) (Circle n) end is = cc
edge-same sources (before.Public until) Public end is = ap (row_of sources Public) (sym (equal-end end until is))
edge-same sources (before.Only until) Gone end is = cc
edge-same sources (before.Only until) Public end is = cc
edge-same sources (before.Only until) (Circle n) end is = cc
edge-same sources (before.Only until) Only end is = ap (row_of sources Only) (sym (equal-end end until is))
edge-same sources (before.Circle m until) Gone end is = cc
edge-same sources (before.Circle m until) Public end is = cc
edge-same sources (before.Circle m until) Only end is = cc
edge-same sources (before.Circle m until) (Circle n) end is = by (m == n) refl is
  where
    by : (b : Bool) → (m == n) ≡ b → (not b || not (end == until)) ≡ false → row_of sources (Circle m) until ≡ row_of sources (Circle n) end
    by true number h = let same : m ≡ n = grind (arith, nat_tests) in let ends = sym (equal-end end until h) in λ j. row_of sources (Circle (same j)) (ends j)
    by false number h = cc

-- equal rows have equal audiences
told-audience : {a b : Option EdgeRow} → a ≡ b → option_map_or (λ (x : EdgeRow). x.audience) a Rattle.uni_base.specs.declared.edge.Audience.TheVariants.Public ≡ option_map_or (λ (x : EdgeRow). x.audience) b Rattle.uni_base.specs.declared.edge.Audience.TheVariants.Public
told-audience same = ap (λ r. option_map_or (λ (x : EdgeRow). x.audience) r Rattle.uni_base.specs.declared.edge.Audience.TheVariants.Public) same

-- and what differs from it
edge-differs : (sources : List Source) → IsDistinct source_eq sources → (b : Before) (state : SlotState) (end : ℕ) → IsBeforeKnown (length sources) b → IsCircleKnown (length sources) state → is_other b state end ≡ true
    → row_before sources b (row_of sources state end) ≢ row_of sources state end
edge-differs sources apart before.Same state end kb ks is same = cc
edge-differs sources apart before.Gone Gone end kb ks is same = cc
edge-differs sources apart before.Gone Public end kb ks is same = cc
edge-differs sources apart before.Gone Only end kb ks is same = cc
edge-differs sources apart before.Gone (Circle n) end kb ks is same = cc
edge-differs sources apart (before.Public until) Gone end kb ks is same = cc
edge-differs sources apart (before.Public until) Only end kb ks is same = let other : Rattle.uni_base.specs.declared.edge.Audience.TheVariants.Public ≡ Rattle.uni_base.specs.declared.edge.Audience.TheVariants.Only = told-audience same in cc
edge-differs sources apart (before.Public until) (Circle n) end kb ks is same = let other : Rattle.uni_base.specs.declared.edge.Audience.TheVariants.Public ≡ circle_named (source_named sources n) = told-audience same in cc
edge-differs sources apart (before.Public until) Public end kb ks is same = other-end end until (ap (λ r. option_map_or (λ (x : EdgeRow). x.end) r 0) same) is
edge-differs sources apart (before.Only until) Gone end kb ks is same = cc
edge-differs sources apart (before.Only until) Public end kb ks is same = let other : Rattle.uni_base.specs.declared.edge.Audience.TheVariants.Only ≡ Rattle.uni_base.specs.declared.edge.Audience.TheVariants.Public = told-audience same in cc
edge-differs sources apart (before.Only until) (Circle n) end kb ks is same = let other : Rattle.uni_base.specs.declared.edge.Audience.TheVariants.Only ≡ circle_named (source_named sources n) = told-audience same in cc
edge-differs sources apart (before.Only until) Only end kb ks is same = other-end end until (ap (λ r. option_map_or (λ (x : EdgeRow). x.end) r 0) same) is
edge-differs sources apart (before.Circle m until) Gone end kb ks is same = cc
edge-differs sources apart (before.Circle m until) Public end kb ks is same = let other : circle_named (source_named sources m) ≡ Rattle.uni_base.specs.declared.edge.Audience.TheVariants.Public = told-audience same in cc
edge-differs sources apart (before.Circle m until) Only end kb ks is same = let other : circle_named (source_named sources m) ≡ Rattle.uni_base.specs.declared.edge.Audience.TheVariants.Only = told-audience same in cc
edge-differs sources apart (before.Circle m until) (Circle n) end kb ks is same =
    let value : until ≡ end = ap (λ r. option_map_or (λ (x : EdgeRow). x.end) r 0) same in
    let circles : circle_named (source_named sources m) ≡ circle_named (source_named sources n) = ap (λ r. option_map_or (λ (x : EdgeRow). x.audience) r Rattle.uni_base.specs.declared.edge.Audience.TheVariants.Public) same in
    by (m == n) refl value circles is
  where
    by : (b : Bool) → (m == n) ≡ b → until ≡ end → circle_named (source_named sources m) ≡ circle_named (source_named sources n) → (not b || not (end == until)) ≡ true → ⊥
    by true number value circles h = other-end end until value h
    by false number value circles h =
        let x = source_named sources m in
        let y = source_named sources n in
        let types : x.type_no ≡ y.type_no = cc in
        let keys : x.key ≡ y.key = cc in
        let one : x ≡ y = λ j. record { type_no = types j; key = keys j } in
        let place : m ≡ n = same-place source_equiv sources m n x y apart (named-at sources m kb) (named-at sources n ks) (ap (source_eq x) (sym one) ∙ source_equiv.refl x) in
        true≢false (sym (let same : (m == n) ≡ true = grind (arith, nat_tests) in same) ∙ number)

-- both kinds of rows have the same keys
then-keys : (sources : List Source) (ids : List ℕ) (es : List (EdgeNo × Slot)) → keys_of (map (slot_before sources ids) es) ≡ keys_of (map (slot_named sources ids) es)
then-keys sources ids [] = refl
then-keys sources ids (e ∷ es) = ap (λ ks. edge_named sources ids e.0 ∷ ks) (then-keys sources ids es)

then-none : (sources : List Source) (ids : List ℕ) (test : EdgeRef → Bool) (es : List (EdgeNo × Slot)) → NonePasses test (map (slot_named sources ids) es) → NonePasses test (map (slot_before sources ids) es)
then-none sources ids test [] none = tt
then-none sources ids test (e ∷ es) none = (none.0, then-none sources ids test es none.1)

placed : (sources : List Source) (ids : List ℕ) (es : List (EdgeNo × Slot)) (i : ℕ) (k : EdgeRef) (r : Option EdgeRow) → slice_get (map (slot_named sources ids) es) i ≡ Some (k, r) → (e : EdgeNo × Slot) × (slice_get es i ≡ Some e) × (edge_named sources ids e.0 ≡ k)
placed sources ids es i k r at = by (slice_get es i) refl (sym (slice_get-map (slot_named sources ids) es i) ∙ at)
  where
    by : (o : Option (EdgeNo × Slot)) → slice_get es i ≡ o → option_map (slot_named sources ids) (slice_get es i) ≡ Some (k, r) → (e : EdgeNo × Slot) × (slice_get es i ≡ Some e) × (edge_named sources ids e.0 ≡ k)
    by None is h = let none : option_map (slot_named sources ids) None ≡ Some (k, r) = sym (ap (option_map (slot_named sources ids)) is) ∙ h in cc
    by (Some e) is h =
        let some : Some (slot_named sources ids e) ≡ Some (k, r) = sym (ap (option_map (slot_named sources ids)) is) ∙ h in
        let both : slot_named sources ids e ≡ (k, r) = cc in
        (e, is, ap (λ (x : EdgeRef × Option EdgeRow). x.0) both)

live-some : (sources : List Source) (state : SlotState) (end : ℕ) → is_live state ≡ true → IsSome (row_of sources state end)
live-some sources Gone end live = cc
live-some sources Public end live = refl
live-some sources Only end live = refl
live-some sources (Circle n) end live = refl

some-live : (sources : List Source) (state : SlotState) (end : ℕ) → IsSome (row_of sources state end) → is_live state ≡ true
some-live sources Gone end some = cc
some-live sources Public end some = refl
some-live sources Only end some = refl
some-live sources (Circle n) end some = refl

module _ (rows : Rows) (kept : IsRows rows) where
  pub edge-place : (edge : EdgeRef) → ((i : ℕ) × (e : EdgeNo × Slot) × (slice_get rows.edges.entries i ≡ Some e) × (edge_named (keys_of rows.sources.entries) (keys_of rows.ids.entries) e.0 ≡ edge)) ⊎ NonePasses (is_at (edge_cmp edge)) (slots_named rows)
  edge-place edge = by (lookup (is_at (edge_cmp edge)) (slots_named rows)) refl
    where
      by : (o : Option (Option EdgeRow)) → lookup (is_at (edge_cmp edge)) (slots_named rows) ≡ o
          → ((i : ℕ) × (e : EdgeNo × Slot) × (slice_get rows.edges.entries i ≡ Some e) × (edge_named (keys_of rows.sources.entries) (keys_of rows.ids.entries) e.0 ≡ edge)) ⊎ NonePasses (is_at (edge_cmp edge)) (slots_named rows)
      by None at = inr (none_passes_from_lookup (is_at (edge_cmp edge)) (slots_named rows) at)
      by (Some r) at =
          let p = place_from_lookup (is_at (edge_cmp edge)) (slots_named rows) r at in
          let e = placed (keys_of rows.sources.entries) (keys_of rows.ids.entries) rows.edges.entries p.0 p.1 r p.2 in
          inl (p.0, e.0, e.1, e.2 ∙ sym (exact_edges edge p.1 (equal_from (edge_cmp edge p.1) p.3)))

  then-apart : IsDistinct (eq_by_cmp edge_cmp) (keys_of (map (slot_before (keys_of rows.sources.entries) (keys_of rows.ids.entries)) rows.edges.entries))
  then-apart = subst (IsDistinct (eq_by_cmp edge_cmp)) (sym (then-keys (keys_of rows.sources.entries) (keys_of rows.ids.entries) rows.edges.entries)) kept.edges

  pub edge-none : (edge : EdgeRef) → NonePasses (is_at (edge_cmp edge)) (slots_named rows) → (edge_at (contents_of rows) edge ≡ None) × (edge_at (published_of rows) edge ≡ None)
  edge-none edge none = (
    edge-missing rows kept edge none,
    lookup-ordered edge_total edge (map (slot_before (keys_of rows.sources.entries) (keys_of rows.ids.entries)) rows.edges.entries) then-apart
        ∙ ap joined (lookup-none (is_at (edge_cmp edge)) (map (slot_before (keys_of rows.sources.entries) (keys_of rows.ids.entries)) rows.edges.entries)
        (then-none (keys_of rows.sources.entries) (keys_of rows.ids.entries) (is_at (edge_cmp edge)) rows.edges.entries none)),
  )

  module _ (i : ℕ) (e : EdgeNo × Slot) (at : slice_get rows.edges.entries i ≡ Some e) where
    edge-now : edge_at (contents_of rows) (edge_named (keys_of rows.sources.entries) (keys_of rows.ids.entries) e.0) ≡ row_of (keys_of rows.sources.entries) e.1.state e.1.end
    edge-now = edge-found rows kept (edge_named (keys_of rows.sources.entries) (keys_of rows.ids.entries) e.0) i (e, at, refl)

    edge-then : edge_at (published_of rows) (edge_named (keys_of rows.sources.entries) (keys_of rows.ids.entries) e.0) ≡ row_before (keys_of rows.sources.entries) e.1.before (row_of (keys_of rows.sources.entries) e.1.state e.1.end)
    edge-then =
        lookup-ordered edge_total (edge_named (keys_of rows.sources.entries) (keys_of rows.ids.entries) e.0) (map (slot_before (keys_of rows.sources.entries) (keys_of rows.ids.entries)) rows.edges.entries) then-apart
        ∙ ap joined (lookup_from_place (eq_by_cmp_equiv edge_total) (map (slot_before (keys_of rows.sources.entries) (keys_of rows.ids.entries)) rows.edges.entries) i
        (edge_named (keys_of rows.sources.entries) (keys_of rows.ids.entries) e.0) (row_before (keys_of rows.sources.entries) e.1.before (row_of (keys_of rows.sources.entries) e.1.state e.1.end)) then-apart
        (slice_get-map (slot_before (keys_of rows.sources.entries) (keys_of rows.ids.entries)) rows.edges.entries i ∙ ap (option_map (slot_before (keys_of rows.sources.entries) (keys_of rows.ids.entries))) at))

    -- the id that it leads to
    pub target-at : (n : ℕ × Node) × (slice_get rows.ids.entries e.0.target ≡ Some n) × (n.0 ≡ (edge_named (keys_of rows.sources.entries) (keys_of rows.ids.entries) e.0).target)
    target-at =
        let n = entry-at rows.ids.entries e.0.target (kept.known i e at).target in
        (n.0, n.1, sym (get_or_from_slice_get (keys_of rows.ids.entries) e.0.target n.0.0 0 (key-at rows.ids.entries e.0.target n.0 n.1)))

    -- its ranks are those that stand there
    rank-then : (ranks_at rows e.0.target).before ≡ rank_at (published_of rows) (edge_named (keys_of rows.sources.entries) (keys_of rows.ids.entries) e.0).target
    rank-then =
        let t = target-at in
        ap (λ o. (option_map_or (λ n. ranks_of n.1) o no_ranks).before) t.1
        ∙ sym (ap rank_of (entity-before rows kept e.0.target t.0.0 t.0.1 t.1)) ∙ ap (rank_at (published_of rows)) t.2

    rank-now : (ranks_at rows e.0.target).after ≡ rank_at (contents_of rows) (edge_named (keys_of rows.sources.entries) (keys_of rows.ids.entries) e.0).target
    rank-now =
        let t = target-at in
        ap (λ o. (option_map_or (λ n. ranks_of n.1) o no_ranks).after) t.1
        ∙ sym (ap rank_of (entity-now rows kept e.0.target t.0.0 t.0.1 t.1)) ∙ ap (rank_at (contents_of rows)) t.2

    -- they differ exactly where it has moved
    moved-differs : moved_at rows e.0.target ≡ true
        → rank_at (published_of rows) (edge_named (keys_of rows.sources.entries) (keys_of rows.ids.entries) e.0).target ≢ rank_at (contents_of rows) (edge_named (keys_of rows.sources.entries) (keys_of rows.ids.entries) e.0).target
    moved-differs moved same = rank-differs (ranks_at rows e.0.target).before (ranks_at rows e.0.target).after moved (rank-then ∙ same ∙ sym rank-now)

    differs-moved : rank_at (published_of rows) (edge_named (keys_of rows.sources.entries) (keys_of rows.ids.entries) e.0).target ≢ rank_at (contents_of rows) (edge_named (keys_of rows.sources.entries) (keys_of rows.ids.entries) e.0).target
        → moved_at rows e.0.target ≡ true
    differs-moved differ = by (moved_at rows e.0.target) refl
      where
        by : (b : Bool) → moved_at rows e.0.target ≡ b → moved_at rows e.0.target ≡ true
        by true moved = moved
        by false moved = absurd (differ (sym rank-then ∙ rank-same (ranks_at rows e.0.target).before (ranks_at rows e.0.target).after moved ∙ rank-now))

    -- what became of it
    abbrev change-there : EdgeChange
    change-there = change_of rows (edge_named (keys_of rows.sources.entries) (keys_of rows.ids.entries) e.0) e

    -- an edge that is affected is a change
    affected-is : is_affected rows e ≡ true → IsEdgeChange (published_of rows) (contents_of rows) change-there
    affected-is is = (
      sym edge-then,
      sym edge-now,
      ⊎_elim
          (λ changed. inl (edge-differs (keys_of rows.sources.entries) kept.sources e.1.before e.1.state e.1.end
          (subst (λ n. IsBeforeKnown n e.1.before) (sym (length-keys_of rows.sources.entries)) (kept.known i e at).before) (subst (λ n. IsCircleKnown n e.1.state) (sym (length-keys_of rows.sources.entries)) (kept.known i e at).circle) changed))
          (λ led. inr (live-some (keys_of rows.sources.entries) e.1.state e.1.end led.0, moved-differs led.1))
          (affected-cases rows e is),
      rank-then,
      rank-now,
    )

  made : (e : EdgeNo × Slot) → EdgeChange
  made e = change_of rows (edge_named (keys_of rows.sources.entries) (keys_of rows.ids.entries) e.0) e

  -- what is picked at a place is a change
  edge-sound : (place : ℕ) (change : EdgeChange) → edge_change_at rows place ≡ Some change
      → IsEdgeChange (published_of rows) (contents_of rows) change × (slice_get (keys_of (slots_named rows)) place ≡ Some change.edge)
  unfolding made
  edge-sound place change is = by (slice_get rows.edges.entries place) refl is
    where
      told : (e : EdgeNo × Slot) → slice_get rows.edges.entries place ≡ Some e → (b : Bool) → is_affected rows e ≡ b
          → (if b then Some (made e) else None) ≡ Some change
          → IsEdgeChange (published_of rows) (contents_of rows) change × (slice_get (keys_of (slots_named rows)) place ≡ Some change.edge)
      told e at false affected h = cc
      told e at true affected h =
          let same : made e ≡ change = cc in
          subst (λ c. IsEdgeChange (published_of rows) (contents_of rows) c × (slice_get (keys_of (slots_named rows)) place ≡ Some c.edge)) same
          (affected-is place e at affected, key-at (slots_named rows) place (slot_named (keys_of rows.sources.entries) (keys_of rows.ids.entries) e) (slot-at rows place e at))

      by : (o : Option (EdgeNo × Slot)) → slice_get rows.edges.entries place ≡ o → option_and_then (edge_change rows) o ≡ Some change
          → IsEdgeChange (published_of rows) (contents_of rows) change × (slice_get (keys_of (slots_named rows)) place ≡ Some change.edge)
      by None at h = cc
      by (Some e) at h = told e at (is_affected rows e) refl h

  -- and each change is picked, where all places that are affected are there
  edge-whole : (places : List ℕ) → AreAffected rows places → (change : EdgeChange) → IsEdgeChange (published_of rows) (contents_of rows) change → Contains (filter_map (edge_change_at rows) places) change
  edge-whole places all change is = ⊎_elim there absent (edge-place change.edge)
    where
      absent : NonePasses (is_at (edge_cmp change.edge)) (slots_named rows) → Contains (filter_map (edge_change_at rows) places) change
      absent none =
          let both = edge-none change.edge none in
          let after : change.after ≡ None = is.1 ∙ both.0 in
          absurd (⊎_elim (λ differ. differ (is.0 ∙ both.1 ∙ sym after)) (λ led. let some : IsSome {T = EdgeRow} None = subst IsSome after led.0 in cc) is.2)

      there : (i : ℕ) × (e : EdgeNo × Slot) × (slice_get rows.edges.entries i ≡ Some e) × (edge_named (keys_of rows.sources.entries) (keys_of rows.ids.entries) e.0 ≡ change.edge) → Contains (filter_map (edge_change_at rows) places) change
      there p =
          let e = p.1 in
          let was : row_before (keys_of rows.sources.entries) e.1.before (row_of (keys_of rows.sources.entries) e.1.state e.1.end) ≡ change.before = sym (edge-then p.0 e p.2) ∙ ap (edge_at (published_of rows)) p.3 ∙ sym is.0 in
          let now : row_of (keys_of rows.sources.entries) e.1.state e.1.end ≡ change.after = sym (edge-now p.0 e p.2) ∙ ap (edge_at (contents_of rows)) p.3 ∙ sym is.1 in
          let rank_was : (ranks_at rows e.0.target).before ≡ change.rank_before = rank-then p.0 e p.2 ∙ ap (λ (x : EdgeRef). rank_at (published_of rows) x.target) p.3 ∙ sym is.3 in
          let rank_is : (ranks_at rows e.0.target).after ≡ change.rank_after = rank-now p.0 e p.2 ∙ ap (λ (x : EdgeRef). rank_at (contents_of rows) x.target) p.3 ∙ sym is.4 in
          let affected : is_affected rows e ≡ true = ⊎_elim
          (λ differ. changed-affected e (differs-changed (keys_of rows.sources.entries) e.1.before e.1.state e.1.end (λ same. differ (sym was ∙ same ∙ now))))
          (λ led. led-affected e (some-live (keys_of rows.sources.entries) e.1.state e.1.end (subst IsSome (sym now) led.0))
          (differs-moved p.0 e p.2 (λ same. led.1 (ap (λ (x : EdgeRef). rank_at (published_of rows) x.target) (sym p.3) ∙ same ∙ ap (λ (x : EdgeRef). rank_at (contents_of rows) x.target) p.3))))
          is.2 in
          picked-into (edge_change_at rows) places p.0 change (all p.0 e p.2 affected)
          (ap (option_and_then (edge_change rows)) p.2
          ∙ ap (λ b. if b then Some (change_of rows (edge_named (keys_of rows.sources.entries) (keys_of rows.ids.entries) e.0) e) else None) affected
          ∙ (λ j. Some (record { edge = p.3 j; before = was j; after = now j; rank_before = rank_was j; rank_after = rank_is j })))
        where
          differs-changed : (sources : List Source) (b : Before) (state : SlotState) (end : ℕ) → row_before sources b (row_of sources state end) ≢ row_of sources state end → is_other b state end ≡ true
          differs-changed sources b state end differ = by (is_other b state end) refl
            where
              by : (o : Bool) → is_other b state end ≡ o → is_other b state end ≡ true
              by true at = at
              by false at = absurd (differ (edge-same sources b state end at))

          changed-affected : (e : EdgeNo × Slot) → is_changed e.1 ≡ true → is_affected rows e ≡ true
          changed-affected e changed = ap (λ b. b || (if is_live e.1.state then moved_at rows e.0.target else false)) changed

          led-affected : (e : EdgeNo × Slot) → is_live e.1.state ≡ true → moved_at rows e.0.target ≡ true → is_affected rows e ≡ true
          led-affected e live moved = ap (λ b. is_changed e.1 || (if b then moved_at rows e.0.target else false)) live ∙ ap (λ b. is_changed e.1 || b) moved ∙ either (is_changed e.1)
            where
              either : (b : Bool) → (b || true) ≡ true
              either true = refl
              either false = refl

  pub all-edges : (places : List ℕ) → IsDistinct nat_eq places → AreAffected rows places → HasEdgeChanges (published_of rows) (contents_of rows) (filter_map (edge_change_at rows) places)
  all-edges places apart all = record {
    exact = λ change. (
      (λ there. let p = picked-from (edge_change_at rows) places change there in (edge-sound p.0 change p.2).0),
      edge-whole places all change,
    );
    apart = picked-apart (eq_by_cmp_equiv edge_total) (keys_of (slots_named rows)) kept.edges (edge_change_at rows) (λ change. change.edge) (λ i change is. (edge-sound i change is).1) places apart;
  }
