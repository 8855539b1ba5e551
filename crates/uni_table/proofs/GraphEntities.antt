-- Entities by id: look-ups, and the rows after one of them is written.
use Rattle.std.proofs.Common.{◌≡◌, ◌≤◌, ◌<◌, ◌+◌, ◌^◌, ℕ, Bool, true, false, if◌then◌else◌, List, [], ◌∷◌, ◌++◌, Option, None, Some, refl, sym, ◌∙◌, ap, subst, length, map, slice_get, nat_eq, is_some, arith}
use Rattle.std.specs.List.{IsDistinct, AllByRecursion}
use Rattle.std.specs.Map.{keys_of, lookup}
use Rattle.std.specs.BTreeMap.{is_at}
use Rattle.std.specs.Cmp.{nat_cmp_total}
use Rattle.std.specs.Option.{option_map, option_map_or}
use Rattle.std.specs.Ordering.{nat_cmp, eq_by_cmp}
use Rattle.std.proofs.lemmas.Cmp.{nat_eq_equiv}
use Rattle.std.proofs.lemmas.Map.{NonePasses}
use Rattle.std.proofs.lemmas.Map.Entries.{lookup_from_place}
use Rattle.std.proofs.lemmas.Map.Made.{lookup-map_values, keys_of-map_values}
use Rattle.std.proofs.lemmas.Map.Lookups.{exact_unsigned}
use Rattle.std.proofs.lemmas.Option.{slice_get-map}
use Rattle.indexmap.specs.Layout.{set_value_at}
use Rattle.chained_rows.specs.Counts.{count_of, one_if}
use Rattle.chained_rows.specs.Ordered.{ordered}
use Rattle.chained_rows.proofs.Compared.{is_eq-nat_cmp}
use Rattle.chained_rows.proofs.Counted.{count-written, count-le}
use Rattle.chained_rows.proofs.Ordered.{lookup-ordered, ordered-put, ordered-hide, absent-ordered, joined}
use Rattle.chained_rows.proofs.Places.{keys-written, length-written, map-written}
use Rattle.uni_base.specs.EdgeOrder.{edge_cmp}
use Rattle.uni_table.specs.Contents.{entity_at, without_row}
use Rattle.uni_table.specs.GraphRows.{IsRows, AreTouched, written_entity, is_same_entity, slot_before, published_of, slot_named, node_named, contents_of, is_entity, last_at, with_entity_row}
use Rattle.uni_table.specs.declared.command.EntityRow.{EntityRow}
use Rattle.uni_table.specs.declared.graph.numbers.Node.{Node}
use Rattle.uni_table.specs.declared.graph.numbers.Side.{Side}
use Rattle.uni_table.specs.declared.graph.numbers.Side.TheVariants.{Target, Source as From}
use Rattle.uni_table.specs.declared.graph.rows.Rows.{Rows}
use Rattle.uni_table.proofs.GraphPlaces.{index-none, read-written, remove-none}
use Rattle.uni_table.proofs.Published.{nodes-then, entity-touched}
use Rattle.uni_table.proofs.TouchedRows.{agree, touched-again, touched-first}

pub ids-distinct : (ids : List (ℕ × Node)) → IsDistinct nat_eq (keys_of ids) → IsDistinct (eq_by_cmp nat_cmp) (keys_of (map node_named ids))
ids-distinct ids apart = subst (IsDistinct (eq_by_cmp nat_cmp)) (sym (keys_of-map_values (λ n. n.row) ids)) (subst (λ eq. IsDistinct eq (keys_of ids)) (sym agree) apart)

-- a look-up by id finds the entity
pub entity-found : (rows : Rows) → IsRows rows → (id : ℕ) → entity_at (contents_of rows) id ≡ joined (option_map (λ n. n.row) (lookup (nat_eq id) rows.ids.entries))
entity-found rows kept id =
    lookup-ordered nat_cmp_total id (map node_named rows.ids.entries) (ids-distinct rows.ids.entries kept.ids)
    ∙ ap joined (lookup-map_values (λ n. n.row) (is_at (nat_cmp id)) rows.ids.entries ∙ ap (λ test. option_map (λ n. n.row) (lookup test rows.ids.entries)) (ap (λ eq. eq id) agree))

-- so does one by its number
pub entity-there : (rows : Rows) → IsRows rows → (i id : ℕ) (node : Node) → slice_get rows.ids.entries i ≡ Some (id, node) → entity_at (contents_of rows) id ≡ node.row
entity-there rows kept i id node at = entity-found rows kept id ∙ ap (λ o. joined (option_map (λ n. n.row) o)) (lookup_from_place nat_eq_equiv rows.ids.entries i id node kept.ids at)

pub entity-numbered : (rows : Rows) → IsRows rows → (i id : ℕ) → slice_get (keys_of rows.ids.entries) i ≡ Some id → option_map_or (λ e. e.1.row) (slice_get rows.ids.entries i) None ≡ entity_at (contents_of rows) id
entity-numbered rows kept i id at = by (slice_get rows.ids.entries i) refl
  where
    keyed : option_map (λ (e : ℕ × Node). e.0) (slice_get rows.ids.entries i) ≡ Some id
    keyed = sym (slice_get-map (λ (e : ℕ × Node). e.0) rows.ids.entries i) ∙ at

    by : (o : Option (ℕ × Node)) → slice_get rows.ids.entries i ≡ o → option_map_or (λ e. e.1.row) o None ≡ entity_at (contents_of rows) id
    by None is = let none : None ≡ Some id = sym (ap (option_map (λ (e : ℕ × Node). e.0)) is) ∙ keyed in cc
    by (Some e) is =
        let found : Some e.0 ≡ Some id = sym (ap (option_map (λ (x : ℕ × Node). x.0)) is) ∙ keyed in
        let same : e.0 ≡ id = cc in
        sym (subst (λ n. entity_at (contents_of rows) n ≡ e.1.row) same (entity-there rows kept i e.0 e.1 is))

-- and finds none where there is no number
pub entity-nowhere : (rows : Rows) → IsRows rows → (id : ℕ) → AllByRecursion (λ x. nat_eq id x ≡ false) (keys_of rows.ids.entries) → entity_at (contents_of rows) id ≡ None
entity-nowhere rows kept id none = entity-found rows kept id ∙ ap (λ o. joined (option_map (λ n. n.row) o)) (index-none (nat_eq id) rows.ids.entries none)

-- an id that never was there is no entity
pub entity-missing : (rows : Rows) → IsRows rows → (id : ℕ) → AllByRecursion (λ x. nat_eq id x ≡ false) (keys_of rows.ids.entries) → without_row (contents_of rows) id ≡ contents_of rows
entity-missing rows kept id none =
    ap (λ es. record (contents_of rows) { entities = es })
    (remove-none (is_at (nat_cmp id)) (contents_of rows).entities
    (absent-ordered nat_cmp_total id (map node_named rows.ids.entries) (ids-distinct rows.ids.entries kept.ids) (by rows.ids.entries none)))
  where
    by : (es : List (ℕ × Node)) → AllByRecursion (λ x. nat_eq id x ≡ false) (keys_of es) → NonePasses (is_at (nat_cmp id)) (map node_named es)
    by [] h = tt
    by (e ∷ es) h = (is_eq-nat_cmp id e.0 ∙ h.0, by es h.1)

module _ (old new : Rows) (kept : IsRows old) (i id : ℕ) (node : Node) (row : Option EntityRow) (at : slice_get old.ids.entries i ≡ Some (id, node))
    (is : new.ids.entries ≡ set_value_at old.ids.entries i (written_entity node row)) where
  keys : keys_of new.ids.entries ≡ keys_of old.ids.entries
  keys = ap keys_of is ∙ keys-written old.ids.entries i (written_entity node row)

  long : length new.ids.entries ≡ length old.ids.entries
  long = ap length is ∙ length-written old.ids.entries i (written_entity node row)

  -- the rows with it are kept, if what lives is counted
  pub entity-kept : new.entity_count + one_if (is_entity node) ≡ old.entity_count + one_if (is_some row)
      → new.touched_ids.items ≡ (if is_same_entity node.before then old.touched_ids.items ++ i ∷ [] else old.touched_ids.items) → new.touched_ids.cap ≡ old.touched_ids.cap → IsRows (record old { ids = new.ids; entity_count = new.entity_count; touched_ids = new.touched_ids })
  entity-kept count places room = record {
    known = λ j e there. let k = kept.known j e there in record { source = k.source; target = omega (arith, k.target, long); circle = k.circle; before = k.before };
    chains = kept.chains;
    lasts = λ side q. last side q ∙ kept.lasts side q;
    ids = subst (IsDistinct nat_eq) (sym keys) kept.ids;
    sources = kept.sources;
    edges = subst (λ ks. IsDistinct (eq_by_cmp edge_cmp) (keys_of (map (slot_named (keys_of old.sources.entries) ks) old.edges.entries))) (sym keys) kept.edges;
    few_ids = omega (arith, kept.few_ids, long);
    few_sources = kept.few_sources;
    few_edges = kept.few_edges;
    entity_count = omega (arith, count, kept.entity_count, ap (count_of is_entity) is, count-written is_entity old.ids.entries i id node (written_entity node row) at);
    edge_count = kept.edge_count;
    ended = kept.ended;
    touched_ids =
        subst (λ es. AreTouched (λ n. is_same_entity n.before) es new.touched_ids.items new.touched_ids.cap) (sym is)
        (subst (λ m. AreTouched (λ n. is_same_entity n.before) (set_value_at old.ids.entries i (written_entity node row)) new.touched_ids.items m) (sym room)
        (subst (λ ps. AreTouched (λ n. is_same_entity n.before) (set_value_at old.ids.entries i (written_entity node row)) ps old.touched_ids.cap) (sym places)
        (touched (is_same_entity node.before) refl)));
    touched_edges = kept.touched_edges;
  }
    where
      touched : (b : Bool) → is_same_entity node.before ≡ b
          → AreTouched (λ n. is_same_entity n.before) (set_value_at old.ids.entries i (written_entity node row)) (if b then old.touched_ids.items ++ i ∷ [] else old.touched_ids.items) old.touched_ids.cap
      touched true was = touched-first (λ n. is_same_entity n.before) old.ids.entries old.touched_ids.items old.touched_ids.cap kept.touched_ids i id node (written_entity node row) at was (entity-touched node.before node.row)
      touched false was = touched-again (λ n. is_same_entity n.before) old.ids.entries old.touched_ids.items old.touched_ids.cap kept.touched_ids i id node (written_entity node row) at was (entity-touched node.before node.row)

      last : (side : Side) (q : ℕ) → last_at side (record old { ids = new.ids; entity_count = new.entity_count; touched_ids = new.touched_ids }) q ≡ last_at side old q
      last Target q =
          ap (λ es. option_map_or (λ e. e.1.last_edge) (slice_get es q) 0) is
          ∙ read-written (λ e. e.1.last_edge) old.ids.entries i (written_entity node row) (λ e there. ap (λ x. x.1.last_edge) (let same : (id, node) ≡ e = cc in same)) q
      last From q = refl

  entities : ordered nat_cmp (map node_named new.ids.entries) ≡ (with_entity_row (contents_of old) id row).entities
  entities =
      ap (λ es. ordered nat_cmp (map node_named es)) is
      ∙ ap (ordered nat_cmp) (map-written node_named old.ids.entries i (written_entity node row) row (λ e there. refl)) ∙ by row
    where
      place : slice_get (map node_named old.ids.entries) i ≡ Some (id, node.row)
      place = slice_get-map node_named old.ids.entries i ∙ ap (option_map node_named) at

      by : (r : Option EntityRow) → ordered nat_cmp (set_value_at (map node_named old.ids.entries) i r) ≡ (with_entity_row (contents_of old) id r).entities
      by None = ordered-hide nat_cmp_total exact_unsigned (map node_named old.ids.entries) i id node.row (ids-distinct old.ids.entries kept.ids) place
      by (Some x) = ordered-put nat_cmp_total exact_unsigned (map node_named old.ids.entries) i id node.row x (ids-distinct old.ids.entries kept.ids) place

  edges : (r : Option EntityRow) → (with_entity_row (contents_of old) id r).edges ≡ (contents_of old).edges
  edges None = refl
  edges (Some x) = refl

  -- they stand for the contents with it
  pub entity-set : contents_of (record old { ids = new.ids; entity_count = new.entity_count; touched_ids = new.touched_ids }) ≡ with_entity_row (contents_of old) id row
  entity-set =
      let names = ap (λ ks. ordered edge_cmp (map (slot_named (keys_of old.sources.entries) ks) old.edges.entries)) keys ∙ sym (edges row) in
      λ j. record { entities = entities j; edges = names j }

  -- and were at the last publish what they were
  pub entity-then : published_of (record old { ids = new.ids; entity_count = new.entity_count; touched_ids = new.touched_ids }) ≡ published_of old
  entity-then =
      let names = ap (λ ks. ordered edge_cmp (map (slot_before (keys_of old.sources.entries) ks) old.edges.entries)) keys in
      let all = ap (λ es. ordered nat_cmp (map Rattle.uni_table.specs.GraphRows.node_before es)) is ∙ ap (ordered nat_cmp) (nodes-then old.ids.entries i id node row at) in
      λ j. record { entities = all j; edges = names j }

-- what is an entity is counted
pub entity-counted : (rows : Rows) → IsRows rows → (i id : ℕ) (node : Node) → slice_get rows.ids.entries i ≡ Some (id, node) → one_if (is_entity node) ≤ rows.entity_count
entity-counted rows kept i id node at =
    omega (arith, kept.entity_count, count-written is_entity rows.ids.entries i id node (record node { row = None }) at)

pub entities-few : (rows : Rows) → IsRows rows → rows.entity_count < 2 ^ 63
entities-few rows kept = omega (arith, kept.entity_count, kept.few_ids, count-le is_entity rows.ids.entries)

-- the count is that of the contents' entities
pub entities-counted : (rows : Rows) → IsRows rows → rows.entity_count ≡ length (contents_of rows).entities
entities-counted rows kept =
    kept.entity_count ∙ sym (Rattle.chained_rows.proofs.Counted.length-ordered is_entity nat_cmp_total node_named (λ e. refl) rows.ids.entries (ids-distinct rows.ids.entries kept.ids))
