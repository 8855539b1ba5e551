-- The targets of the edges of a type and key.
use Rattle.std.proofs.Common.{◌≡◌, ℕ, ◌&&◌, Bool, true, false, List, Option, None, Some, refl, sym, ◌∙◌, ap, subst, if◌then◌else◌, filter}
use Rattle.std.specs.declared.cmp.Ordering.{Ordering}
use Rattle.std.specs.declared.cmp.Ordering.TheVariants.{Less, Equal, Greater}
use Rattle.std.specs.Ordering.{nat_cmp, is_eq, eq_by_cmp, ordering_then}
use Rattle.std.specs.Option.{option_map, option_map_or}
use Rattle.std.specs.List.{list_any, filter_map, IsDistinct}
use Rattle.std.specs.Map.{keys_of}
use Rattle.std.specs.BTreeMap.{is_at}
use Rattle.std.proofs.lemmas.Map.Made.{is_some-lookup}
use Rattle.uni_base.specs.declared.entity.DocKey.{DocKey}
use Rattle.uni_base.specs.declared.edge.EdgeRef.{EdgeRef}
use Rattle.uni_base.specs.declared.edge.Key.{Key}
use Rattle.uni_base.specs.EdgeOrder.{edge_cmp, key_cmp}
use Rattle.uni_base.specs.RankOrder.{doc_cmp}
use Rattle.uni_table.specs.declared.command.EdgeRow.{EdgeRow}
use Rattle.uni_table.specs.declared.command.EntityRow.{EntityRow}
use Rattle.uni_table.specs.Contents.{Contents, entity_at, has_edge, starts_at}
use Rattle.uni_table.specs.Ranked.{doc_at}
use Rattle.uni_table.proofs.Compared.{is_eq-nat_cmp, same_number}
use Rattle.uni_table.proofs.DocKeys.{ids_differ}
use Rattle.uni_table.proofs.Filters.{list_any-map, list_any-filter_map, list_any-agree, list_any-and, filter_map-filter, option_map_or-if}
use Rattle.uni_table.proofs.Starts.{edge_to, edge_cmp-starts}
use Rattle.uni_table.proofs.Apart.{distinct-filter_map}

module _ (table : Contents) (number : ℕ) (key : Key) where
  -- the edges of the type and key, each as its target
  abbrev pub targets_of : List DocKey
  targets_of = filter_map (λ e. doc_at table e.0.target) (filter (λ e. starts_at number key e.0) table.edges)

  edge_is : (id : ℕ) (edge : EdgeRef) → is_eq (edge_cmp (edge_to number key id) edge) ≡ (starts_at number key edge && is_eq (nat_cmp id edge.target))
  edge_is id edge = by (nat_cmp number edge.type_no) (key_cmp key edge.key)
      ∙ ap (λ b. (b && is_eq (key_cmp key edge.key)) && is_eq (nat_cmp id edge.target)) (is_eq-nat_cmp number edge.type_no)
    where
      by : (a b : Ordering) → is_eq (ordering_then a (ordering_then b (nat_cmp id edge.target))) ≡ ((is_eq a && is_eq b) && is_eq (nat_cmp id edge.target))
      by Less b = refl
      by Greater b = refl
      by Equal Less = refl
      by Equal Greater = refl
      by Equal Equal = refl

  -- whether a key is that of the entity of an id
  abbrev is_of : DocKey → ℕ → Bool
  is_of q id = option_map_or (λ d. is_at (doc_cmp q) d) (doc_at table id) false

  other_id : (q : DocKey) (id : ℕ) → is_eq (nat_cmp q.id id) ≡ false → is_of q id ≡ false
  other_id q id e = by (entity_at table id)
    where
      by : (o : Option EntityRow) → option_map_or (λ d. is_at (doc_cmp q) d) (option_map (λ (row : EntityRow). record { rank = row.rank; id = id }) o) false ≡ false
      by None = refl
      by (Some row) = ids_differ q (record { rank = row.rank; id = id }) e

  target_is : (q : DocKey) (edge : EdgeRef) → (starts_at number key edge && is_of q edge.target) ≡ (is_at (edge_cmp (edge_to number key q.id)) edge && is_of q q.id)
  target_is q edge = by (is_eq (nat_cmp q.id edge.target)) refl
    where
      by : (b : Bool) → is_eq (nat_cmp q.id edge.target) ≡ b → (starts_at number key edge && is_of q edge.target) ≡ (is_at (edge_cmp (edge_to number key q.id)) edge && is_of q q.id)
      by true e = rw (edge_is q.id edge, e) (and_true (starts_at number key edge) (is_of q edge.target) (is_of q q.id) (ap (is_of q) (sym (same_number q.id edge.target e))))
        where
          and_true : (s a b : Bool) → a ≡ b → (s && a) ≡ ((s && true) && b)
          and_true true a b e = e
          and_true false a b e = refl
      by false e = rw (edge_is q.id edge, e, other_id q edge.target e) (and_none (starts_at number key edge) (is_of q q.id))
        where
          and_none : (s b : Bool) → (s && false) ≡ ((s && false) && b)
          and_none true b = refl
          and_none false b = refl

  -- an entity is a target exactly if its edge is there
  pub among_targets : (q : DocKey) → list_any (is_at (doc_cmp q)) targets_of ≡ (has_edge table (edge_to number key q.id) && is_of q q.id)
  among_targets q =
      ap (list_any (is_at (doc_cmp q))) (filter_map-filter (λ (e : EdgeRef × EdgeRow). doc_at table e.0.target) (λ e. starts_at number key e.0) table.edges)
      ∙ list_any-filter_map (is_at (doc_cmp q)) (λ (e : EdgeRef × EdgeRow). if starts_at number key e.0 then doc_at table e.0.target else None) table.edges
      ∙ list_any-agree _ (λ (e : EdgeRef × EdgeRow). is_at (edge_cmp (edge_to number key q.id)) e.0 && is_of q q.id)
      (λ e. option_map_or-if (is_at (doc_cmp q)) (starts_at number key e.0) (doc_at table e.0.target) ∙ target_is q e.0) table.edges
      ∙ list_any-and (λ (e : EdgeRef × EdgeRow). is_at (edge_cmp (edge_to number key q.id)) e.0) (is_of q q.id) table.edges
      ∙ ap (λ b. b && is_of q q.id)
      (sym (list_any-map (is_at (edge_cmp (edge_to number key q.id))) (λ (e : EdgeRef × EdgeRow). e.0) table.edges)
      ∙ sym (is_some-lookup (is_at (edge_cmp (edge_to number key q.id))) table.edges))

  -- ids of one list that differ stay so as targets
  pub targets_apart : IsDistinct (eq_by_cmp edge_cmp) (keys_of table.edges) → IsDistinct (eq_by_cmp doc_cmp) targets_of
  targets_apart apart =
      subst (IsDistinct (eq_by_cmp doc_cmp)) (sym (filter_map-filter (λ (e : EdgeRef × EdgeRow). doc_at table e.0.target) (λ e. starts_at number key e.0) table.edges))
      (distinct-filter_map target (λ (e : EdgeRef × EdgeRow). e.0) (eq_by_cmp edge_cmp) (eq_by_cmp doc_cmp) differ table.edges apart)
    where
      target : EdgeRef × EdgeRow → Option DocKey
      target e = if starts_at number key e.0 then doc_at table e.0.target else None

      named : (id : ℕ) (o : Option EntityRow) (b : DocKey) → option_map (λ (row : EntityRow). record { rank = row.rank; id = id }) o ≡ Some b → b.id ≡ id
      named id None b e = cc
      named id (Some row) b e = let same : record { rank = row.rank; id = id } ≡ b = cc in ap (λ (d : DocKey). d.id) (sym same)

      leads : (e : EdgeRef) (t : Bool) (b : DocKey) → starts_at number key e ≡ t → (if t then doc_at table e.target else None) ≡ Some b → (starts_at number key e ≡ true) × (b.id ≡ e.target)
      leads e false b starts is = cc
      leads e true b starts is = (starts, named e.target (entity_at table e.target) b is)

      differ : (x y : EdgeRef × EdgeRow) (b c : DocKey) → target x ≡ Some b → target y ≡ Some c → eq_by_cmp edge_cmp x.0 y.0 ≡ false → eq_by_cmp doc_cmp b c ≡ false
      differ x y b c p q apart =
          let first = leads x.0 (starts_at number key x.0) b refl p in
          let second = leads y.0 (starts_at number key y.0) c refl q in
          let ids : is_eq (nat_cmp b.id c.id) ≡ false =
          rw (first.1, second.1, ← edge_cmp-starts number key x.0 y.0 first.0 second.0) apart in
          ids_differ b c ids
