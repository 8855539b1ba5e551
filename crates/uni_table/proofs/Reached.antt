-- The targets of the edges of a type and key, put in order, are the ranked entities that these edges
-- lead to.
use Rattle.std.proofs.lemmas.Bool.{and_parts}
use Rattle.std.proofs.Common.{◌≡◌, ℕ, ◌==◌, ◌&&◌, Bool, true, false, List, [], ◌∷◌, Option, None, Some, refl, sym, ◌∙◌, ap, subst, is_some, map, cond, filter, arith, length, ◌<◌, slice_get, get_or}
use Rattle.std.proofs.lemmas.Option.{slice_get-get_or}
use Rattle.std.specs.Cmp.{eq_by_cmp_equiv}
use Rattle.std.specs.Ordering.{nat_cmp, is_eq, eq_by_cmp, ordering_then}
use Rattle.std.specs.Option.{option_map, option_map_or}
use Rattle.std.specs.List.{list_any, list_all, filter_map, cons_option, AllByRecursion, Contains}
use Rattle.std.specs.List.Sorted.{IsSorted, IsSortedByKey, IsPermutation}
use Rattle.std.specs.Map.{keys_of, lookup}
use Rattle.std.specs.BTreeMap.{is_at}
use Rattle.std.proofs.lemmas.Bool.Decides.{nat_tests}
use Rattle.std.proofs.lemmas.List.Kept.{IsStrictlySortedBy-filter}
use Rattle.std.proofs.lemmas.List.Elements.{All-from_recursion, recursion_from_All}
use Rattle.std.proofs.lemmas.List.Sorted.{list_any-IsPermutation, IsPermutation-map, IsPermutation-trans, All-permutation}
use Rattle.std.proofs.lemmas.Map.Views.{lookup-from_Contains}
use Rattle.std.proofs.lemmas.Map.Keys.{IsDistinct-from_sorted, IsDistinct-IsPermutation}
use Rattle.std.proofs.lemmas.Map.Lookups.{btree_set_from_contains}
use Rattle.std.proofs.lemmas.Map.Made.{is_some-lookup, is_member-filter}
use Rattle.uni_base.specs.declared.entity.DocKey.{DocKey}
use Rattle.uni_base.specs.declared.edge.EdgeRef.{EdgeRef}
use Rattle.uni_base.specs.declared.edge.Audience.{Audience}
use Rattle.uni_base.specs.declared.edge.Key.{Key}
use Rattle.uni_base.specs.declared.entity.Rank.{Rank}
use Rattle.uni_base.specs.declared.edge.Held.{Held}
use Rattle.uni_base.specs.declared.limits.Limits.{Limits}
use Rattle.uni_base.specs.EdgeOrder.{edge_cmp, key_cmp}
use Rattle.uni_base.specs.RankOrder.{doc_cmp}
use Rattle.uni_schema.specs.Schema.{Declarations, type_at}
use Rattle.uni_schema.specs.declared.schema.TypeDef.{TypeDef}
use Rattle.uni_table.specs.declared.command.EdgeRow.{EdgeRow}
use Rattle.uni_table.specs.declared.command.EntityRow.{EntityRow}
use Rattle.uni_table.specs.Contents.{Contents, starts_at, entity_at, edge_at, audience_at, has_edge, is_in, target_stands}
use Rattle.uni_table.specs.Ranked.{ranked_all, held_at, doc_at, reached_of}
use Rattle.uni_table.specs.TableState.{IsKept}
use Rattle.uni_table.specs.Added.{Adds}
use Rattle.uni_table.specs.Lists.{held_of}
use Rattle.uni_table.specs.Targets.{target_of, held_to}
use Rattle.uni_table.specs.declared.table.reached.Target.{Target}
use Rattle.uni_table.proofs.Additions.{adds_all}
use Rattle.uni_table.proofs.InOrder.{keys_sorted}
use Rattle.uni_table.proofs.Keys.{starts_from}
use Rattle.uni_table.proofs.Kept.{edge_total}
use Rattle.uni_table.proofs.Listed.{first_is, later_is}
use Rattle.uni_table.proofs.Permuted.{permuted-filter_map}
use Rattle.uni_table.proofs.Compared.{same_number, is_eq-then, equal_from}
use Rattle.uni_table.proofs.DocKeys.{doc_total, and_false, exact_key, flips}
use Rattle.uni_table.proofs.Filters.{found_passes, filter_map-some, is_some-option_map, list_all-map}
use Rattle.uni_table.proofs.Placed.{sorted_apart}
use Rattle.uni_table.proofs.Starts.{edge_to}
use Rattle.uni_table.proofs.TargetsOf.{targets_of, among_targets, targets_apart}
use Rattle.uni_table.proofs.RankedIn.{fits, among_ranked, ranked_ascends}

-- the target of an edge that is there is an entity of the type's target vertical
pub edge_leads : (schema : Declarations) (table : Contents) (number : ℕ) (key : Key) (type_def : TypeDef) → type_at schema number ≡ Some type_def
    → list_all (λ e. target_stands schema table e.0) table.edges ≡ true → (id : ℕ) → has_edge table (edge_to number key id) ≡ true → is_in table type_def.target id ≡ true
edge_leads schema table number key type_def declared stands id there =
    found_passes (is_at (edge_cmp (edge_to number key id))) (target_stands schema table) (is_in table type_def.target id ≡ true) here (keys_of table.edges)
    (list_all-map (target_stands schema table) (λ (e : EdgeRef × EdgeRow). e.0) table.edges ∙ stands)
    (sym (is_some-lookup (is_at (edge_cmp (edge_to number key id))) table.edges) ∙ there)
  where
    here : (edge : EdgeRef) → is_at (edge_cmp (edge_to number key id)) edge ≡ true → target_stands schema table edge ≡ true → is_in table type_def.target id ≡ true
    here edge at stands_there =
        let first = and_parts (is_eq (nat_cmp number edge.type_no)) (is_eq (ordering_then (key_cmp key edge.key) (nat_cmp id edge.target)))
        (sym (is_eq-then (nat_cmp number edge.type_no) (ordering_then (key_cmp key edge.key) (nat_cmp id edge.target))) ∙ at) in
        let second = and_parts (is_eq (key_cmp key edge.key)) (is_eq (nat_cmp id edge.target))
        (sym (is_eq-then (key_cmp key edge.key) (nat_cmp id edge.target)) ∙ first.1) in
        let known : type_at schema edge.type_no ≡ Some type_def = ap (type_at schema) (sym (same_number number edge.type_no first.0)) ∙ declared in
        let at_target : is_in table type_def.target edge.target ≡ true = rw known at stands_there in
        ap (is_in table type_def.target) (same_number id edge.target second.1) ∙ at_target

-- an edge is given with its audience exactly if it is there
pub held_is_there : (table : Contents) (number : ℕ) (key : Key) (id : ℕ) → is_some (held_at table number key id) ≡ has_edge table (edge_to number key id)
held_is_there table number key id =
    is_some-option_map (λ (audience : Audience). record { edge = edge_to number key id; audience = audience }) (audience_at table (edge_to number key id))
    ∙ is_some-option_map (λ (row : EdgeRow). row.audience) (edge_at table (edge_to number key id))

-- the entities that the edges of a type and key lead to, among those of its target vertical
same_members : (schema : Declarations) {limits : Limits} (table : Contents) (number : ℕ) (key : Key) (type_def : TypeDef) → type_at schema number ≡ Some type_def → IsKept schema limits table
    → (q : DocKey) → list_any (is_at (doc_cmp q)) (targets_of table number key) ≡ list_any (is_at (doc_cmp q)) (filter (λ k. is_some (held_at table number key k.id)) (ranked_all table type_def.target))
same_members schema table number key type_def declared kept q =
    among_targets table number key q
    ∙ by (has_edge table (edge_to number key q.id)) refl
    ∙ ap (λ b. b && has_edge table (edge_to number key q.id)) (sym (among_ranked table type_def.target kept.entities q))
    ∙ ap (λ b. list_any (is_at (doc_cmp q)) (ranked_all table type_def.target) && b) (sym (held_is_there table number key q.id))
    ∙ sym (is_member-filter {eq = eq_by_cmp doc_cmp} (eq_by_cmp_equiv doc_total) (λ k. is_some (held_at table number key k.id)) q (λ x e. ap (λ (k : DocKey). is_some (held_at table number key k.id)) (exact_key q x (equal_from (doc_cmp q x) e))) (ranked_all table type_def.target))
  where
    by : (b : Bool) → has_edge table (edge_to number key q.id) ≡ b
        → (has_edge table (edge_to number key q.id) && option_map_or (λ d. is_at (doc_cmp q) d) (doc_at table q.id) false)
        ≡ (option_map_or (fits type_def.target q.rank.0) (entity_at table q.id) false && has_edge table (edge_to number key q.id))
    by true e = rw e (at_row (entity_at table q.id) (edge_leads schema table number key type_def declared kept.targets q.id e))
      where
        self : is_eq (nat_cmp q.id q.id) ≡ true
        self = grind (arith, nat_tests)

        and_true : (t : Bool) → (t && true) ≡ ((true && t) && true)
        and_true true = refl
        and_true false = refl

        at_row : (o : Option EntityRow) → option_map_or (λ (row : EntityRow). row.vertical == type_def.target) o false ≡ true
            → option_map_or (λ d. is_at (doc_cmp q) d) (option_map (λ (row : EntityRow). record { rank = row.rank; id = q.id }) o) false
            ≡ (option_map_or (fits type_def.target q.rank.0) o false && true)
        at_row None h = cc
        at_row (Some row) h =
            rw h (is_eq-then (nat_cmp row.rank.0 q.rank.0) (nat_cmp q.id q.id) ∙ ap (λ t. is_eq (nat_cmp row.rank.0 q.rank.0) && t) self
            ∙ and_true (is_eq (nat_cmp row.rank.0 q.rank.0)))
    by false e = rw e (sym (and_false (option_map_or (fits type_def.target q.rank.0) (entity_at table q.id) false)))

module _ (schema : Declarations) {limits : Limits} (table : Contents) (number : ℕ) (key : Key) (type_def : TypeDef) (declared : type_at schema number ≡ Some type_def) (kept : IsKept schema limits table) where
  -- whether the edge to an entity is there
  abbrev leads_to : DocKey → Bool
  leads_to k = is_some (held_at table number key k.id)

  -- the targets in order are the ranked entities that the edges lead to
  targets_are : (ks : List DocKey) → IsPermutation (targets_of table number key) ks → IsSorted doc_cmp ks → filter leads_to (ranked_all table type_def.target) ≡ ks
  targets_are ks permutation sorted =
      btree_set_from_contains doc_total (record { keys = filter leads_to (ranked_all table type_def.target) }) (record { keys = ks })
      (IsStrictlySortedBy-filter doc_cmp leads_to (ranked_all table type_def.target) (ranked_ascends table type_def.target kept.entities))
      (sorted_apart doc_total ks sorted (IsDistinct-IsPermutation (eq_by_cmp doc_cmp) flips (targets_of table number key) ks permutation (targets_apart table number key (IsDistinct-from_sorted edge_cmp (keys_of table.edges) kept.edges))))
      (λ q. sym (same_members schema table number key type_def declared kept q) ∙ list_any-IsPermutation (is_at (doc_cmp q)) (targets_of table number key) ks permutation)
      exact_key

  -- so their edges are those of the type and key in rank order
  pub reached-is : (ks : List DocKey) → IsPermutation (targets_of table number key) ks → IsSorted doc_cmp ks → filter_map (λ k. held_at table number key k.id) ks ≡ reached_of schema table number key
  reached-is ks permutation sorted =
      rw declared
      (ap (filter_map (λ (k : DocKey). held_at table number key k.id)) (sym (targets_are ks permutation sorted))
      ∙ filter_map-some (λ (k : DocKey). held_at table number key k.id) (ranked_all table type_def.target))

-- a number that is declared has a type
pub declared_type : (schema : Declarations) (number : ℕ) → number < length schema.types → (type_def : TypeDef) × (type_at schema number ≡ Some type_def)
declared_type schema number below = by schema.types number below
  where
    by : (types : List TypeDef) (n : ℕ) → n < length types → (type_def : TypeDef) × (slice_get types n ≡ Some type_def)
    by [] n below = absurd (omega arith)
    by (t ∷ ts) n below = (get_or (t ∷ ts) n t, slice_get-get_or (t ∷ ts) n t below)

module _ (table : Contents) (number : ℕ) (key : Key) where
  -- what an edge of the type and key leads to, and the edge that is given there
  abbrev IsHeldAt : Target → Type 0
  IsHeldAt target = held_at table number key target.doc.id ≡ Some (held_to number key target)

  -- of edges of the type and key, each as the table has it
  abbrev IsSuch : EdgeRef × EdgeRow → Type 0
  IsSuch e = (starts_at number key e.0 ≡ true) × (lookup (is_at (edge_cmp e.0)) table.edges ≡ Some e.1)

  -- the places in rank order
  target_docs : (es : List (EdgeRef × EdgeRow)) → map (λ (t : Target). t.doc) (filter_map (target_of table) (map held_of es)) ≡ filter_map (λ e. doc_at table e.0.target) es
  target_docs [] = refl
  target_docs (e ∷ es) = by (doc_at table e.0.target) (target_docs es)
    where
      by : (o : Option DocKey) → map (λ (t : Target). t.doc) (filter_map (target_of table) (map held_of es)) ≡ filter_map (λ (f : EdgeRef × EdgeRow). doc_at table f.0.target) es
          → map (λ (t : Target). t.doc) (cons_option (option_map (λ doc. record { doc = doc; audience = e.1.audience }) o) (filter_map (target_of table) (map held_of es)))
          ≡ cons_option o (filter_map (λ (f : EdgeRef × EdgeRow). doc_at table f.0.target) es)
      by None later = later
      by (Some doc) later = ap (λ (ks : List DocKey). doc ∷ ks) later

  -- and the edges
  all_targets : (es : List (EdgeRef × EdgeRow)) → AllByRecursion IsSuch es → AllByRecursion IsHeldAt (filter_map (target_of table) (map held_of es))
  all_targets [] all = tt
  all_targets (e ∷ es) all = by (entity_at table e.0.target) (all_targets es all.1)
    where
      from : (number ≡ e.0.type_no) × (key ≡ e.0.key)
      from = starts_from e.0 key all.0.0

      edge : edge_to number key e.0.target ≡ e.0
      edge = λ i. record { type_no = from.0 i; key = from.1 i; target = e.0.target }

      here : (rank : Rank) → IsHeldAt (record { doc = record { rank = rank; id = e.0.target }; audience = e.1.audience })
      here rank =
          ap (λ o. option_map (λ audience. record { edge = edge_to number key e.0.target; audience = audience }) (option_map (λ (row : EdgeRow). row.audience) o))
          (ap (λ (x : EdgeRef). lookup (is_at (edge_cmp x)) table.edges) edge ∙ all.0.1)

      by : (o : Option EntityRow) → AllByRecursion IsHeldAt (filter_map (target_of table) (map held_of es))
          → AllByRecursion IsHeldAt (cons_option (option_map (λ (doc : DocKey). record { doc = doc; audience = e.1.audience }) (option_map (λ (row : EntityRow). record { rank = row.rank; id = e.0.target }) o)) (filter_map (target_of table) (map held_of es)))
      by None later = later
      by (Some row) later = (here row.rank, later)

  given_all : (us : List Target) → AllByRecursion IsHeldAt us → map (held_to number key) us ≡ filter_map (λ (k : DocKey). held_at table number key k.id) (map (λ (t : Target). t.doc) us)
  given_all [] all = refl
  given_all (u ∷ us) all =
      ap (λ (hs : List Held). held_to number key u ∷ hs) (given_all us all.1)
      ∙ ap (λ o. cons_option o (filter_map (λ (k : DocKey). held_at table number key k.id) (map (λ (t : Target). t.doc) us))) (sym all.0)

  such_all : (es fs : List (EdgeRef × EdgeRow)) → ((e : EdgeRef × EdgeRow) → Contains es e → lookup (is_at (edge_cmp e.0)) table.edges ≡ Some e.1) → AllByRecursion IsSuch (filter (λ (e : EdgeRef × EdgeRow). starts_at number key e.0) es)
  such_all [] fs found = tt
  such_all (e ∷ es) fs found = by (starts_at number key e.0) refl (such_all es fs (λ x there. found x (later_is e es x there)))
    where
      rest : List (EdgeRef × EdgeRow)
      rest = filter (λ (x : EdgeRef × EdgeRow). starts_at number key x.0) es

      by : (b : Bool) → starts_at number key e.0 ≡ b → AllByRecursion IsSuch rest → AllByRecursion IsSuch (cond b (e ∷ rest) rest)
      by true is later = ((is, found e (first_is e es)), later)
      by false is later = later

  -- the edges of the type and key, each to what it leads to, in rank order of these
  pub held-is : (schema : Declarations) {limits : Limits} (type_def : TypeDef) → type_at schema number ≡ Some type_def → IsKept schema limits table → (hs : List Held) (ts us : List Target)
      → Adds [] hs (map held_of (filter (λ e. starts_at number key e.0) table.edges)) → ts ≡ filter_map (target_of table) hs → IsPermutation ts us → IsSortedByKey (λ t. t.doc) doc_cmp us
      → map (held_to number key) us ≡ reached_of schema table number key
  held-is schema type_def declared kept hs ts us added is same up =
      let es : List (EdgeRef × EdgeRow) = filter (λ (e : EdgeRef × EdgeRow). starts_at number key e.0) table.edges in
      let all : List Target = filter_map (target_of table) (map held_of es) in
      let first : IsPermutation all ts = subst (IsPermutation all) (sym is) (permuted-filter_map (target_of table) (map held_of es) hs (adds_all hs (map held_of es) added)) in
      let both : IsPermutation all us = IsPermutation-trans all ts us first same in
      let found : AllByRecursion IsSuch es =
      such_all table.edges [] (λ e there. lookup-from_Contains {eq = eq_by_cmp edge_cmp} (eq_by_cmp_equiv edge_total) e.0 e.1 table.edges (IsDistinct-from_sorted edge_cmp (keys_of table.edges) kept.edges) there) in
      let docs : IsPermutation (targets_of table number key) (map (λ (t : Target). t.doc) us) =
      subst (λ (ks : List DocKey). IsPermutation ks (map (λ (t : Target). t.doc) us)) (target_docs es) (IsPermutation-map (λ (t : Target). t.doc) all us both) in
      given_all us (recursion_from_All IsHeldAt us (All-permutation IsHeldAt all us both (All-from_recursion IsHeldAt all (all_targets es found))))
      ∙ reached-is schema table number key type_def declared kept (map (λ (t : Target). t.doc) us) docs (keys_sorted (λ (t : Target). t.doc) doc_total exact_key us up)
