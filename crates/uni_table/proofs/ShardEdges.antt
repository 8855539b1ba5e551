-- The edges that are kept in a shard are the index edges that reach its entities, and the forward edges
-- that leave them.
use Rattle.std.proofs.Common.{◌≡◌, ◌<◌, ℕ, ◌==◌, ◌&&◌, ◌||◌, not, Bool, true, false, List, [], ◌∷◌, Option, None, Some, cond, refl, sym, ◌∙◌, ap, subst, map, filter, length, arith, nat_lt, if◌then◌else◌}
use Rattle.std.proofs.lemmas.Bool.{and_parts, eqb-true}
use Rattle.std.proofs.lemmas.Bool.Decides.{nat_tests}
use Rattle.std.proofs.lemmas.List.Elements.{All-from_recursion}
use Rattle.std.proofs.lemmas.List.Sorted.{IsPermutation-trans, All-permutation, list_any-IsPermutation}
use Rattle.std.proofs.lemmas.Map.Keys.{IsDistinct-head, IsDistinct-tail, IsDistinct-cons, IsDistinct-from_sorted, IsDistinct-IsPermutation}
use Rattle.std.specs.List.{list_any, list_all, AllByRecursion, IsDistinct}
use Rattle.std.specs.List.Sorted.{IsPermutation, IsSortedByKey}
use Rattle.std.specs.Map.{keys_of, lookup}
use Rattle.std.specs.Option.{option_map_or}
use Rattle.std.specs.Ordering.{nat_cmp, is_eq, eq_by_cmp}
use Rattle.std.specs.BTreeMap.{is_at}
use Rattle.uni_base.specs.declared.edge.EdgeRef.{EdgeRef}
use Rattle.uni_base.specs.declared.edge.Held.{Held}
use Rattle.uni_base.specs.declared.edge.Key.{Key}
use Rattle.uni_base.specs.declared.edge.Key.TheVariants.{Id, Word}
use Rattle.uni_base.specs.declared.entity.DocKey.{DocKey}
use Rattle.uni_base.specs.declared.limits.Limits.{Limits}
use Rattle.uni_base.specs.EdgeOrder.{edge_cmp}
use Rattle.uni_schema.specs.Schema.{Declarations, type_at, shard_of, source_of, is_index}
use Rattle.uni_schema.specs.declared.schema.Origin.{Origin}
use Rattle.uni_schema.specs.declared.schema.Origin.TheVariants.{Vertical, Words}
use Rattle.uni_schema.specs.declared.schema.TypeDef.{TypeDef}
use Rattle.uni_table.specs.Added.{Adds}
use Rattle.uni_table.specs.Contents.{Contents, entity_at, is_in, leaves, target_stands, key_stands, source_stands}
use Rattle.uni_table.specs.Lists.{held_of, shard_edges, is_kept_in, is_kept_by, keeps_target, keeps_source, starts_in}
use Rattle.uni_table.specs.Ranked.{doc_of, is_of_shard}
use Rattle.uni_table.specs.Shards.{AreApart, AreDeclared, reaches_any, leaves_any_forward, is_forward_type, is_indexed}
use Rattle.uni_table.specs.TableState.{IsKept}
use Rattle.uni_table.specs.declared.command.EdgeRow.{EdgeRow}
use Rattle.uni_table.specs.declared.command.EntityRow.{EntityRow}
use Rattle.uni_table.proofs.Additions.{adds_all, adds_either, filter-agree, filter-twice}
use Rattle.uni_table.proofs.Apart.{distinct_nil}
use Rattle.uni_table.proofs.Compared.{same_either_way}
use Rattle.uni_table.proofs.Entries.{sorted-filter}
use Rattle.uni_table.proofs.Filters.{list_any-map, list_any-filter, list_any-and}
use Rattle.uni_table.proofs.Gone.{declared_from}
use Rattle.uni_table.proofs.InOrder.{edges_in_order}
use Rattle.uni_table.proofs.Permuted.{permuted-filter}
use Rattle.uni_table.proofs.Touching.{filter-map}

-- an entity that passes a test, among entities of which each id is one's
any-at : (test : ℕ × EntityRow → Bool) (id : ℕ) (es : List (ℕ × EntityRow)) → IsDistinct (eq_by_cmp nat_cmp) (keys_of es)
    → list_any (λ e. test e && (e.0 == id)) es ≡ option_map_or (λ row. test (id, row)) (lookup (is_at (nat_cmp id)) es) false
any-at test id [] apart = refl
any-at test id (e ∷ es) apart = by (e.0 == id) refl (any-at test id es (IsDistinct-tail (eq_by_cmp nat_cmp) e.0 (keys_of es) apart))
  where
    flip : (a b : ℕ) (t : Bool) → (a == b) ≡ t → is_eq (nat_cmp b a) ≡ t
    flip a b t e = grind (arith, nat_tests, e)

    far : (a b : ℕ) → is_eq (nat_cmp a b) ≡ false → (b == a) ≡ false
    far a b e = grind (arith, nat_tests)

    none : (n : ℕ) (fs : List (ℕ × EntityRow)) → AllByRecursion (λ k. eq_by_cmp nat_cmp n k ≡ false) (keys_of fs) → list_any (λ f. test f && (f.0 == n)) fs ≡ false
    none n [] all = refl
    none n (f ∷ fs) all = rw (far n f.0 all.0) (no (test f) (none n fs all.1))
      where
        no : (t : Bool) → list_any (λ (g : ℕ × EntityRow). test g && (g.0 == n)) fs ≡ false → ((t && false) || list_any (λ (g : ℕ × EntityRow). test g && (g.0 == n)) fs) ≡ false
        no true later = later
        no false later = later

    by : (b : Bool) → (e.0 == id) ≡ b → list_any (λ (f : ℕ × EntityRow). test f && (f.0 == id)) es ≡ option_map_or (λ row. test (id, row)) (lookup (is_at (nat_cmp id)) es) false
        → ((test e && b) || list_any (λ (f : ℕ × EntityRow). test f && (f.0 == id)) es) ≡ option_map_or (λ row. test (id, row)) (cond (is_eq (nat_cmp id e.0)) (Some e.1) (lookup (is_at (nat_cmp id)) es)) false
    by true is later =
        let same : e.0 ≡ id = eqb-true e.0 id is in
        let rest : list_any (λ (f : ℕ × EntityRow). test f && (f.0 == id)) es ≡ false =
        subst (λ n. list_any (λ (f : ℕ × EntityRow). test f && (f.0 == n)) es ≡ false) same (none e.0 es (IsDistinct-head (eq_by_cmp nat_cmp) e.0 (keys_of es) apart)) in
        rw (flip e.0 id true is) (ap (λ b. (test e && true) || b) rest ∙ whole (test e) ∙ ap (λ n. test (n, e.1)) same)
      where
        whole : (t : Bool) → ((t && true) || false) ≡ t
        whole true = refl
        whole false = refl
    by false is later = rw (flip e.0 id false is) (nothing (test e) ∙ later)
      where
        nothing : (t : Bool) {r : Bool} → ((t && false) || r) ≡ r
        nothing true = refl
        nothing false = refl

module _ (schema : Declarations) (limits : Limits) (table : Contents) (kept : IsKept schema limits table) (vertical shard : ℕ) where
  -- the entities of the shard
  abbrev members : List DocKey
  members = map doc_of (filter (is_of_shard schema vertical shard) table.entities)

  -- an id is among them exactly if its entity is of the shard
  member_at : (id : ℕ) → list_any (λ (k : DocKey). k.id == id) members ≡ option_map_or (λ row. row.vertical == vertical && shard_of schema vertical id == shard) (entity_at table id) false
  member_at id =
      list_any-map (λ (k : DocKey). k.id == id) doc_of (filter (is_of_shard schema vertical shard) table.entities)
      ∙ list_any-filter (λ (e : ℕ × EntityRow). e.0 == id) (is_of_shard schema vertical shard) table.entities
      ∙ any-at (is_of_shard schema vertical shard) id table.entities (IsDistinct-from_sorted nat_cmp (keys_of table.entities) kept.entities)

  -- no two of them have one id
  ids_apart : (es : List (ℕ × EntityRow)) → IsDistinct (eq_by_cmp nat_cmp) (keys_of es) → AreApart (map doc_of es)
  ids_apart [] apart = distinct_nil (λ (a b : DocKey). a.id == b.id)
  ids_apart (e ∷ es) apart =
      IsDistinct-cons (λ (a b : DocKey). a.id == b.id) (doc_of e) (map doc_of es) (far es (IsDistinct-head (eq_by_cmp nat_cmp) e.0 (keys_of es) apart))
      (ids_apart es (IsDistinct-tail (eq_by_cmp nat_cmp) e.0 (keys_of es) apart))
    where
      differ : (a b : ℕ) → is_eq (nat_cmp a b) ≡ false → (a == b) ≡ false
      differ a b h = grind (arith, nat_tests)

      far : (fs : List (ℕ × EntityRow)) → AllByRecursion (λ n. eq_by_cmp nat_cmp e.0 n ≡ false) (keys_of fs) → AllByRecursion (λ (k : DocKey). (e.0 == k.id) ≡ false) (map doc_of fs)
      far [] all = tt
      far (f ∷ fs) all = (differ e.0 f.0 all.0, far fs all.1)

  pub members_apart : (docs : List DocKey) → IsPermutation members docs → AreApart docs
  members_apart docs same =
      IsDistinct-IsPermutation (λ (a b : DocKey). a.id == b.id) (λ a b. same_either_way a.id b.id) members docs same
      (ids_apart (filter (is_of_shard schema vertical shard) table.entities)
      (IsDistinct-from_sorted nat_cmp (keys_of (filter (is_of_shard schema vertical shard) table.entities)) (sorted-filter nat_cmp (is_of_shard schema vertical shard) table.entities kept.entities)))

  -- the types of edges that the table has are declared
  pub all_declared : (p : EdgeRef × EdgeRow → Bool) (held : List Held) → IsPermutation (map held_of (filter p table.edges)) held → AreDeclared schema held
  all_declared p held same =
      All-permutation (λ (h : Held). h.edge.type_no < length schema.types) (map held_of (filter p table.edges)) held same
      (All-from_recursion (λ (h : Held). h.edge.type_no < length schema.types) (map held_of (filter p table.edges)) (each table.edges kept.targets))
    where
      within : (a b : ℕ) → nat_lt a b ≡ true → a < b
      within a b h = grind (arith, nat_tests)

      each : (es : List (EdgeRef × EdgeRow)) → list_all (λ (e : EdgeRef × EdgeRow). target_stands schema table e.0) es ≡ true
          → AllByRecursion (λ (h : Held). h.edge.type_no < length schema.types) (map held_of (filter p es))
      each [] all = tt
      each (e ∷ es) all =
          let parts = and_parts (target_stands schema table e.0) (list_all (λ (f : EdgeRef × EdgeRow). target_stands schema table f.0) es) all in
          by (p e) (within e.0.type_no (length schema.types) (declared_from schema table e.0 parts.0)) (each es parts.1)
        where
          by : (b : Bool) → e.0.type_no < length schema.types → AllByRecursion (λ (h : Held). h.edge.type_no < length schema.types) (map held_of (filter p es))
              → AllByRecursion (λ (h : Held). h.edge.type_no < length schema.types) (map held_of (cond b (e ∷ filter p es) (filter p es)))
          by true here later = (here, later)
          by false here later = later

  module _ (docs : List DocKey) (same : IsPermutation members docs) where
    -- an id is among the entities in another order alike
    among : (id : ℕ) → list_any (λ (k : DocKey). k.id == id) docs ≡ option_map_or (λ row. row.vertical == vertical && shard_of schema vertical id == shard) (entity_at table id) false
    among id = sym (list_any-IsPermutation (λ (k : DocKey). k.id == id) members docs same) ∙ member_at id

    -- an id of an entity of some vertical
    among_in : (of id : ℕ) → is_in table of id ≡ true → list_any (λ (k : DocKey). k.id == id) docs ≡ (of == vertical && shard_of schema vertical id == shard)
    among_in of id there = among id ∙ by (entity_at table id) there
      where
        by : (o : Option EntityRow) → option_map_or (λ (row : EntityRow). row.vertical == of) o false ≡ true
            → option_map_or (λ (row : EntityRow). row.vertical == vertical && shard_of schema vertical id == shard) o false ≡ (of == vertical && shard_of schema vertical id == shard)
        by None h = cc
        by (Some row) h = ap (λ n. n == vertical && shard_of schema vertical id == shard) (eqb-true row.vertical of h)

    -- a source of forward edges
    source_among : (origin : Origin) (key : Key) → source_stands table origin key ≡ true
        → option_map_or (λ source. starts_in vertical origin && shard_of schema vertical source == shard) (source_of key) false
        ≡ (list_any (λ (k : DocKey). option_map_or (λ source. k.id == source) (source_of key) false) docs && starts_in vertical origin)
    source_among Words (Id id) stands = sym (nothing (list_any (λ (k : DocKey). k.id == id) docs))
      where
        nothing : (b : Bool) → (b && false) ≡ false
        nothing true = refl
        nothing false = refl
    source_among Words (Word text) stands = sym (nothing (list_any (λ (k : DocKey). false) docs))
      where
        nothing : (b : Bool) → (b && false) ≡ false
        nothing true = refl
        nothing false = refl
    source_among (Vertical of) (Word text) stands = cc
    source_among (Vertical of) (Id id) stands =
        both (of == vertical) (shard_of schema vertical id == shard) ∙ ap (λ b. b && of == vertical) (sym (among_in of id stands))
      where
        both : (a b : Bool) → (a && b) ≡ ((a && b) && a)
        both true true = refl
        both true false = refl
        both false b = refl

    -- an edge that stands is kept in the shard exactly if it is an index edge that reaches one of the entities,
    -- or a forward edge that leaves one
    kept_as : (e : EdgeRef × EdgeRow) → (target_stands schema table e.0 && key_stands schema table e.0) ≡ true
        → ((reaches_any docs e.0 && is_indexed schema (held_of e)) || leaves_any_forward schema vertical docs e.0) ≡ is_kept_in schema vertical shard e.0
    kept_as e stands =
        ap (λ b. (reached && is_indexed schema (held_of e)) || b) (list_any-and (λ (k : DocKey). leaves k.id e.0) (is_forward_type schema vertical e.0.type_no) docs)
        ∙ by (type_at schema e.0.type_no) (and_parts (target_stands schema table e.0) (key_stands schema table e.0) stands).0 (and_parts (target_stands schema table e.0) (key_stands schema table e.0) stands).1
      where
        reached : Bool
        reached = reaches_any docs e.0

        left : Bool
        left = list_any (λ (k : DocKey). leaves k.id e.0) docs

        of_index : (r l s : Bool) → ((r && true) || (l && (false && s))) ≡ r
        of_index true l s = refl
        of_index false true s = refl
        of_index false false s = refl

        of_forward : (r l s : Bool) → ((r && false) || (l && (true && s))) ≡ (l && s)
        of_forward true l s = refl
        of_forward false l s = refl

        at : (type_def : TypeDef) (b : Bool) → is_in table type_def.target e.0.target ≡ true → source_stands table type_def.origin e.0.key ≡ true
            → ((reached && b) || (left && (not b && starts_in vertical type_def.origin)))
            ≡ (if b then keeps_target schema vertical shard type_def e.0.target else option_map_or (keeps_source schema vertical shard type_def) (source_of e.0.key) false)
        at type_def true target source = of_index reached left (starts_in vertical type_def.origin) ∙ among_in type_def.target e.0.target target
        at type_def false target source = of_forward reached left (starts_in vertical type_def.origin) ∙ sym (source_among type_def.origin e.0.key source)

        by : (o : Option TypeDef) → option_map_or (λ (type_def : TypeDef). is_in table type_def.target e.0.target) o false ≡ true
            → option_map_or (λ (type_def : TypeDef). source_stands table type_def.origin e.0.key) o false ≡ true
            → ((reached && option_map_or (λ (type_def : TypeDef). is_index type_def.store) o false)
            || (left && option_map_or (λ (type_def : TypeDef). not (is_index type_def.store) && starts_in vertical type_def.origin) o false))
            ≡ option_map_or (is_kept_by schema vertical shard e.0) o false
        by None target source = cc
        by (Some type_def) target source = at type_def (is_index type_def.store) target source

    -- no index edge is a forward edge
    index_alone : (e : EdgeRef × EdgeRow) → (reaches_any docs e.0 && is_indexed schema (held_of e)) ≡ true → leaves_any_forward schema vertical docs e.0 ≡ false
    index_alone e is =
        list_any-and (λ (k : DocKey). leaves k.id e.0) (is_forward_type schema vertical e.0.type_no) docs
        ∙ by (type_at schema e.0.type_no) (list_any (λ (k : DocKey). leaves k.id e.0) docs) (and_parts (reaches_any docs e.0) (is_indexed schema (held_of e)) is).1
      where
        at : (l b s : Bool) → b ≡ true → (l && (not b && s)) ≡ false
        at true true s h = refl
        at false true s h = refl
        at l false s h = cc

        by : (o : Option TypeDef) (l : Bool) → option_map_or (λ (type_def : TypeDef). is_index type_def.store) o false ≡ true
            → (l && option_map_or (λ (type_def : TypeDef). not (is_index type_def.store) && starts_in vertical type_def.origin) o false) ≡ false
        by None l h = cc
        by (Some type_def) l h = at l (is_index type_def.store) (starts_in vertical type_def.origin) h

    all_stand : list_all (λ (e : EdgeRef × EdgeRow). target_stands schema table e.0 && key_stands schema table e.0) table.edges ≡ true
    all_stand = by table.edges kept.targets kept.keys
      where
        by : (es : List (EdgeRef × EdgeRow)) → list_all (λ (e : EdgeRef × EdgeRow). target_stands schema table e.0) es ≡ true → list_all (λ (e : EdgeRef × EdgeRow). key_stands schema table e.0) es ≡ true
            → list_all (λ (e : EdgeRef × EdgeRow). target_stands schema table e.0 && key_stands schema table e.0) es ≡ true
        by [] targets keys = refl
        by (e ∷ es) targets keys =
            let first = and_parts (target_stands schema table e.0) (list_all (λ (f : EdgeRef × EdgeRow). target_stands schema table f.0) es) targets in
            let second = and_parts (key_stands schema table e.0) (list_all (λ (f : EdgeRef × EdgeRow). key_stands schema table f.0) es) keys in
            rw (first.0, second.0) (by es first.1 second.1)

    -- so the two together, in the table's order, are the edges of the shard
    pub shard-is : (reaching indexed all listed : List Held) → Adds [] reaching (map held_of (filter (λ e. reaches_any docs e.0) table.edges)) → Adds [] indexed (filter (is_indexed schema) reaching)
        → Adds indexed all (map held_of (filter (λ e. leaves_any_forward schema vertical docs e.0) table.edges))
        → IsPermutation all listed → IsSortedByKey (λ h. h.edge) edge_cmp listed → listed ≡ shard_edges schema table vertical shard
    shard-is reaching indexed all listed one two three permuted up =
        edges_in_order (filter in_shard table.edges) (sorted-filter edge_cmp in_shard table.edges kept.edges) listed
        (IsPermutation-trans (shard_edges schema table vertical shard) all listed
        (subst (λ (es : List (EdgeRef × EdgeRow)). IsPermutation (map held_of es) all) (filter-agree (λ (e : EdgeRef × EdgeRow). target_stands schema table e.0 && key_stands schema table e.0) either in_shard kept_as table.edges all_stand)
        (adds_all all (map held_of (filter either table.edges))
        (adds_either held_of by_index (λ (e : EdgeRef × EdgeRow). leaves_any_forward schema vertical docs e.0) either index_alone (λ e. refl) table.edges [] indexed all
        (record { added = indexed; is = refl; same = from_index }) three))) permuted) up
      where
        in_shard : EdgeRef × EdgeRow → Bool
        in_shard e = is_kept_in schema vertical shard e.0

        by_index : EdgeRef × EdgeRow → Bool
        by_index e = reaches_any docs e.0 && is_indexed schema (held_of e)

        either : EdgeRef × EdgeRow → Bool
        either e = by_index e || leaves_any_forward schema vertical docs e.0

        found : List (EdgeRef × EdgeRow)
        found = filter (λ (e : EdgeRef × EdgeRow). reaches_any docs e.0) table.edges

        from_index : IsPermutation (map held_of (filter by_index table.edges)) indexed
        from_index =
            subst (λ (hs : List Held). IsPermutation hs indexed)
            (filter-map held_of (is_indexed schema) found ∙ ap (map held_of) (filter-twice (λ (e : EdgeRef × EdgeRow). is_indexed schema (held_of e)) (λ (e : EdgeRef × EdgeRow). reaches_any docs e.0) table.edges))
            (IsPermutation-trans (filter (is_indexed schema) (map held_of found)) (filter (is_indexed schema) reaching) indexed
            (permuted-filter (is_indexed schema) (map held_of found) reaching (adds_all reaching (map held_of found) one))
            (adds_all indexed (filter (is_indexed schema) reaching) two))
