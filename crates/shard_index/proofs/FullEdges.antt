-- All edges of a table, read type by type and key by key, are exactly the changes of what holds none.
use Rattle.std.proofs.Common.{arith, ◌≡◌, inl, inr, ⊎_elim, replicate, ◌≤◌, ◌⊎◌, ◌==◌, ◌&&◌, ℕ, zero, suc, ◌+◌, ◌<◌, ◌++◌, Bool, true, false, if◌then◌else◌, cond, List, [], ◌∷◌, map, filter, length, get_or, Option, None, Some, refl, sym, ◌∙◌, ap, subst, append_assoc, append-nil, is_some}
use Rattle.std.proofs.lemmas.Bool.{and_parts}
use Rattle.std.proofs.lemmas.Bool.Decides.{nat_tests}
use Rattle.std.proofs.lemmas.List.{nil_from_length}
use Rattle.std.proofs.lemmas.List.Elements.{All-contains, All-contains_itself, All-weaker, Contains-append_cases, Contains-append_left, Contains-append_right}
use Rattle.std.proofs.lemmas.List.Sorted.{Contains-permutation, IsPermutation-sym}
use Rattle.std.proofs.lemmas.List.Sums.{AllPass-from_list_all}
use Rattle.std.proofs.lemmas.Map.Keys.{IsDistinct-from_sorted}
use Rattle.std.proofs.lemmas.Map.Views.{Contains-from_lookup, lookup-from_Contains}
use Rattle.std.specs.Cmp.{eq_by_cmp_equiv, tied_itself}
use Rattle.std.specs.List.{All, Contains, filter_map, cons_option}
use Rattle.std.specs.Map.{keys_of}
use Rattle.std.specs.Option.{option_map, option_map_or, IsSome}
use Rattle.std.specs.Ordering.{eq_by_cmp, is_eq}
use Rattle.uni_base.specs.declared.edge.Audience.{Audience}
use Rattle.uni_base.specs.declared.edge.EdgeRef.{EdgeRef}
use Rattle.uni_base.specs.declared.edge.Key.{Key}
use Rattle.uni_base.specs.declared.entity.Rank.{Rank}
use Rattle.uni_base.specs.declared.limits.Limits.{Limits}
use Rattle.uni_base.specs.EdgeOrder.{edge_cmp, key_cmp, key_cmp-total}
use Rattle.uni_base.specs.KeyHash.{exact_keys}
use Rattle.uni_schema.specs.declared.schema.TypeDef.{TypeDef}
use Rattle.uni_schema.specs.Schema.{Declarations, source_of, type_at}
use Rattle.uni_table.specs.declared.change.EdgeChange.{EdgeChange}
use Rattle.uni_table.specs.declared.command.EdgeRow.{EdgeRow}
use Rattle.uni_table.specs.declared.command.EntityRow.{EntityRow}
use Rattle.uni_table.specs.declared.graph.numbers.Source.{Source}
use Rattle.uni_table.specs.declared.table.reached.Target.{Target}
use Rattle.uni_table.specs.Changes.{IsEdgeChange, rank_at}
use Rattle.uni_table.specs.Contents.{Contents, audience_at, edge_at, empty, entity_at, has_edge, is_in, starts_at, target_stands}
use Rattle.uni_table.specs.GraphKeys.{edge_total, exact_edges}
use Rattle.uni_table.specs.Lists.{held_of}
use Rattle.uni_table.specs.Sources.{AreSources, AreTargets, SourcesState, source_from}
use Rattle.uni_table.specs.TableState.{TableState, IsKept}
use Rattle.uni_table.specs.Targets.{target_of}
use Rattle.uni_table.proofs.Listed.{given_by, is_given}
use Rattle.layer_stack.specs.Places.{term_of}
use Rattle.layer_stack.specs.Postings.{PostingChanges, place_of, putting}
use Rattle.forward_data.specs.Records.{record_key}
use Rattle.shard_index.specs.declared.batch.notes.ShardNotes.{ShardNotes}
use Rattle.shard_index.specs.ChangedRows.{changed_key, posting_for, same_audiences, turning, with_change}
use Rattle.shard_index.specs.Batches.{all_shards}
use Rattle.shard_index.specs.FullEdges.{IsTargetOf, NotesAll, NotesSources, change_to}
use Rattle.shard_index.specs.Laws.{edge_to}
use Rattle.shard_index.specs.Notes.{AreNoted, NotesEdges, no_notes, with_all}
use Rattle.shard_index.proofs.BatchShards.{declared_there, none_noted}
use Rattle.shard_index.proofs.LoggedMaps.{equal_of}
use Rattle.shard_index.proofs.NotesJoined.{all_joined}

-- ---- a table without entities holds nothing

abbrev no_row : Option EdgeRow
no_row = None

not_true : false ≡ true → ⊥
not_true e = cc

module _ (schema : Declarations) (limits : Limits) (table : Contents) (kept : IsKept schema limits table) where
  -- an edge leads to an entity
  led : (e : EdgeRef × EdgeRow) → Contains table.edges e → (row : EntityRow) × (entity_at table e.0.target ≡ Some row)
  led e among = by (type_at schema e.0.type_no) (entity_at table e.0.target) refl
      (All-contains (λ (x : EdgeRef × EdgeRow). target_stands schema table x.0 ≡ true) table.edges e (AllPass-from_list_all (λ (x : EdgeRef × EdgeRow). target_stands schema table x.0) table.edges kept.targets) among)
    where
      by : (t : Option TypeDef) (o : Option EntityRow) → entity_at table e.0.target ≡ o → option_map_or (λ (d : TypeDef). is_in table d.target e.0.target) t false ≡ true → (row : EntityRow) × (entity_at table e.0.target ≡ Some row)
      by None o at h = cc
      by (Some d) None at h = absurd (not_true (sym (ap (λ o. option_map_or (λ (row : EntityRow). row.vertical == d.target) o false) at) ∙ h))
      by (Some d) (Some row) at h = (row, at)

  pub holds_nothing : length table.entities ≡ 0 → table ≡ empty
  holds_nothing none = λ i. record { entities = nil_from_length table.entities none i; edges = by table.edges refl i }
    where
      nowhere : (id : ℕ) → entity_at table id ≡ None
      nowhere id = ap (λ es. entity_at (record { entities = es; edges = [] }) id) (nil_from_length table.entities none)

      by : (es : List (EdgeRef × EdgeRow)) → table.edges ≡ es → table.edges ≡ []
      by [] is = is
      by (e ∷ es) is =
          let there = led e (subst (λ xs. Contains xs e) (sym is) (zero, omega arith, refl)) in
          let clash : None ≡ Some there.0 = sym (nowhere e.0.target) ∙ there.1 in
          absurd cc

  -- ---- what edges of a type and key lead to

  row_there : (e : EdgeRef × EdgeRow) → Contains table.edges e → edge_at table e.0 ≡ Some e.1
  row_there e among = lookup-from_Contains {eq = eq_by_cmp edge_cmp} (eq_by_cmp_equiv edge_total) e.0 e.1 table.edges (IsDistinct-from_sorted edge_cmp (keys_of table.edges) kept.edges) among

  there : (edge : EdgeRef) (row : EdgeRow) → edge_at table edge ≡ Some row → Contains table.edges (edge, row)
  there edge row at = Contains-from_lookup {eq = eq_by_cmp edge_cmp} (λ x y t. exact_edges x y (equal_of (edge_cmp x y) t)) edge row table.edges at

  module _ (source : Source) where
    abbrev starts : EdgeRef × EdgeRow → Bool
    starts e = starts_at source.type_no source.key e.0

    abbrev one : EdgeRef × EdgeRow → Option Target
    one e = if starts e then target_of table (held_of e) else None

    all_led : (es : List (EdgeRef × EdgeRow)) → filter_map (target_of table) (map held_of (filter starts es)) ≡ filter_map one es
    all_led [] = refl
    all_led (e ∷ es) = by (starts e) (all_led es)
      where
        by : (b : Bool) → filter_map (target_of table) (map held_of (filter starts es)) ≡ filter_map one es
            → filter_map (target_of table) (map held_of (cond b (e ∷ filter starts es) (filter starts es))) ≡ cons_option (if b then target_of table (held_of e) else None) (filter_map one es)
        by true later = ap (cons_option (target_of table (held_of e))) later
        by false later = later

    same_type : (m n : ℕ) → (m == n) ≡ true → m ≡ n
    same_type m n e = grind (arith, nat_tests)

    same_start : (edge : EdgeRef) → starts_at source.type_no source.key edge ≡ true → edge_to source.type_no source.key edge.target ≡ edge
    same_start edge at =
        let parts = and_parts (source.type_no == edge.type_no) (is_eq (key_cmp source.key edge.key)) at in
        let type_no = same_type source.type_no edge.type_no parts.0 in
        let key = exact_keys source.key edge.key (equal_of (key_cmp source.key edge.key) parts.1) in
        λ i. record { type_no = type_no i; key = key i; target = edge.target }

    target_is : (target : Target) (e : EdgeRef × EdgeRow) → Contains table.edges e → one e ≡ Some target → IsTargetOf table source target
    target_is target e among = by (starts e) refl (entity_at table e.0.target) refl
      where
        by : (b : Bool) → starts e ≡ b → (o : Option EntityRow) → entity_at table e.0.target ≡ o
            → (if b then option_map (λ doc. record { doc = doc; audience = e.1.audience }) (option_map (λ (row : EntityRow). record { rank = row.rank; id = e.0.target }) o) else None) ≡ Some target → IsTargetOf table source target
        by false at o is h = cc
        by true at None is h = cc
        by true at (Some row) is h =
            let same : record { doc = record { rank = row.rank; id = e.0.target }; audience = e.1.audience } ≡ target = cc in
            subst (IsTargetOf table source) same (record {
              audience = ap (audience_at table) (same_start e.0 at) ∙ ap (option_map (λ (r : EdgeRow). r.audience)) (row_there e among);
              doc = ap (option_map (λ (r : EntityRow). record { rank = r.rank; id = e.0.target })) is;
            })

    module _ (targets : List Target) (are : AreTargets table source targets) where
      pub are_targets : All (IsTargetOf table source) targets
      are_targets =
          All-weaker (Contains targets) (IsTargetOf table source)
          (λ target among.
          let listed : Contains (filter_map one table.edges) target = subst (λ ts. Contains ts target) (all_led table.edges) (Contains-permutation targets _ target (IsPermutation-sym _ targets are.led) among) in
          let from = given_by one table.edges target listed in
          target_is target from.0 from.1 from.2) targets (All-contains_itself targets)

      -- each is a change
      is_change : (target : Target) → IsTargetOf table source target → IsEdgeChange empty table (change_to table source target)
      is_change target of = (refl, refl, inl differs, refl, ranked)
        where
          differs : None ≡ edge_at table (edge_to source.type_no source.key target.doc.id) → ⊥
          differs none =
              let clash : None ≡ Some target.audience = ap (option_map (λ (r : EdgeRow). r.audience)) none ∙ of.audience in
              absurd cc

          ranked : Some target.doc.rank ≡ rank_at table target.doc.id
          ranked = by (entity_at table target.doc.id) refl
            where
              by : (o : Option EntityRow) → entity_at table target.doc.id ≡ o → Some target.doc.rank ≡ rank_at table target.doc.id
              by None at =
                  let clash : None ≡ Some target.doc = sym (ap (option_map (λ (r : EntityRow). record { rank = r.rank; id = target.doc.id })) at) ∙ of.doc in
                  absurd cc
              by (Some row) at =
                  let is : record { rank = row.rank; id = target.doc.id } ≡ target.doc =
                  (let some : Some (record { rank = row.rank; id = target.doc.id }) ≡ Some target.doc = sym (ap (option_map (λ (r : EntityRow). record { rank = r.rank; id = target.doc.id })) at) ∙ of.doc in cc) in
                  ap (λ (d : Rattle.uni_base.specs.declared.entity.DocKey.DocKey). Some d.rank) (sym is) ∙ sym (ap (option_map (λ (r : EntityRow). r.rank)) at)

      pub sound : (c : EdgeChange) → Contains (map (change_to table source) targets) c → IsEdgeChange empty table c
      sound c among = by targets are_targets among
        where
          by : (ts : List Target) → All (IsTargetOf table source) ts → Contains (map (change_to table source) ts) c → IsEdgeChange empty table c
          by [] all h = absurd (omega (arith, h.1))
          by (t ∷ ts) all (zero, below, at) = subst (IsEdgeChange empty table) at (is_change t (all zero t (omega arith)))
          by (t ∷ ts) all (suc k, below, at) = by ts (λ j d low. all (suc j) d (omega (arith, low))) (k, omega (arith, below), at)

      mapped : {X Y : Type 0} (f : X → Y) (xs : List X) (x : X) → Contains xs x → Contains (map f xs) (f x)
      mapped f [] x h = absurd (omega (arith, h.1))
      mapped f (y ∷ ys) x (zero, below, at) = (zero, omega arith, ap f at)
      mapped f (y ∷ ys) x (suc k, below, at) = let later = mapped f ys x (k, omega (arith, below), at) in (suc later.0, omega (arith, later.1), later.2)

      -- and each change of an edge that starts there is one
      pub whole : (c : EdgeChange) → IsEdgeChange empty table c → source ≡ source_from c.edge → Contains (map (change_to table source) targets) c
      whole c known same = by (edge_at table c.edge) refl
        where
          here : starts_at source.type_no source.key c.edge ≡ true
          here = ap (λ (s : Source). starts_at s.type_no s.key c.edge) same ∙ itself c.edge.type_no c.edge.key
            where
              number : (n : ℕ) → (n == n) ≡ true
              number n = grind (arith, nat_tests)

              itself : (n : ℕ) (k : Key) → (n == n && is_eq (key_cmp k k)) ≡ true
              itself n k = λ i. number n i && is_eq (tied_itself key_cmp-total k i)

          by : (o : Option EdgeRow) → edge_at table c.edge ≡ o → Contains (map (change_to table source) targets) c
          by None at = absurd (⊎_elim
              (λ differ. differ (known.0 ∙ sym (known.1 ∙ at)))
              (λ moved. let some : IsSome no_row = subst IsSome (known.1 ∙ at) moved.0 in cc)
              known.2)
          by (Some row) at =
              let among = there c.edge row at in
              let entity = led (c.edge, row) among in
              let target : Target = record { doc = record { rank = entity.0.rank; id = c.edge.target }; audience = row.audience } in
              let given : one (c.edge, row) ≡ Some target =
              (λ i. if here i then target_of table (held_of (c.edge, row)) else None)
              ∙ ap (λ o. option_map (λ doc. record { doc = doc; audience = row.audience }) (option_map (λ (r : EntityRow). record { rank = r.rank; id = c.edge.target }) o)) entity.1 in
              let listed : Contains targets target = Contains-permutation _ targets target are.led (subst (λ ts. Contains ts target) (sym (all_led table.edges)) (is_given one table.edges (c.edge, row) target among given)) in
              let edge : edge_to source.type_no source.key c.edge.target ≡ c.edge = same_start c.edge here in
              let is : change_to table source target ≡ c =
              (λ i. record {
                edge = edge i;
                before = sym known.0 i;
                after = (ap (edge_at table) edge ∙ sym known.1) i;
                rank_before = sym known.3 i;
                rank_after = (sym (ap (option_map (λ (r : EntityRow). r.rank)) entity.1) ∙ sym known.4) i;
              }) in
              subst (Contains (map (change_to table source) targets)) is (mapped (change_to table source) targets target listed)

-- ---- the edges of one type and key after the other

pub none_read : (table : TableState) (sources : List Source) (from : ℕ) (notes : List ShardNotes) → NotesSources table sources from from notes notes
none_read table sources from notes = record {
  edges = [];
  noted = λ removed placed edges so_far. subst (λ es. AreNoted table removed placed es notes) (sym (append-nil edges)) so_far;
  sound = λ c among. absurd (omega (arith, among.1));
  whole = λ c i known low high at. absurd (omega (arith, low, high));
}

module _ (table : TableState) (kept : IsKept table.schema table.limits table.contents) (sources : List Source) where
  pub one_read : (from to : ℕ) (old mid new : List ShardNotes) (source : Source) (targets : List Target) → to < length sources → source ≡ get_or sources to source → AreTargets table.contents source targets
      → NotesSources table sources from to old mid → NotesEdges table (map (change_to table.contents source) targets) mid new → NotesSources table sources from (to + 1) old new
  one_read from to old mid new source targets below is are so_far next =
      let more = map (change_to table.contents source) targets in
      record {
        edges = so_far.edges ++ more;
        noted = λ removed placed edges before.
            subst (λ es. AreNoted table removed placed es new) (append_assoc edges so_far.edges more) (next removed placed (edges ++ so_far.edges) (so_far.noted removed placed edges before));
        sound = λ c among. ⊎_elim (so_far.sound c) (sound table.schema table.limits table.contents kept source targets are c) (Contains-append_cases so_far.edges more c among);
        whole = λ c i known low high at.
            ⊎_elim (λ earlier. Contains-append_left so_far.edges more c (so_far.whole c i known low earlier at))
            (λ here. Contains-append_right so_far.edges more c (whole table.schema table.limits table.contents kept source targets are c known (is ∙ same_get sources to source (source_from c.edge) below ∙ ap (λ n. get_or sources n (source_from c.edge)) (sym here) ∙ at)))
            (below_or_at i to high);
      }
    where
      below_or_at : (i n : ℕ) → i < n + 1 → (i < n) ⊎ (i ≡ n)
      below_or_at i zero high = inr (omega (arith, high))
      below_or_at zero (suc n) high = inl (omega arith)
      below_or_at (suc i) (suc n) high = ⊎_elim (λ (low : i < n). inl (omega (arith, low))) (λ same. inr (ap suc same)) (below_or_at i n (omega (arith, high)))

      same_get : (xs : List Source) (n : ℕ) (d e : Source) → n < length xs → get_or xs n d ≡ get_or xs n e
      same_get [] n d e low = absurd (omega (arith, low))
      same_get (x ∷ xs) zero d e low = refl
      same_get (x ∷ xs) (suc n) d e low = same_get xs n d e (omega (arith, low))

  pub all_read : (old new : List ShardNotes) (state : SourcesState) → state.sources ≡ sources → AreSources (length table.schema.types) table.contents state → NotesSources table sources 0 (length sources) old new
      → NotesAll table old new
  all_read old new state same are read = (
    read.edges,
    (λ c. (
      read.sound c,
      (λ known.
          let among = subst (λ xs. Contains xs (source_from c.edge)) same (are.whole c.edge (stands c known).0 (stands c known).1) in
          read.whole c among.0 known (omega arith) among.1 among.2),
    )),
    read.noted,
  )
    where
      stands : (c : EdgeChange) → IsEdgeChange empty table.contents c → (has_edge table.contents c.edge ≡ true) × (c.edge.type_no < length table.schema.types)
      stands c known = by (edge_at table.contents c.edge) refl
        where
          by : (o : Option EdgeRow) → edge_at table.contents c.edge ≡ o → (has_edge table.contents c.edge ≡ true) × (c.edge.type_no < length table.schema.types)
          by None at = absurd (⊎_elim
              (λ differ. differ (known.0 ∙ sym (known.1 ∙ at)))
              (λ moved. let some : IsSome no_row = subst IsSome (known.1 ∙ at) moved.0 in cc)
              known.2)
          by (Some row) at = (ap (λ o. is_some o) at, declared_there table.schema table.limits table.contents kept c.edge row at)

  -- those up to a place, and those from there on that were noted apart
  pub parts_read : (from mid to : ℕ) (old new later : List ShardNotes) → mid ≤ to
      → NotesSources table sources from mid old new → NotesSources table sources mid to (replicate (length (all_shards table.schema)) no_notes) later → NotesSources table sources from to old (with_all new later)
  parts_read from mid to old new later fits so_far next = record {
    edges = so_far.edges ++ next.edges;
    noted = λ removed placed edges before.
        subst (λ es. AreNoted table removed placed es (with_all new later)) (append_assoc edges so_far.edges next.edges)
        (all_joined table removed placed (edges ++ so_far.edges) next.edges (all_shards table.schema) new later (so_far.noted removed placed edges before) (next.noted [] [] [] (none_noted table)));
    sound = λ c among. ⊎_elim (so_far.sound c) (next.sound c) (Contains-append_cases so_far.edges next.edges c among);
    whole = λ c i known low high at.
        ⊎_elim (λ (earlier : i < mid). Contains-append_left so_far.edges next.edges c (so_far.whole c i known low earlier at))
        (λ (onward : mid ≤ i). Contains-append_right so_far.edges next.edges c (next.whole c i known onward high at))
        (either_side i mid);
  }
    where
      either_side : (i n : ℕ) → (i < n) ⊎ (n ≤ i)
      either_side i zero = inr (omega arith)
      either_side zero (suc n) = inl (omega arith)
      either_side (suc i) (suc n) = ⊎_elim (λ (low : i < n). inl (omega (arith, low))) (λ (high : n ≤ i). inr (omega (arith, high))) (either_side i n)

-- ---- what is noted of one edge

module _ (table : Contents) (source : Source) (target : Target) (of : IsTargetOf table source target) where
  abbrev edge : EdgeRef
  edge = edge_to source.type_no source.key target.doc.id

  -- its posting is put
  pub posting_put : (changes : PostingChanges) → with_change changes (change_to table source target) ≡ putting changes (place_of (term_of source.type_no source.key) target.doc) target.audience
  posting_put changes = ap (turning changes None) (by (edge_at table edge) of.audience)
    where
      by : (o : Option EdgeRow) → option_map (λ (row : EdgeRow). row.audience) o ≡ Some target.audience → posting_for edge (Some target.doc.rank) o ≡ Some (place_of (term_of source.type_no source.key) target.doc, target.audience)
      by None h = cc
      by (Some row) h =
          let same : row.audience ≡ target.audience = cc in
          ap (λ (audience : Audience). Some (place_of (term_of source.type_no source.key) target.doc, audience)) same

  -- its record is replaced, whatever its end
  pub key_changes : (rank : Option Rank) (end : ℕ) → changed_key (record { edge = edge; before = None; after = Some (record { audience = target.audience; end = end }); rank_before = None; rank_after = rank }) ≡ changed_key (change_to table source target)
  key_changes rank end = ap (λ o. if same_audiences None o then None else option_map (λ id. record_key source.type_no id) (source_of source.key)) (sym of.audience)
