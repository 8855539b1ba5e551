-- The layer of the records that changed takes those of a shard of one table to those of the other.
use Rattle.std.proofs.Common.{◌≡◌, ◌==◌, ◌&&◌, ◌||◌, ◌⊎◌, inl, inr, ℕ, Bool, true, false, not, cond, if◌then◌else◌, List, [], ◌∷◌, map, filter, Option, None, Some, refl, sym, ◌∙◌, ap, subst}
use Rattle.std.proofs.lemmas.Bool.{and_parts}
use Rattle.std.specs.FinMap as finite
use Rattle.std.specs.List.{Contains, filter_map, cons_option}
use Rattle.std.specs.Option.{option_map, option_map_or, option_and_then, unwrap_or}
use Rattle.std.specs.Cmp.{tied_itself}
use Rattle.std.specs.Ordering.{eq_by_cmp, is_eq}
use Rattle.uni_base.specs.declared.edge.Audience.{Audience}
use Rattle.uni_base.specs.declared.edge.Audience.TheVariants.{Only}
use Rattle.uni_base.specs.declared.edge.EdgeRef.{EdgeRef}
use Rattle.uni_base.specs.declared.edge.Held.{Held}
use Rattle.uni_base.specs.declared.edge.Key.{Key}
use Rattle.uni_base.specs.declared.edge.Key.TheVariants.{Id, Word}
use Rattle.uni_base.specs.declared.limits.Limits.{Limits}
use Rattle.uni_base.specs.EdgeOrder.{key_cmp, key_cmp-total}
use Rattle.uni_schema.specs.declared.schema.TypeDef.{TypeDef}
use Rattle.uni_schema.specs.Schema.{Declarations, type_at, shard_of, source_of, is_index}
use Rattle.uni_table.specs.Contents.{Contents, edge_at, audience_at, starts_at}
use Rattle.uni_table.specs.Lists.{held_of, is_kept_in, keeps_target, keeps_source, starts_in, shard_edges}
use Rattle.uni_table.specs.Shards.{is_forward_type}
use Rattle.uni_table.specs.TableState.{IsKept}
use Rattle.uni_table.specs.declared.change.EdgeChange.{EdgeChange}
use Rattle.uni_table.specs.declared.command.EdgeRow.{EdgeRow}
use Rattle.uni_table.proofs.Listed.{none_in_nil, first_or_later}
use Rattle.forward_data.specs.declared.record.ForwardItem.{ForwardItem}
use Rattle.forward_data.specs.declared.record.RecordKey.{RecordKey}
use Rattle.forward_data.specs.Records.{Records, record_key, record_cmp, records_over, left_by, AreFull, under}
use Rattle.forward_data.proofs.Newest.{get-over}
use Rattle.forward_data.proofs.Order.{record_total, record_apart}
use Rattle.shard_index.specs.Batches.{AreAllChanges}
use Rattle.shard_index.specs.ChangedRows.{same_audiences, audience_of, record_from, record_within, changed_record, is_record, is_among, items_of, AreShardRecords}
use Rattle.shard_index.specs.Shards.{record_of_edge, items_from, record_row, shard_rows}
use Rattle.shard_index.proofs.ChangedPostings.{exact_audience, audience_itself, change_at}
use Rattle.shard_index.proofs.FullRows.{records_full}
use Rattle.shard_index.proofs.LoggedMaps.{Agree, logged_is}
use Rattle.shard_index.proofs.ReadRanks.{same_number}
use Rattle.shard_index.proofs.ReadRecords.{records_read}
use Rattle.shard_index.proofs.RecordsNoted.{same_record, record_itself, or_true}
use Rattle.shard_index.proofs.SameItems.{same_items}
use Rattle.shard_index.proofs.Squeezed.{alike_from, number_itself}

same_either : (a b : Option Audience) → same_audiences a b ≡ true → a ≡ b
same_either None None t = refl
same_either None (Some b) t = cc
same_either (Some a) None t = cc
same_either (Some a) (Some b) t = ap Some (exact_audience a b t)

-- an edge that starts where a record does
started : (q : RecordKey) (edge : EdgeRef) → starts_at q.type_no (Id q.id) edge ≡ true → (q.type_no ≡ edge.type_no) × (Id q.id ≡ edge.key)
started q edge t =
    let alike = alike_from (record { edge = record { type_no = q.type_no; key = Id q.id; target = 0 }; audience = Only }) (record { edge = edge; audience = Only }) t in
    (alike.types, alike.keys)

-- a record that is read as a list, and is not empty
opened : (o : Option (List ForwardItem)) → (o ≡ Some [] → ⊥) → o ≡ left_by (unwrap_or o [])
opened None full = refl
opened (Some []) full = absurd (full refl)
opened (Some (i ∷ items)) full = refl

module _ (schema : Declarations) (vertical shard : ℕ) where
  -- a change that is listed
  listed : (q : RecordKey) (cs : List EdgeChange) (c : EdgeChange) → Contains cs c → changed_record schema vertical shard c ≡ Some q → is_among schema vertical shard cs q ≡ true
  listed q [] c there is = absurd (none_in_nil c there)
  listed q (d ∷ cs) c there is = by (first_or_later d cs c there) (λ later. listed q cs c later is)
    where
      by : (d ≡ c) ⊎ Contains cs c → (Contains cs c → is_among schema vertical shard cs q ≡ true) → (is_record q (changed_record schema vertical shard d) || is_among schema vertical shard cs q) ≡ true
      by (inl same) more = ap (λ o. is_record q o || is_among schema vertical shard cs q) (ap (changed_record schema vertical shard) same ∙ is) ∙ ap (λ b. b || is_among schema vertical shard cs q) (record_itself q)
      by (inr later) more = ap (λ b. is_record q (changed_record schema vertical shard d) || b) (more later) ∙ or_true (is_record q (changed_record schema vertical shard d))

  -- whether a record is one of the shard
  abbrev pub is_own : RecordKey → Bool
  is_own q = is_forward_type schema vertical q.type_no && (shard_of schema vertical q.id == shard)

  -- the record that an edge of the shard is in is one of the shard
  pub own : (edge : EdgeRef) (q : RecordKey) → record_within schema vertical shard edge ≡ Some q → is_own q ≡ true
  own edge q e = by (type_at schema edge.type_no) refl (edge.key) e
    where
      by : (t : Option TypeDef) → type_at schema edge.type_no ≡ t → (k : Key) → option_and_then (λ (d : TypeDef). option_and_then (record_from schema vertical shard edge.type_no d) (source_of k)) t ≡ Some q → is_own q ≡ true
      by None at k f = cc
      by (Some d) at (Word text) f = cc
      by (Some d) at (Id id) f = next (not (is_index d.store)) refl (starts_in vertical d.origin) refl (shard_of schema vertical id == shard) refl f
        where
          next : (a : Bool) → not (is_index d.store) ≡ a → (b : Bool) → starts_in vertical d.origin ≡ b → (c : Bool) → (shard_of schema vertical id == shard) ≡ c
              → (if a && (b && c) then Some (record_key edge.type_no id) else None) ≡ Some q → is_own q ≡ true
          next true x true y true z g =
              let is : record_key edge.type_no id ≡ q = cc in
              subst (λ (k : RecordKey). is_own k ≡ true) is (ap (λ o. option_map_or (λ (t : TypeDef). not (is_index t.store) && starts_in vertical t.origin) o false && (shard_of schema vertical id == shard)) at ∙ (λ i. (x i && y i) && z i))
          next true x true y false z g = cc
          next true x false y c z g = cc
          next false x b y c z g = cc

  -- and the edge starts where the record does
  pub own_starts : (edge : EdgeRef) (q : RecordKey) → record_within schema vertical shard edge ≡ Some q → starts_at q.type_no (Id q.id) edge ≡ true
  own_starts edge q e = by (type_at schema edge.type_no) (edge.key) refl e
    where
      by : (t : Option TypeDef) (k : Key) → edge.key ≡ k → option_and_then (λ (d : TypeDef). option_and_then (record_from schema vertical shard edge.type_no d) (source_of k)) t ≡ Some q → starts_at q.type_no (Id q.id) edge ≡ true
      by None k at f = cc
      by (Some d) (Word text) at f = cc
      by (Some d) (Id id) at f = next (not (is_index d.store) && keeps_source schema vertical shard d id) f
        where
          next : (b : Bool) → (if b then Some (record_key edge.type_no id) else None) ≡ Some q → starts_at q.type_no (Id q.id) edge ≡ true
          next true g =
              let is : record_key edge.type_no id ≡ q = cc in
              subst (λ (k : RecordKey). starts_at k.type_no (Id k.id) edge ≡ true) is (λ i. number_itself edge.type_no i && is_eq ((ap (λ k. key_cmp k edge.key) (sym at) ∙ tied_itself key_cmp-total edge.key) i))
          next false g = cc

  -- an edge that starts where a record of the shard does is in it
  within : (edge : EdgeRef) (q : RecordKey) → is_own q ≡ true → starts_at q.type_no (Id q.id) edge ≡ true → record_within schema vertical shard edge ≡ Some q
  within edge q t starts =
      let parts = and_parts (is_forward_type schema vertical q.type_no) (shard_of schema vertical q.id == shard) t in
      let from = started q edge starts in
      (λ i. option_and_then (λ (d : TypeDef). option_and_then (record_from schema vertical shard (sym from.0 i) d) (source_of (sym from.1 i))) (type_at schema (sym from.0 i)))
      ∙ by (type_at schema q.type_no) parts.0 parts.1
    where
      by : (o : Option TypeDef) → option_map_or (λ (d : TypeDef). not (is_index d.store) && starts_in vertical d.origin) o false ≡ true → (shard_of schema vertical q.id == shard) ≡ true
          → option_and_then (λ (d : TypeDef). record_from schema vertical shard q.type_no d q.id) o ≡ Some q
      by None f g = cc
      by (Some d) f g =
          let kind = and_parts (not (is_index d.store)) (starts_in vertical d.origin) f in
          λ i. if kind.0 i && (kind.1 i && g i) then Some q else None

  -- the record of an edge that the shard keeps is one of the shard
  kept_within : (h : Held) (key : RecordKey) → is_kept_in schema vertical shard h.edge ≡ true → record_of_edge schema h ≡ Some key → record_within schema vertical shard h.edge ≡ Some key
  kept_within h key kept e = by (type_at schema h.edge.type_no) (h.edge.key) kept e
    where
      by : (t : Option TypeDef) (k : Key)
          → option_map_or (λ (d : TypeDef). if is_index d.store then keeps_target schema vertical shard d h.edge.target else option_map_or (keeps_source schema vertical shard d) (source_of k) false) t false ≡ true
          → (if option_map_or (λ (d : TypeDef). is_index d.store) t false then None else option_map (λ id. record_key h.edge.type_no id) (source_of k)) ≡ Some key
          → option_and_then (λ (d : TypeDef). option_and_then (record_from schema vertical shard h.edge.type_no d) (source_of k)) t ≡ Some key
      by None k f g = cc
      by (Some d) (Word text) f g = next (is_index d.store) g
        where
          next : (b : Bool) → (if b then None else None) ≡ Some key → None ≡ Some key
          next true x = x
          next false x = x
      by (Some d) (Id id) f g = next (is_index d.store) (keeps_source schema vertical shard d id) f g
        where
          next : (b c : Bool) → (if b then keeps_target schema vertical shard d h.edge.target else c) ≡ true → (if b then None else Some (record_key h.edge.type_no id)) ≡ Some key
              → (if not b && c then Some (record_key h.edge.type_no id) else None) ≡ Some key
          next true c x y = cc
          next false true x y = y
          next false false x y = cc

  module _ (table : Contents) where
    -- the shard has none of the other records
    pub absent : (q : RecordKey) → is_own q ≡ false → finite.get (shard_rows schema table vertical shard).records q ≡ None
    unfolding shard_rows
    absent q other = logged_is record_cmp q None record_total (filter_map (record_row schema all) all) (agree table.edges) (λ e. refl)
      where
        all : List Held
        all = shard_edges schema table vertical shard

        never : (h : Held) (key : RecordKey) → is_kept_in schema vertical shard h.edge ≡ true → record_of_edge schema h ≡ Some key → eq_by_cmp record_cmp q key ≡ true → None ≡ Some (items_from (shard_edges schema table vertical shard) key)
        never h key kept e t =
            let clash : true ≡ false = sym (own h.edge key (kept_within h key kept e)) ∙ ap is_own (sym (same_record q key t)) ∙ other in absurd cc

        agree : (es : List (EdgeRef × EdgeRow)) → Agree record_cmp q None (filter_map (record_row schema (shard_edges schema table vertical shard)) (map held_of (filter (λ e. is_kept_in schema vertical shard e.0) es)))
        agree [] = tt
        agree (e ∷ es) = by (is_kept_in schema vertical shard e.0) refl (agree es)
          where
            made : (o : Option RecordKey) → record_of_edge schema (held_of e) ≡ o → is_kept_in schema vertical shard e.0 ≡ true
                → Agree record_cmp q None (filter_map (record_row schema (shard_edges schema table vertical shard)) (map held_of (filter (λ f. is_kept_in schema vertical shard f.0) es)))
                → Agree record_cmp q None (cons_option (option_map (λ key. (key, items_from (shard_edges schema table vertical shard) key)) o) (filter_map (record_row schema (shard_edges schema table vertical shard)) (map held_of (filter (λ f. is_kept_in schema vertical shard f.0) es))))
            made None is kept later = later
            made (Some key) is kept later = (never (held_of e) key kept is, later)

            by : (b : Bool) → is_kept_in schema vertical shard e.0 ≡ b
                → Agree record_cmp q None (filter_map (record_row schema (shard_edges schema table vertical shard)) (map held_of (filter (λ f. is_kept_in schema vertical shard f.0) es)))
                → Agree record_cmp q None (filter_map (record_row schema (shard_edges schema table vertical shard)) (map held_of (cond b (e ∷ filter (λ f. is_kept_in schema vertical shard f.0) es) (filter (λ f. is_kept_in schema vertical shard f.0) es))))
            by true kept later = made (record_of_edge schema (held_of e)) refl kept later
            by false kept later = later

    full : AreFull (shard_rows schema table vertical shard).records
    unfolding shard_rows
    full = records_full schema (shard_edges schema table vertical shard)

    -- a record of the shard is what the table has of it
    pub present : (q : RecordKey) → is_own q ≡ true → finite.get (shard_rows schema table vertical shard).records q ≡ left_by (items_of table q)
    present q t =
        let parts = and_parts (is_forward_type schema vertical q.type_no) (shard_of schema vertical q.id == shard) t in
        opened (finite.get (shard_rows schema table vertical shard).records q) (full q)
        ∙ ap left_by (records_read schema table vertical shard q.type_no q.id parts.0 (same_number (shard_of schema vertical q.id) shard parts.1))

  module _ (limits : Limits) (old new : Contents) (old_kept : IsKept schema limits old) (new_kept : IsKept schema limits new) (cs : List EdgeChange) (are : AreAllChanges old new cs) where
    -- a record that changes is one of the shard
    among_own : (q : RecordKey) (ds : List EdgeChange) → is_among schema vertical shard ds q ≡ true → is_own q ≡ true
    among_own q [] t = cc
    among_own q (c ∷ ds) t = by (changed_record schema vertical shard c) refl t (among_own q ds)
      where
        of_edge : (b : Bool) (key : RecordKey) → (if b then None else record_within schema vertical shard c.edge) ≡ Some key → record_within schema vertical shard c.edge ≡ Some key
        of_edge true key e = cc
        of_edge false key e = e

        next : (key : RecordKey) → changed_record schema vertical shard c ≡ Some key → (b : Bool) → eq_by_cmp record_cmp q key ≡ b → (b || is_among schema vertical shard ds q) ≡ true → (is_among schema vertical shard ds q ≡ true → is_own q ≡ true) → is_own q ≡ true
        next key is true here f later =
            ap is_own (same_record q key here) ∙ own c.edge key (of_edge (same_audiences (audience_of c.before) (audience_of c.after)) key is)
        next key is false here f later = later f

        by : (o : Option RecordKey) → changed_record schema vertical shard c ≡ o → (is_record q o || is_among schema vertical shard ds q) ≡ true → (is_among schema vertical shard ds q ≡ true → is_own q ≡ true) → is_own q ≡ true
        by None is f later = later f
        by (Some key) is f later = next key is (eq_by_cmp record_cmp q key) refl f later

    -- what does not change has the same audiences
    unchanged : (q : RecordKey) → is_own q ≡ true → is_among schema vertical shard cs q ≡ false → (edge : EdgeRef) → starts_at q.type_no (Id q.id) edge ≡ true → audience_at old edge ≡ audience_at new edge
    unchanged q t none edge starts = by (same_audiences (audience_at old edge) (audience_at new edge)) refl
      where
        change : EdgeChange
        change = change_at old new edge

        differ : same_audiences (audience_at old edge) (audience_at new edge) ≡ false → edge_at old edge ≡ edge_at new edge → ⊥
        differ f e = clash (audience_at new edge) (ap (λ a. same_audiences a (audience_at new edge)) (ap audience_of (sym e)) ∙ f)
          where
            clash : (a : Option Audience) → same_audiences a a ≡ false → ⊥
            clash None g = cc
            clash (Some a) g = let h : true ≡ false = sym (audience_itself a) ∙ g in cc

        by : (b : Bool) → same_audiences (audience_at old edge) (audience_at new edge) ≡ b → audience_at old edge ≡ audience_at new edge
        by true f = same_either (audience_at old edge) (audience_at new edge) f
        by false f =
            let among : Contains cs (change_at old new edge) = (are (change_at old new edge)).1 (refl, refl, inl (differ f), refl, refl) in
            let changed : changed_record schema vertical shard (change_at old new edge) ≡ Some q = ap (λ b. if b then None else record_within schema vertical shard edge) f ∙ within edge q t starts in
            absurd (never among changed)
          where
            never : Contains cs (change_at old new edge) → changed_record schema vertical shard (change_at old new edge) ≡ Some q → ⊥
            never among changed = let clash : true ≡ false = sym (listed q cs (change_at old new edge) among changed) ∙ none in cc

    records_same : (q : RecordKey) → is_among schema vertical shard cs q ≡ false → finite.get (shard_rows schema old vertical shard).records q ≡ finite.get (shard_rows schema new vertical shard).records q
    records_same q none = by (is_own q) refl
      where
        by : (b : Bool) → is_own q ≡ b → finite.get (shard_rows schema old vertical shard).records q ≡ finite.get (shard_rows schema new vertical shard).records q
        by false t = absent old q t ∙ sym (absent new q t)
        by true t = present old q t ∙ ap left_by (same_items (starts_at q.type_no (Id q.id)) old.edges new.edges old_kept.edges new_kept.edges (unchanged q t none)) ∙ sym (present new q t)

    pub records_turned : (layer : Records) → AreShardRecords schema vertical shard new cs layer → records_over (shard_rows schema old vertical shard).records layer ≡ (shard_rows schema new vertical shard).records
    records_turned layer is =
        finite.same_map record_total record_apart (records_over (shard_rows schema old vertical shard).records layer) (shard_rows schema new vertical shard).records
        (λ q. get-over (shard_rows schema old vertical shard).records layer q ∙ ap (λ f. under f (finite.get (shard_rows schema old vertical shard).records q)) (is q) ∙ by q (is_among schema vertical shard cs q) refl)
      where
        by : (q : RecordKey) (b : Bool) → is_among schema vertical shard cs q ≡ b
            → under (if b then Some (items_of new q) else None) (finite.get (shard_rows schema old vertical shard).records q) ≡ finite.get (shard_rows schema new vertical shard).records q
        by q true t = sym (present new q (among_own q cs t))
        by q false t = records_same q t
