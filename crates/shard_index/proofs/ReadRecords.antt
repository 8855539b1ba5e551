-- The records that the rows of a shard have are the forward edges of its entities.
use Rattle.std.proofs.Common.{◌≡◌, ◌==◌, ◌&&◌, ◌||◌, ℕ, Bool, true, false, cond, not, if◌then◌else◌, List, [], ◌∷◌, map, filter, Option, None, Some, refl, sym, ◌∙◌, ap}
use Rattle.std.specs.Cmp.{tied_itself}
use Rattle.std.specs.FinMap as finite
use Rattle.std.specs.List.{AllByRecursion, filter_map, cons_option}
use Rattle.std.specs.Option.{option_map, option_map_or, unwrap_or}
use Rattle.std.specs.Ordering.{eq_by_cmp, is_eq}
use Rattle.uni_base.specs.declared.edge.Audience.TheVariants.{Only}
use Rattle.uni_base.specs.declared.edge.EdgeRef.{EdgeRef}
use Rattle.uni_base.specs.declared.edge.Held.{Held}
use Rattle.uni_base.specs.declared.edge.Key.TheVariants.{Id}
use Rattle.uni_schema.specs.declared.schema.TypeDef.{TypeDef}
use Rattle.uni_schema.specs.Schema.{Declarations, type_at, shard_of, source_of, is_index}
use Rattle.uni_table.specs.declared.command.EdgeRow.{EdgeRow}
use Rattle.uni_table.specs.Contents.{Contents, starts_at}
use Rattle.uni_table.specs.Lists.{held_of, starts_in, keeps_target, keeps_source, is_kept_by, is_kept_in, shard_edges}
use Rattle.uni_table.specs.Shards.{is_forward_type}
use Rattle.layer_base.specs.Layers.{from_log}
use Rattle.forward_data.specs.declared.record.ForwardItem.{ForwardItem}
use Rattle.forward_data.specs.declared.record.RecordKey.{RecordKey}
use Rattle.forward_data.specs.Records.{record_key, record_cmp, left_by}
use Rattle.forward_data.proofs.Order.{record_total, record_apart}
use Rattle.shard_index.specs.Rows.{record_at}
use Rattle.shard_index.specs.Shards.{item_of, items_from, record_of_edge, record_row, shard_rows}
use Rattle.shard_index.proofs.FullRows.{IsFullRow, rows_full, each_holds}
use Rattle.shard_index.proofs.LoggedMaps.{equal_of, Agree, stands_there, logged_is}
use Rattle.shard_index.proofs.Squeezed.{Alike, alike_from, number_itself}

module _ (schema : Declarations) (all : List Held) (key : RecordKey) where
  abbrev answer : Option (List ForwardItem)
  answer = left_by (items_from all key)

  whole : (items : List ForwardItem) → (items ≡ [] → ⊥) → left_by items ≡ Some items
  whole [] full = absurd (full refl)
  whole (i ∷ items) full = refl

  -- each row is the record at its key
  agree : (sub : List Held) → AllByRecursion IsFullRow (filter_map (record_row schema all) sub) → Agree record_cmp key answer (filter_map (record_row schema all) sub)
  agree [] full = tt
  agree (h ∷ sub) full = by (record_of_edge schema h) full (agree sub)
    where
      by : (o : Option RecordKey) → AllByRecursion IsFullRow (cons_option (option_map (λ k. (k, items_from all k)) o) (filter_map (record_row schema all) sub))
          → (AllByRecursion IsFullRow (filter_map (record_row schema all) sub) → Agree record_cmp key answer (filter_map (record_row schema all) sub))
          → Agree record_cmp key answer (cons_option (option_map (λ k. (k, items_from all k)) o) (filter_map (record_row schema all) sub))
      by None full rest = rest full
      by (Some k) full rest = (
        λ t. let same : key ≡ k = record_apart key k (equal_of (record_cmp key k) t) in
            ap (λ x. left_by (items_from all x)) same ∙ whole (items_from all k) full.0,
        rest full.1,
      )

  -- where no row stands at the key, no edge starts there
  module _ (forward : (h : Held) → starts_at key.type_no (Id key.id) h.edge ≡ true → record_of_edge schema h ≡ Some key) where
    abbrev starts : Held → Bool
    starts h = starts_at key.type_no (Id key.id) h.edge

    none_start : (sub : List Held) → stands_there record_cmp key answer (filter_map (record_row schema all) sub) ≡ false → filter starts sub ≡ []
    none_start [] e = refl
    none_start (h ∷ sub) e = by (starts h) refl (none_start sub) e
      where
        rows : List (RecordKey × List ForwardItem)
        rows = filter_map (record_row schema all) sub

        later : (o : Option RecordKey) → stands_there record_cmp key answer (cons_option (option_map (λ k. (k, items_from all k)) o) (filter_map (record_row schema all) sub)) ≡ false
            → stands_there record_cmp key answer (filter_map (record_row schema all) sub) ≡ false
        later None f = f
        later (Some k) f = second (eq_by_cmp record_cmp key k) (stands_there record_cmp key answer (filter_map (record_row schema all) sub)) f
          where
            second : (a b : Bool) → (a || b) ≡ false → b ≡ false
            second true b g = cc
            second false b g = g

        by : (b : Bool) → starts h ≡ b → (stands_there record_cmp key answer (filter_map (record_row schema all) sub) ≡ false → filter starts sub ≡ [])
            → stands_there record_cmp key answer (cons_option (option_map (λ k. (k, items_from all k)) (record_of_edge schema h)) (filter_map (record_row schema all) sub)) ≡ false
            → cond b (h ∷ filter starts sub) (filter starts sub) ≡ []
        by true t rest f =
            let there : stands_there record_cmp key answer ((key, items_from all key) ∷ filter_map (record_row schema all) sub) ≡ false =
            ap (λ o. stands_there record_cmp key answer (cons_option (option_map (λ k. (k, items_from all k)) o) (filter_map (record_row schema all) sub))) (sym (forward h t)) ∙ f in
            let itself : (eq_by_cmp record_cmp key key || stands_there record_cmp key answer (filter_map (record_row schema all) sub)) ≡ true =
            ap (λ r. is_eq r || stands_there record_cmp key answer (filter_map (record_row schema all) sub)) (tied_itself record_total key) in
            let both : true ≡ false = sym itself ∙ there in absurd cc
        by false t rest f = rest (later (record_of_edge schema h) f)

    missing : stands_there record_cmp key answer (filter_map (record_row schema all) all) ≡ false → answer ≡ None
    missing e = ap (λ held. left_by (map item_of held)) (none_start all e)

    opened : (items : List ForwardItem) → unwrap_or (left_by items) [] ≡ items
    opened [] = refl
    opened (i ∷ items) = refl

    pub record_read : unwrap_or (finite.get (from_log {R = record_cmp} (filter_map (record_row schema all) all)) key) [] ≡ items_from all key
    record_read = ap (λ o. unwrap_or o []) (logged_is record_cmp key answer record_total (filter_map (record_row schema all) all) (agree all (rows_full schema all all (each_holds all))) missing) ∙ opened (items_from all key)

-- ---- of a shard

module _ (schema : Declarations) (table : Contents) (vertical shard number id : ℕ) (of_type : is_forward_type schema vertical number ≡ true) (of_shard : shard_of schema vertical id ≡ shard) where
  -- what is known of the type
  record Forward : Type 0 where
    type_def : TypeDef
    at : type_at schema number ≡ Some type_def
    stored : is_index type_def.store ≡ false
    starting : starts_in vertical type_def.origin ≡ true

  forward : Forward
  forward = by (type_at schema number) refl of_type
    where
      turned : (a b : Bool) → (not a && b) ≡ true → (a ≡ false) × (b ≡ true)
      turned true b t = cc
      turned false b t = (refl, t)

      by : (o : Option TypeDef) → type_at schema number ≡ o → option_map_or (λ d. not (is_index d.store) && starts_in vertical d.origin) o false ≡ true → Forward
      by None at t = cc
      by (Some d) at t = let both = turned (is_index d.store) (starts_in vertical d.origin) t in record { type_def = d; at = at; stored = both.0; starting = both.1 }

  -- an edge that starts there
  started : (edge : EdgeRef) → starts_at number (Id id) edge ≡ true → (number ≡ edge.type_no) × (Id id ≡ edge.key)
  started edge t =
      let alike : Alike (record { edge = record { type_no = number; key = Id id; target = 0 }; audience = Only }) (record { edge = edge; audience = Only }) =
      alike_from (record { edge = record { type_no = number; key = Id id; target = 0 }; audience = Only }) (record { edge = edge; audience = Only }) t in
      (alike.types, alike.keys)

  in_record : (h : Held) → starts_at number (Id id) h.edge ≡ true → record_of_edge schema h ≡ Some (record_key number id)
  in_record h t =
      let from = started h.edge t in
      (λ i. if option_map_or (λ d. is_index d.store) (type_at schema (sym from.0 i)) false then None else option_map (λ n. record_key (sym from.0 i) n) (source_of (sym from.1 i)))
      ∙ ap (λ o. if option_map_or (λ (d : TypeDef). is_index d.store) o false then None else Some (record_key number id)) forward.at
      ∙ ap (λ b. if b then None else Some (record_key number id)) forward.stored

  is_kept : (edge : EdgeRef) → starts_at number (Id id) edge ≡ true → is_kept_in schema vertical shard edge ≡ true
  is_kept edge t =
      let from = started edge t in
      ap (is_kept_in schema vertical shard) (λ i. record { type_no = sym from.0 i; key = sym from.1 i; target = edge.target })
      ∙ ap (λ o. option_map_or (is_kept_by schema vertical shard (record { type_no = number; key = Id id; target = edge.target })) o false) forward.at
      ∙ ap (λ b. if b then keeps_target schema vertical shard forward.type_def edge.target else keeps_source schema vertical shard forward.type_def id) forward.stored
      ∙ (λ i. forward.starting i && (of_shard i == shard)) ∙ number_itself shard

  kept_all : (es : List (EdgeRef × EdgeRow)) → filter (λ (h : Held). starts_at number (Id id) h.edge) (map held_of (filter (λ e. is_kept_in schema vertical shard e.0) es)) ≡ map held_of (filter (λ e. starts_at number (Id id) e.0) es)
  kept_all [] = refl
  kept_all (e ∷ es) = by (starts_at number (Id id) e.0) refl (is_kept_in schema vertical shard e.0) refl (kept_all es)
    where
      left : List Held
      left = map held_of (filter (λ f. is_kept_in schema vertical shard f.0) es)

      by : (s : Bool) → starts_at number (Id id) e.0 ≡ s → (k : Bool) → is_kept_in schema vertical shard e.0 ≡ k
          → filter (λ (h : Held). starts_at number (Id id) h.edge) (map held_of (filter (λ f. is_kept_in schema vertical shard f.0) es)) ≡ map held_of (filter (λ f. starts_at number (Id id) f.0) es)
          → filter (λ (h : Held). starts_at number (Id id) h.edge) (map held_of (cond k (e ∷ filter (λ f. is_kept_in schema vertical shard f.0) es) (filter (λ f. is_kept_in schema vertical shard f.0) es)))
          ≡ map held_of (cond s (e ∷ filter (λ f. starts_at number (Id id) f.0) es) (filter (λ f. starts_at number (Id id) f.0) es))
      by true t true k rest = ap (λ b. cond b (held_of e ∷ filter (λ (h : Held). starts_at number (Id id) h.edge) (map held_of (filter (λ f. is_kept_in schema vertical shard f.0) es))) (filter (λ (h : Held). starts_at number (Id id) h.edge) (map held_of (filter (λ f. is_kept_in schema vertical shard f.0) es)))) t ∙ ap (λ hs. held_of e ∷ hs) rest
      by true t false k rest = let both : true ≡ false = sym (is_kept e.0 t) ∙ k in absurd cc
      by false t true k rest = ap (λ b. cond b (held_of e ∷ filter (λ (h : Held). starts_at number (Id id) h.edge) (map held_of (filter (λ f. is_kept_in schema vertical shard f.0) es))) (filter (λ (h : Held). starts_at number (Id id) h.edge) (map held_of (filter (λ f. is_kept_in schema vertical shard f.0) es)))) t ∙ rest
      by false t false k rest = rest

  pub records_read : record_at (shard_rows schema table vertical shard) (record_key number id) ≡ map item_of (map held_of (filter (λ e. starts_at number (Id id) e.0) table.edges))
  unfolding shard_rows
  records_read = record_read schema (shard_edges schema table vertical shard) (record_key number id) in_record ∙ ap (map item_of) (kept_all table.edges)
