-- The edges of a record are those of the table, so that their postings are those of the edges.
use Rattle.std.proofs.Common.{◌≡◌, ◌==◌, ◌&&◌, ℕ, Bool, true, false, cond, if◌then◌else◌, List, [], ◌∷◌, map, filter, Option, None, Some, refl, sym, ◌∙◌, ap, subst}
use Rattle.std.proofs.lemmas.Map.Keys.{IsDistinct-from_sorted}
use Rattle.std.proofs.lemmas.Map.Views.{Contains-from_lookup, lookup-from_Contains}
use Rattle.std.specs.Cmp.{eq_by_cmp_equiv, tied_itself}
use Rattle.std.specs.List.{Contains, cons_option, filter_map}
use Rattle.std.specs.Map.{keys_of}
use Rattle.std.specs.Option.{option_and_then, option_map}
use Rattle.std.specs.Ordering.{eq_by_cmp, is_eq}
use Rattle.uni_base.specs.declared.edge.Audience.{Audience}
use Rattle.uni_base.specs.declared.edge.EdgeRef.{EdgeRef}
use Rattle.uni_base.specs.declared.edge.Key.TheVariants.{Id}
use Rattle.uni_base.specs.declared.entity.DocKey.{DocKey}
use Rattle.uni_base.specs.declared.entity.Rank.{Rank}
use Rattle.uni_base.specs.declared.limits.Limits.{Limits}
use Rattle.uni_base.specs.EdgeOrder.{edge_cmp, key_cmp-total}
use Rattle.uni_schema.specs.Schema.{Declarations, shard_of}
use Rattle.uni_table.specs.declared.command.EdgeRow.{EdgeRow}
use Rattle.uni_table.specs.declared.command.EntityRow.{EntityRow}
use Rattle.uni_table.specs.Contents.{Contents, audience_at, edge_at, entity_at, starts_at}
use Rattle.uni_table.specs.GraphKeys.{edge_total, exact_edges}
use Rattle.uni_table.specs.Lists.{held_of}
use Rattle.uni_table.specs.Ranked.{is_of_shard, ranked_all}
use Rattle.uni_table.specs.TableState.{IsKept}
use Rattle.uni_table.proofs.Exact.{ranked_is_exact}
use Rattle.uni_table.proofs.Listed.{given_by, is_given}
use Rattle.posting_lists.specs.declared.posting.Posting.{Posting}
use Rattle.forward_data.specs.declared.record.ForwardItem.{ForwardItem}
use Rattle.shard_index.specs.Laws.{edge_to, posting_to, rank_in_shard}
use Rattle.shard_index.specs.Shards.{item_of}
use Rattle.shard_index.proofs.LoggedMaps.{equal_of}
use Rattle.shard_index.proofs.ReachedItems.{named as edge_named}
use Rattle.shard_index.proofs.ReadRanks.{same_number}
use Rattle.shard_index.proofs.Squeezed.{number_itself}
use Rattle.apply_extract.specs.Edges.{posting_in, record_items}

module _ (number id : ℕ) where
  -- the item of an edge that starts there
  abbrev item_at : EdgeRef × EdgeRow → Option ForwardItem
  item_at e = if starts_at number (Id id) e.0 then Some (item_of (held_of e)) else None

  items_given : (es : List (EdgeRef × EdgeRow)) → map item_of (map held_of (filter (λ e. starts_at number (Id id) e.0) es)) ≡ filter_map item_at es
  items_given [] = refl
  items_given (e ∷ es) = by (starts_at number (Id id) e.0) (items_given es)
    where
      by : (b : Bool) → map item_of (map held_of (filter (λ f. starts_at number (Id id) f.0) es)) ≡ filter_map item_at es
          → map item_of (map held_of (cond b (e ∷ filter (λ f. starts_at number (Id id) f.0) es) (filter (λ f. starts_at number (Id id) f.0) es))) ≡ cons_option (if b then Some (item_of (held_of e)) else None) (filter_map item_at es)
      by true later = ap (λ is. item_of (held_of e) ∷ is) later
      by false later = later

  itself_starts : (target : ℕ) → starts_at number (Id id) (edge_to number (Id id) target) ≡ true
  itself_starts target = λ i. number_itself number i && is_eq (tied_itself key_cmp-total (Id id) i)

module _ (schema : Declarations) (limits : Limits) (table : Contents) (number id : ℕ) (kept : IsKept schema limits table) where
  abbrev items : List ForwardItem
  items = record_items table number id

  -- the record has an item exactly where the table has the edge with its audience
  item_there : (item : ForwardItem) → Contains items item → audience_at table (edge_to number (Id id) item.target) ≡ Some item.audience
  item_there item there =
      let given = given_by (item_at number id) table.edges item (subst (λ (is : List ForwardItem). Contains is item) (items_given number id table.edges) there) in
      by given.0 (lookup-from_Contains {eq = eq_by_cmp edge_cmp} (eq_by_cmp_equiv edge_total) given.0.0 given.0.1 table.edges (IsDistinct-from_sorted edge_cmp (keys_of table.edges) kept.edges) given.1) (starts_at number (Id id) given.0.0) refl given.2
    where
      by : (e : EdgeRef × EdgeRow) → edge_at table e.0 ≡ Some e.1 → (b : Bool) → starts_at number (Id id) e.0 ≡ b → (if b then Some (item_of (held_of e)) else None) ≡ Some item → audience_at table (edge_to number (Id id) item.target) ≡ Some item.audience
      by e at true starts is =
          let same : item_of (held_of e) ≡ item = cc in
          let edge : edge_to number (Id id) item.target ≡ e.0 = ap (λ (x : ForwardItem). edge_to number (Id id) x.target) (sym same) ∙ edge_named number (Id id) e.0 starts in
          ap (audience_at table) edge ∙ ap (option_map (λ (row : EdgeRow). row.audience)) at ∙ ap (λ (x : ForwardItem). Some x.audience) same
      by e at false starts is = absurd cc

  item_is_there : (item : ForwardItem) → audience_at table (edge_to number (Id id) item.target) ≡ Some item.audience → Contains items item
  item_is_there item found = by (edge_at table (edge_to number (Id id) item.target)) refl found
    where
      by : (o : Option EdgeRow) → edge_at table (edge_to number (Id id) item.target) ≡ o → option_map (λ (row : EdgeRow). row.audience) o ≡ Some item.audience → Contains items item
      by None at is = absurd cc
      by (Some row) at is =
          let e : EdgeRef × EdgeRow = (edge_to number (Id id) item.target, row) in
          let among : Contains table.edges e = Contains-from_lookup {eq = eq_by_cmp edge_cmp} (λ x y t. exact_edges x y (equal_of (edge_cmp x y) t)) e.0 row table.edges at in
          let audience : row.audience ≡ item.audience = cc in
          let made : item_at number id e ≡ Some item = ap (λ b. if b then Some (item_of (held_of e)) else None) (itself_starts number id item.target) ∙ (λ i. Some (record { target = item.target; audience = audience i })) in
          subst (λ (is : List ForwardItem). Contains is item) (sym (items_given number id table.edges)) (is_given (item_at number id) table.edges e item among made)

  module _ (vertical : ℕ) where
    abbrev posting_at : DocKey → Option Posting
    posting_at = posting_to table number (Id id)

    abbrev rank_at : ℕ → Option Rank
    rank_at target = rank_in_shard schema table vertical (shard_of schema vertical target) target

    -- a rank is that of an entity of the vertical
    ranked_entity : (target : ℕ) (rank : Rank) → rank_at target ≡ Some rank → entity_at table target ≡ Some (record { vertical = vertical; rank = rank })
    ranked_entity target rank found = by (entity_at table target) found
      where
        next : (row : EntityRow) (a b : Bool) → (row.vertical == vertical) ≡ a → (if a && b then Some row.rank else None) ≡ Some rank → Some row ≡ Some (record { vertical = vertical; rank = rank })
        next row true true own is = let same : row.rank ≡ rank = cc in λ i. Some (record { vertical = same_number row.vertical vertical own i; rank = same i })
        next row true false own is = absurd cc
        next row false b own is = absurd cc

        by : (o : Option EntityRow) → option_and_then (λ (row : EntityRow). if is_of_shard schema vertical (shard_of schema vertical target) (target, row) then Some row.rank else None) o ≡ Some rank → o ≡ Some (record { vertical = vertical; rank = rank })
        by None is = absurd cc
        by (Some row) is = next row (row.vertical == vertical) (shard_of schema vertical target == shard_of schema vertical target) refl is

    entity_ranked : (target : ℕ) (rank : Rank) → entity_at table target ≡ Some (record { vertical = vertical; rank = rank }) → rank_at target ≡ Some rank
    entity_ranked target rank at =
        ap (option_and_then (λ (row : EntityRow). if is_of_shard schema vertical (shard_of schema vertical target) (target, row) then Some row.rank else None)) at
        ∙ (λ i. if number_itself vertical i && number_itself (shard_of schema vertical target) i then Some rank else None)

    -- the posting of an edge of the record is that of the edge at an entity of the vertical
    pub recorded_posting : (p : Posting) → Contains (filter_map (posting_in schema table vertical) items) p → Contains (filter_map posting_at (ranked_all table vertical)) p
    recorded_posting p there =
        let given = given_by (posting_in schema table vertical) items p there in
        by given.0 (item_there given.0 given.1) (rank_at given.0.target) refl given.2
      where
        by : (item : ForwardItem) → audience_at table (edge_to number (Id id) item.target) ≡ Some item.audience → (o : Option Rank) → rank_at item.target ≡ o
            → option_map (λ rank. record { key = record { rank = rank; id = item.target }; audience = item.audience }) o ≡ Some p → Contains (filter_map posting_at (ranked_all table vertical)) p
        by item held None at is = absurd cc
        by item held (Some rank) at is =
            let k : DocKey = record { rank = rank; id = item.target } in
            let own : Contains (ranked_all table vertical) k = (ranked_is_exact.lists schema limits table vertical k kept).1 (ranked_entity item.target rank at) in
            is_given posting_at (ranked_all table vertical) k p own (ap (option_map (λ audience. record { key = k; audience = audience })) held ∙ is)

    -- and each of those is one of them
    pub posting_recorded : (p : Posting) → Contains (filter_map posting_at (ranked_all table vertical)) p → Contains (filter_map (posting_in schema table vertical) items) p
    posting_recorded p there =
        let given = given_by posting_at (ranked_all table vertical) p there in
        by given.0 ((ranked_is_exact.lists schema limits table vertical given.0 kept).0 given.1) (audience_at table (edge_to number (Id id) given.0.id)) refl given.2
      where
        by : (k : DocKey) → entity_at table k.id ≡ Some (record { vertical = vertical; rank = k.rank }) → (o : Option Audience) → audience_at table (edge_to number (Id id) k.id) ≡ o
            → option_map (λ audience. record { key = k; audience = audience }) o ≡ Some p → Contains (filter_map (posting_in schema table vertical) items) p
        by k own None held is = absurd cc
        by k own (Some audience) held is =
            let item : ForwardItem = record { target = k.id; audience = audience } in
            is_given (posting_in schema table vertical) items item p (item_is_there item held)
            (ap (option_map (λ (rank : Rank). record { key = record { rank = rank; id = k.id }; audience = audience })) (entity_ranked k.id k.rank own) ∙ is)
