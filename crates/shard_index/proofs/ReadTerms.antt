-- The postings of a term in the rows of a shard, in rank order.
use Rattle.std.proofs.Common.{◌≡◌, ◌==◌, ◌&&◌, ◌||◌, ◌⊎◌, inl, inr, ℕ, Bool, true, false, cond, if◌then◌else◌, List, [], ◌∷◌, map, filter, Option, None, Some, refl, sym, ◌∙◌, ap, subst, is_some}
use Rattle.std.proofs.lemmas.List.Elements.{All-from_recursion}
use Rattle.std.proofs.lemmas.List.Kept.{IsStrictlySortedBy-filter}
use Rattle.std.proofs.lemmas.Map.Keys.{sorted_head, sorted_tail}
use Rattle.std.specs.Cmp.{tied_itself}
use Rattle.std.specs.declared.cmp.Ordering.TheVariants.{Less}
use Rattle.std.specs.FinMap as finite
use Rattle.std.specs.FinMap.Entries.{find}
use Rattle.std.specs.List.{AllByRecursion, Contains, filter_map, cons_option, list_any}
use Rattle.std.specs.List.Sorted.{IsStrictlySortedBy}
use Rattle.std.specs.Option.{option_map, option_and_then}
use Rattle.std.specs.Ordering.{eq_by_cmp, is_eq}
use Rattle.uni_base.specs.declared.edge.Audience.{Audience}
use Rattle.uni_base.specs.declared.edge.Key.{Key}
use Rattle.uni_base.specs.declared.entity.DocKey.{DocKey}
use Rattle.uni_base.specs.declared.limits.Limits.{Limits}
use Rattle.uni_base.specs.Cursors.{is_before, is_less, IsRanked}
use Rattle.uni_base.specs.RankOrder.{doc_cmp}
use Rattle.uni_base.proofs.RankedLemmas.{doc_total, exact_key}
use Rattle.uni_schema.specs.Schema.{Declarations, shard_of}
use Rattle.uni_table.specs.declared.command.EntityRow.{EntityRow}
use Rattle.uni_table.specs.Contents.{Contents, entity_at, audience_at}
use Rattle.uni_table.specs.Ranked.{ranked, ranked_all}
use Rattle.uni_table.specs.TableState.{IsKept}
use Rattle.uni_table.proofs.Exact.{ranked_is_exact}
use Rattle.uni_table.proofs.Listed.{none_in_nil, first_or_later, first_is, later_is}
use Rattle.uni_table.proofs.Sharded.{shards_part}
use Rattle.posting_lists.specs.declared.posting.Posting.{Posting}
use Rattle.posting_lists.specs.Postings.{keys_of}
use Rattle.layer_base.specs.Lookups.{either}
use Rattle.layer_stack.specs.Places.{term_of}
use Rattle.layer_stack.specs.Postings.{place_of}
use Rattle.layer_stack.specs.Stacks.{entry_of, part_table}
use Rattle.layer_stack.proofs.Merged.{get-part}
use Rattle.layer_stack.proofs.Terms.{parts_stand, one_part}
use Rattle.shard_index.specs.Laws.{edge_to, leads_to, posting_to}
use Rattle.shard_index.specs.Rows.{term_postings}
use Rattle.shard_index.specs.Shards.{shard_rows}
use Rattle.shard_index.proofs.Among.{or_true}
use Rattle.shard_index.proofs.LoggedMaps.{equal_of, Agree, stands_there, found}
use Rattle.shard_index.proofs.ReadEdges.{target_vertical}
use Rattle.shard_index.proofs.ReadPostings.{answer, posted, postings_read}
use Rattle.shard_index.proofs.ReadRanks.{IsOfShard, ranked_there}

-- ---- rank order

ranked_from : (ks : List DocKey) → IsStrictlySortedBy doc_cmp ks → IsRanked ks
ranked_from [] sorted = tt
ranked_from (k ∷ ks) sorted = (All-from_recursion (λ x. is_before k x ≡ true) ks (before ks (sorted_head doc_cmp k ks sorted)), ranked_from ks (sorted_tail doc_cmp k ks sorted))
  where
    before : (xs : List DocKey) → AllByRecursion (λ y. doc_cmp k y ≡ Less) xs → AllByRecursion (λ x. is_before k x ≡ true) xs
    before [] all = tt
    before (x ∷ xs) all = (ap is_less all.0, before xs all.1)

keys_left : (table : Contents) (number : ℕ) (key : Key) (ks : List DocKey) → keys_of (filter_map (posting_to table number key) ks) ≡ filter (λ k. is_some (audience_at table (edge_to number key k.id))) ks
keys_left table number key [] = refl
keys_left table number key (k ∷ ks) = by (audience_at table (edge_to number key k.id)) (keys_left table number key ks)
  where
    by : (o : Option Audience) → keys_of (filter_map (posting_to table number key) ks) ≡ filter (λ x. is_some (audience_at table (edge_to number key x.id))) ks
        → keys_of (cons_option (option_map (λ audience. record { key = k; audience = audience }) o) (filter_map (posting_to table number key) ks)) ≡ cond (is_some o) (k ∷ filter (λ x. is_some (audience_at table (edge_to number key x.id))) ks) (filter (λ x. is_some (audience_at table (edge_to number key x.id))) ks)
    by None rest = rest
    by (Some audience) rest = ap (λ xs. k ∷ xs) rest

-- ---- an entity that has a posting

any_posted : (table : Contents) (number : ℕ) (key : Key) (test : DocKey → Bool) (ks : List DocKey) (k : DocKey) (audience : Audience) → Contains ks k → audience_at table (edge_to number key k.id) ≡ Some audience → test k ≡ true
    → list_any (λ (row : DocKey × Audience). test row.0) (map entry_of (filter_map (posting_to table number key) ks)) ≡ true
any_posted table number key test [] k audience there at t = absurd (none_in_nil k there)
any_posted table number key test (x ∷ ks) k audience there at t = by (first_or_later x ks k there) (λ later. any_posted table number key test ks k audience later at t)
  where
    left : List (DocKey × Audience)
    left = map entry_of (filter_map (posting_to table number key) ks)

    by : (x ≡ k) ⊎ Contains ks k → (Contains ks k → list_any (λ (row : DocKey × Audience). test row.0) (map entry_of (filter_map (posting_to table number key) ks)) ≡ true)
        → list_any (λ (row : DocKey × Audience). test row.0) (map entry_of (cons_option (option_map (λ a. record { key = x; audience = a }) (audience_at table (edge_to number key x.id))) (filter_map (posting_to table number key) ks))) ≡ true
    by (inl same) more =
        ap (λ o. list_any (λ (row : DocKey × Audience). test row.0) (map entry_of (cons_option (option_map (λ a. record { key = x; audience = a }) o) (filter_map (posting_to table number key) ks)))) (ap (λ (d : DocKey). audience_at table (edge_to number key d.id)) same ∙ at)
        ∙ ap (λ b. b || list_any (λ (row : DocKey × Audience). test row.0) (map entry_of (filter_map (posting_to table number key) ks))) (ap test same ∙ t)
    by (inr later) more = next (audience_at table (edge_to number key x.id)) (more later)
      where
        next : (o : Option Audience) → list_any (λ (row : DocKey × Audience). test row.0) (map entry_of (filter_map (posting_to table number key) ks)) ≡ true
            → list_any (λ (row : DocKey × Audience). test row.0) (map entry_of (cons_option (option_map (λ a. record { key = x; audience = a }) o) (filter_map (posting_to table number key) ks))) ≡ true
        next None e = e
        next (Some a) e = ap (λ b. test x || b) e ∙ or_true (test x)

contains_left : (p : DocKey → Bool) (ks : List DocKey) (k : DocKey) → Contains ks k → p k ≡ true → Contains (filter p ks) k
contains_left p [] k there t = absurd (none_in_nil k there)
contains_left p (x ∷ ks) k there t = by (first_or_later x ks k there) (λ later. contains_left p ks k later t)
  where
    by : (x ≡ k) ⊎ Contains ks k → (Contains ks k → Contains (filter p ks) k) → Contains (cond (p x) (x ∷ filter p ks) (filter p ks)) k
    by (inl same) more = subst (λ b. Contains (cond b (x ∷ filter p ks) (filter p ks)) k) (sym (ap p same ∙ t)) (subst (λ d. Contains (x ∷ filter p ks) d) same (first_is x (filter p ks)))
    by (inr later) more = next (p x) (more later)
      where
        next : (b : Bool) → Contains (filter p ks) k → Contains (cond b (x ∷ filter p ks) (filter p ks)) k
        next true c = later_is x (filter p ks) k c
        next false c = c

module _ (schema : Declarations) (limits : Limits) (table : Contents) (vertical shard number : ℕ) (key : Key) (kept : IsKept schema limits table) (leads : leads_to schema vertical number ≡ true) where
  abbrev docs : List DocKey
  docs = ranked schema table vertical shard

  abbrev listed : List Posting
  listed = filter_map (posting_to table number key) (ranked schema table vertical shard)

  module _ (k : DocKey) where
    abbrev said : Option Audience
    said = answer schema limits table vertical shard kept number key leads k

    one_agrees : (doc : DocKey) (audience : Audience) → IsOfShard schema limits table vertical shard kept doc → audience_at table (edge_to number key doc.id) ≡ Some audience → eq_by_cmp doc_cmp k doc ≡ true → said ≡ Some audience
    one_agrees doc audience own at t =
        let same : k ≡ doc = exact_key k doc (equal_of (doc_cmp k doc) t) in
        ap (answer schema limits table vertical shard kept number key leads) same
        ∙ ap (option_and_then (posted schema limits table vertical shard kept number key leads doc)) (ap (option_map (λ (row : EntityRow). record { rank = row.rank; id = doc.id })) own.0)
        ∙ (λ i. if is_eq (tied_itself doc_total doc i) && own.1 i then audience_at table (edge_to number key doc.id) else None) ∙ at

    agree : (ks : List DocKey) → AllByRecursion (IsOfShard schema limits table vertical shard kept) ks → Agree doc_cmp k said (map entry_of (filter_map (posting_to table number key) ks))
    agree [] all = tt
    agree (doc ∷ ks) all = by (audience_at table (edge_to number key doc.id)) refl (agree ks all.1) all.0
      where
        by : (o : Option Audience) → audience_at table (edge_to number key doc.id) ≡ o → Agree doc_cmp k said (map entry_of (filter_map (posting_to table number key) ks)) → IsOfShard schema limits table vertical shard kept doc
            → Agree doc_cmp k said (map entry_of (cons_option (option_map (λ a. record { key = doc; audience = a }) o) (filter_map (posting_to table number key) ks)))
        by None at later own = later
        by (Some audience) at later own = (one_agrees doc audience own at, later)

    missing : stands_there doc_cmp k said (map entry_of (filter_map (posting_to table number key) (ranked schema table vertical shard))) ≡ false → said ≡ None
    missing e = by (entity_at table k.id) refl
      where
        -- a vertical's entity of the shard to which the table has the edge is listed
        there : (row : EntityRow) → entity_at table k.id ≡ Some row → k ≡ record { rank = row.rank; id = k.id } → (shard_of schema vertical k.id == shard) ≡ true
            → (o : Option Audience) → audience_at table (edge_to number key k.id) ≡ o → o ≡ None
        there row at same own None found = refl
        there row at same own (Some audience) found =
            let vertical_is : row.vertical ≡ vertical = target_vertical schema limits table vertical shard number key k.id kept leads row at audience found in
            let entity : entity_at table k.id ≡ Some (record { vertical = vertical; rank = k.rank }) = at ∙ (λ i. Some (record { vertical = vertical_is i; rank = (sym same i).rank })) in
            let among : Contains (ranked_all table vertical) k = (ranked_is_exact.lists schema limits table vertical k kept).1 entity in
            let of_shard : Contains (ranked schema table vertical shard) k = subst (λ (ks : List DocKey). Contains ks k) (sym (shards_part.lists schema limits table vertical shard kept)) (contains_left (λ d. shard_of schema vertical d.id == shard) (ranked_all table vertical) k among own) in
            let stands = any_posted table number key (eq_by_cmp doc_cmp k) (ranked schema table vertical shard) k audience of_shard found (ap is_eq (tied_itself doc_total k)) in
            let both : true ≡ false = sym stands ∙ e in absurd cc

        by : (o : Option EntityRow) → entity_at table k.id ≡ o → option_and_then (posted schema limits table vertical shard kept number key leads k) (option_map (λ (row : EntityRow). record { rank = row.rank; id = k.id }) o) ≡ None
        by None at = refl
        by (Some row) at = next (eq_by_cmp doc_cmp k (record { rank = row.rank; id = k.id })) refl (shard_of schema vertical k.id == shard) refl
          where
            next : (a : Bool) → eq_by_cmp doc_cmp k (record { rank = row.rank; id = k.id }) ≡ a → (b : Bool) → (shard_of schema vertical k.id == shard) ≡ b → (if a && b then audience_at table (edge_to number key k.id) else None) ≡ None
            next true t true own = there row at (exact_key k (record { rank = row.rank; id = k.id }) (equal_of (doc_cmp k (record { rank = row.rank; id = k.id })) t)) own (audience_at table (edge_to number key k.id)) refl
            next true t false own = refl
            next false t b own = refl

    none_else : (o : Option Audience) → either o None ≡ o
    none_else None = refl
    none_else (Some a) = refl

    -- the list, read as one layer, answers as the shard's postings do
    alike : finite.get (part_table (([], listed) ∷ [])) k ≡ finite.get (shard_rows schema table vertical shard).postings (place_of (term_of number key) k)
    alike =
        get-part (part_table []) ([], listed) k ∙ ap (either (find doc_cmp k (map entry_of listed))) (finite.get-empty doc_cmp k) ∙ none_else (find doc_cmp k (map entry_of listed))
        ∙ found doc_cmp k said (map entry_of listed) (agree (ranked schema table vertical shard) (ranked_there schema limits table vertical shard kept)) missing
        ∙ sym (postings_read schema limits table vertical shard kept number key leads k)

  listed_ranked : IsRanked (keys_of listed)
  listed_ranked =
      ranked_from (keys_of listed) (subst (IsStrictlySortedBy doc_cmp) (sym (keys_left table number key (ranked schema table vertical shard)))
      (IsStrictlySortedBy-filter doc_cmp (λ d. is_some (audience_at table (edge_to number key d.id))) (ranked schema table vertical shard)
      (subst (IsStrictlySortedBy doc_cmp) (sym (shards_part.lists schema limits table vertical shard kept)) (IsStrictlySortedBy-filter doc_cmp (λ d. shard_of schema vertical d.id == shard) (ranked_all table vertical) (ranked_is_exact.ascends schema limits table vertical kept)))))

  pub terms_read : term_postings (shard_rows schema table vertical shard) (term_of number key) ≡ filter_map (posting_to table number key) (ranked schema table vertical shard)
  terms_read = sym (parts_stand (term_of number key) (([], listed) ∷ []) (shard_rows schema table vertical shard).postings alike) ∙ one_part ([], listed) listed_ranked
