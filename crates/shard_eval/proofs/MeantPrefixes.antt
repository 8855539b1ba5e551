-- A prefix term finds in a shard what it means: its keys there lead to the same entities as all its keys do.
use Rattle.std.proofs.Common.{◌≡◌, ℕ, Bool, true, false, ◌||◌, ◌&&◌, cond, is_some, true≢false, All, List, [], ◌∷◌, Option, None, Some, map, filter, slice_get, refl, sym, ◌∙◌, ap, subst, arith}
use Rattle.std.specs.Prelude.{T}
use Rattle.std.proofs.lemmas.Bool.Decides.{nat_tests}
use Rattle.std.proofs.lemmas.Cmp.{eq_by_cmp_equiv}
use Rattle.std.proofs.lemmas.List.Elements.{All-cons, All-head, All-nil, All-tail}
use Rattle.std.proofs.lemmas.List.Kept.{IsStrictlySortedBy-filter}
use Rattle.std.proofs.lemmas.Map.Keys.{sorted_head, sorted_tail}
use Rattle.std.proofs.lemmas.Map.Lookups.{btree_set_from_contains}
use Rattle.std.proofs.lemmas.Map.Made.{is_member-filter}
use Rattle.std.specs.BTreeMap.{is_at}
use Rattle.std.specs.Cmp.{Equal-is}
use Rattle.std.specs.Cmp.Lexicographic.{slice_cmp, nat_list_cmp_total}
use Rattle.std.specs.FinMap as finite
use Rattle.std.specs.FinMap.Entries.{below_all, is_sorted}
use Rattle.std.specs.List.{AllByRecursion, cons_option, dedup, filter_map, list_any}
use Rattle.std.specs.List.Sorted.{IsStrictlySortedBy}
use Rattle.std.specs.Map.{keys_of, lookup}
use Rattle.std.specs.Option.{option_map}
use Rattle.std.specs.Ordering.{eq_by_cmp, is_eq, nat_cmp, ordering_then}
use Rattle.std.specs.declared.cmp.Ordering.{Ordering}
use Rattle.std.specs.declared.cmp.Ordering.TheVariants.{Less, Equal, Greater}
use Rattle.uni_base.specs.EdgeOrder.{edge_cmp}
use Rattle.uni_base.specs.Fields.{same}
use Rattle.uni_base.specs.KeySets.{has_key}
use Rattle.uni_base.specs.Cursors.{IsRanked}
use Rattle.uni_base.specs.RankOrder.{doc_cmp}
use Rattle.uni_base.specs.declared.edge.Audience.{Audience}
use Rattle.uni_base.specs.declared.edge.EdgeRef.{EdgeRef}
use Rattle.uni_base.specs.declared.edge.Key.TheVariants.{Word}
use Rattle.uni_base.specs.declared.entity.DocKey.{DocKey}
use Rattle.uni_base.proofs.RankedLemmas.{and_false, has_key-filter, same_from_is_eq}
use Rattle.lineage_tree.specs.Tree.{Tree, any_of, forest_of}
use Rattle.layer_base.proofs.Rising.{log_sorted}
use Rattle.layer_base.proofs.Sorted.{both, is_eq-then, lt_from}
use Rattle.layer_base.specs.Layers.{from_log}
use Rattle.layer_stack.specs.declared.place.Place.{Place}
use Rattle.layer_stack.specs.Places.{place_cmp, term_cmp, term_of}
use Rattle.layer_stack.specs.Postings.{PostingTable, is_under, place_of, posting_of, postings_of}
use Rattle.layer_stack.proofs.Order.{place_apart, place_total}
use Rattle.posting_lists.specs.declared.posting.Posting.{Posting}
use Rattle.prefix_terms.specs.PrefixWords.{has_posting, prefix_words}
use Rattle.prefix_terms.proofs.Occurs.{list_any-left}
use Rattle.prefix_terms.proofs.Parted.{is_word_at, is_word_at-same}
use Rattle.prefix_terms.proofs.TableWords.{any-prefix_words, prefix_words-begin, prefix_words-sorted}
use Rattle.uni_schema.specs.Schema.{Declarations}
use Rattle.uni_table.specs.Contents.{Contents, edge_at}
use Rattle.uni_table.specs.Ranked.{ranked}
use Rattle.uni_table.specs.declared.command.EdgeRow.{EdgeRow}
use Rattle.query_check.specs.Plan.{prefix_plan}
use Rattle.query_tree.specs.declared.kind.ListKind.TheVariants.{Or}
use Rattle.uni_meaning.specs.Hits.{edge_to, leads_to, target_of}
use Rattle.uni_meaning.specs.Prefixes.{begins_with, prefix_keys, word_of}
use Rattle.shard_index.specs.Laws.{posting_to}
use Rattle.shard_eval.specs.Found.{Found, found_posting, found_term}
use Rattle.shard_eval.specs.Kept.{found_list}
use Rattle.shard_eval.specs.Meant.{meant, seen_found}
use Rattle.shard_eval.specs.PlanTrees.{edge_tree, plan_tree}
use Rattle.shard_eval.specs.Resolution.{found_prefix, leaf_of}
use Rattle.shard_eval.proofs.HitsWithin.{first_true, later_true}
use Rattle.shard_eval.proofs.MeantJoins.{filter_same, paired_same, some_meant, IsMeant}
use Rattle.shard_eval.proofs.MeantLists.{paired}
use Rattle.shard_eval.proofs.MeantTerms.{postings_meant}

-- ---- the edges of a table as postings of one rank

abbrev edge_place : DocKey → EdgeRef → Place
edge_place z e = place_of (term_of e.type_no e.key) (record { rank = z.rank; id = e.target })

abbrev edge_rows : DocKey → List (EdgeRef × EdgeRow) → List (Place × Audience)
edge_rows z es = map (λ e. (edge_place z e.0, e.1.audience)) es

equal_self : (n : ℕ) → nat_cmp n n ≡ Equal
equal_self n = let self : is_eq (nat_cmp n n) ≡ true = grind (arith, nat_tests) in (Equal-is (nat_cmp n n)).0 self

then_then : (a b c : Ordering) → ordering_then (ordering_then a b) c ≡ ordering_then a (ordering_then b c)
then_then Less b c = refl
then_then Equal b c = refl
then_then Greater b c = refl

order_same : (z : DocKey) (a b : EdgeRef) → place_cmp (edge_place z a) (edge_place z b) ≡ edge_cmp a b
order_same z a b =
    ap (λ o. ordering_then (term_cmp (term_of a.type_no a.key) (term_of b.type_no b.key)) (ordering_then o (nat_cmp a.target b.target))) (equal_self z.rank.0)
    ∙ then_then (nat_cmp a.type_no b.type_no) _ (nat_cmp a.target b.target)

rows_below : (z : DocKey) (e : EdgeRef) (es : List (EdgeRef × EdgeRow)) → AllByRecursion (λ y. edge_cmp e y ≡ Less) (keys_of es) → T (below_all place_cmp (edge_place z e) (edge_rows z es))
rows_below z e [] all = tt
rows_below z e (x ∷ es) all = both _ _ (lt_from _ (order_same z e x.0 ∙ all.0)) (rows_below z e es all.1)

rows_rise : (z : DocKey) (es : List (EdgeRef × EdgeRow)) → IsStrictlySortedBy edge_cmp (keys_of es) → T (is_sorted place_cmp (edge_rows z es))
rows_rise z [] sorted = tt
rows_rise z (e ∷ es) sorted = both _ _ (rows_below z e.0 es (sorted_head edge_cmp e.0 (keys_of es) sorted)) (rows_rise z es (sorted_tail edge_cmp e.0 (keys_of es) sorted))

module _ (number : ℕ) (from : List ℕ) where
  words_same : (z : DocKey) (es : List (EdgeRef × EdgeRow))
      → filter_map (λ (e : EdgeRef × EdgeRow). word_of number from e.0.type_no e.0.key) es ≡ filter_map (λ (e : Place × Audience). word_of number from e.0.term.type_no e.0.term.key) (edge_rows z es)
  words_same z [] = refl
  words_same z (e ∷ es) = ap (cons_option (word_of number from e.0.type_no e.0.key)) (words_same z es)

  begun_from : (word : List ℕ) (ws : List (List ℕ)) → All (λ w. begins_with from w ≡ true) ws → list_any (is_word_at word) ws ≡ true → begins_with from word ≡ true
  begun_from word [] all there = absurd (true≢false (sym there))
  begun_from word (w ∷ ws) all there = over (is_word_at word w) refl there (begun_from word ws (All-tail (λ x. begins_with from x ≡ true) w ws all))
    where
      over : (b : Bool) → is_word_at word w ≡ b → (b || list_any (is_word_at word) ws) ≡ true → (list_any (is_word_at word) ws ≡ true → begins_with from word ≡ true) → begins_with from word ≡ true
      over true at h rest = ap (begins_with from) (is_word_at-same word w at) ∙ All-head (λ x. begins_with from x ≡ true) w ws all
      over false at h rest = rest h

  -- a key that has a posting is one of the words where it begins so
  any_keys : (t : PostingTable) (word : List ℕ) → has_posting number t word ≡ true → list_any (is_word_at word) (prefix_words number from t) ≡ begins_with from word
  any_keys t word posted = over (begins_with from word) refl
    where
      none : (b : Bool) → list_any (is_word_at word) (prefix_words number from t) ≡ b → begins_with from word ≡ false → b ≡ false
      none true there e = absurd (true≢false (sym (begun_from word (prefix_words number from t) (prefix_words-begin number from t) there) ∙ e))
      none false there e = refl

      over : (b : Bool) → begins_with from word ≡ b → list_any (is_word_at word) (prefix_words number from t) ≡ b
      over true begins = any-prefix_words number from t word begins ∙ posted
      over false begins = none _ refl begins

-- an edge is under its term
under_edge : (z : DocKey) (number : ℕ) (word : List ℕ) (id : ℕ) (e : EdgeRef × EdgeRow) → is_eq (edge_cmp (edge_to number (Word word) id) e.0) ≡ true → is_under {V = Audience} (term_of number (Word word)) (edge_place z e.0, e.1.audience) ≡ true
under_edge z number word id e same =
    first_true _ (is_eq (nat_cmp id e.0.target))
    (sym (is_eq-then (term_cmp (term_of number (Word word)) (term_of e.0.type_no e.0.key)) (nat_cmp id e.0.target)) ∙ ap is_eq (then_then (nat_cmp number e.0.type_no) _ (nat_cmp id e.0.target)) ∙ same)

under_some : (z : DocKey) (number : ℕ) (word : List ℕ) (id : ℕ) (es : List (EdgeRef × EdgeRow)) → is_some (lookup (is_at (edge_cmp (edge_to number (Word word) id))) es) ≡ true → list_any (is_under {V = Audience} (term_of number (Word word))) (edge_rows z es) ≡ true
under_some z number word id [] there = absurd (true≢false (sym there))
under_some z number word id (e ∷ es) there = over (is_eq (edge_cmp (edge_to number (Word word) id) e.0)) refl there (under_some z number word id es)
  where
    over : (b : Bool) → is_eq (edge_cmp (edge_to number (Word word) id) e.0) ≡ b → is_some (cond b (Some e.1) (lookup (is_at (edge_cmp (edge_to number (Word word) id))) es)) ≡ true
        → (is_some (lookup (is_at (edge_cmp (edge_to number (Word word) id))) es) ≡ true → list_any (is_under {V = Audience} (term_of number (Word word))) (edge_rows z es) ≡ true)
        → list_any (is_under {V = Audience} (term_of number (Word word))) (edge_rows z (e ∷ es)) ≡ true
    over true same h rest = ap (λ b. b || list_any (is_under {V = Audience} (term_of number (Word word))) (edge_rows z es)) (under_edge z number word id e same)
    over false same h rest = later_true _ _ (rest h)

-- a shard has a posting where the table has an edge to one of its entities
some_posting : (table : Contents) (number : ℕ) (word : List ℕ) (rs : List DocKey) (k : DocKey) → has_key rs k ≡ true → leads_to table number (Word word) k ≡ true → is_some (slice_get (filter_map (posting_to table number (Word word)) rs) 0) ≡ true
some_posting table number word [] k there leads = absurd (true≢false (sym there))
some_posting table number word (x ∷ rs) k there leads = over (edge_at table (edge_to number (Word word) x.id)) refl (is_eq (doc_cmp x k)) refl there (λ later. some_posting table number word rs k later leads)
  where
    over : (row : Option EdgeRow) → edge_at table (edge_to number (Word word) x.id) ≡ row → (b : Bool) → is_eq (doc_cmp x k) ≡ b → (b || has_key rs k) ≡ true
        → (has_key rs k ≡ true → is_some (slice_get (filter_map (posting_to table number (Word word)) rs) 0) ≡ true)
        → is_some (slice_get (cons_option (option_map (λ audience. record { key = x; audience = audience }) (option_map (λ (r : EdgeRow). r.audience) row)) (filter_map (posting_to table number (Word word)) rs)) 0) ≡ true
    over (Some row) e b same here rest = refl
    over None e true same here rest =
        absurd (true≢false (sym leads ∙ ap (λ (y : DocKey). leads_to table number (Word word) y) (sym (same_from_is_eq x k same)) ∙ ap is_some e))
    over None e false same here rest = rest here

and_where : (a b c : Bool) → (c ≡ true → a ≡ b) → (a && c) ≡ (b && c)
and_where a b true e = ap (λ x. x && true) (e refl)
and_where a b false e = and_false a ∙ sym (and_false b)

module _ (schema : Declarations) (table : Contents) (sorted : IsStrictlySortedBy edge_cmp (keys_of table.edges)) (number : ℕ) (from : List ℕ) (rs : List DocKey) (postings : PostingTable)
    (posts : (word : List ℕ) → postings_of (term_of number (Word word)) postings ≡ filter_map (posting_to table number (Word word)) rs) where
  abbrev edges_table : DocKey → PostingTable
  edges_table z = from_log (edge_rows z table.edges)

  entries_are : (z : DocKey) → edge_rows z table.edges ≡ finite.entries (edges_table z)
  entries_are z = log_sorted place_cmp place_total place_apart (edge_rows z table.edges) (rows_rise z table.edges sorted)

  keys_are : (z : DocKey) → prefix_keys table number from ≡ prefix_words number from (edges_table z)
  keys_are z = ap (dedup same) (words_same number from z table.edges ∙ ap (filter_map (λ (e : Place × Audience). word_of number from e.0.term.type_no e.0.term.key)) (entries_are z))

  posted_there : (k : DocKey) (word : List ℕ) → leads_to table number (Word word) k ≡ true → has_posting number (edges_table k) word ≡ true
  posted_there k word leads = ap (list_any (is_under (term_of number (Word word)))) (sym (entries_are k)) ∙ under_some k number word k.id table.edges leads

  posted_here : (k : DocKey) (word : List ℕ) → has_key rs k ≡ true → leads_to table number (Word word) k ≡ true → has_posting number postings word ≡ true
  posted_here k word there leads =
      list_any-left (is_under (term_of number (Word word))) posting_of (finite.entries postings) ∙ ap (λ (ps : List Posting). is_some (slice_get ps 0)) (posts word) ∙ some_posting table number word rs k there leads

  abbrev leading : DocKey → List ℕ → Bool
  leading k word = leads_to table number (Word word) k

  keys_rise : (z : DocKey) → IsStrictlySortedBy (slice_cmp nat_cmp) (prefix_keys table number from)
  keys_rise z = subst (IsStrictlySortedBy (slice_cmp nat_cmp)) (sym (keys_are z)) (prefix_words-sorted number from (edges_table z))

  -- the keys that lead to an entity of the shard
  same_words : (k : DocKey) → has_key rs k ≡ true → filter (leading k) (prefix_words number from postings) ≡ filter (leading k) (prefix_keys table number from)
  same_words k there =
      btree_set_from_contains nat_list_cmp_total (record { keys = filter (leading k) (prefix_words number from postings) }) (record { keys = filter (leading k) (prefix_keys table number from) })
      (IsStrictlySortedBy-filter (slice_cmp nat_cmp) (leading k) (prefix_words number from postings) (prefix_words-sorted number from postings))
      (IsStrictlySortedBy-filter (slice_cmp nat_cmp) (leading k) (prefix_keys table number from) (keys_rise k))
      (λ w. left w (prefix_words number from postings)
      ∙ and_where (list_any (is_word_at w) (prefix_words number from postings)) (list_any (is_word_at w) (prefix_keys table number from)) (leading k w)
      (λ leads. any_keys number from postings w (posted_here k w there leads) ∙ sym (ap (list_any (is_word_at w)) (keys_are k) ∙ any_keys number from (edges_table k) w (posted_there k w leads)))
      ∙ sym (left w (prefix_keys table number from)))
      (λ u v e. is_word_at-same u v (ap is_eq e))
    where
      left : (w : List ℕ) (xs : List (List ℕ)) → list_any (is_word_at w) (filter (leading k) xs) ≡ (list_any (is_word_at w) xs && leading k w)
      left w xs = is_member-filter {eq = eq_by_cmp (slice_cmp nat_cmp)} (eq_by_cmp_equiv nat_list_cmp_total) (leading k) w (λ x e. ap (leading k) (is_word_at-same w x e)) xs

  same_any : (k : DocKey) → has_key rs k ≡ true → list_any (leading k) (prefix_words number from postings) ≡ list_any (leading k) (prefix_keys table number from)
  same_any k there =
      list_any-left (leading k) (λ (w : List ℕ). w) (prefix_words number from postings)
      ∙ ap (λ (ws : List (List ℕ)). is_some (slice_get (map (λ w. w) ws) 0)) (same_words k there)
      ∙ sym (list_any-left (leading k) (λ (w : List ℕ). w) (prefix_keys table number from))

  module _ (book : ℕ → Tree) where
    abbrev word_list : List ℕ → List Found
    word_list word = found_term postings (leaf_of number (Word word))

    abbrev word_tree : List ℕ → DocKey → Tree
    word_tree word k = edge_tree table number (Word word) k

    all_words : (ws : List (List ℕ)) → All (IsMeant book rs word_list (λ word. leads_to table number (Word word)) word_tree) ws
    all_words [] = All-nil (IsMeant book rs word_list (λ word. leads_to table number (Word word)) word_tree)
    all_words (word ∷ ws) =
        All-cons (IsMeant book rs word_list (λ w. leads_to table number (Word w)) word_tree) word ws
        (ap (λ (ps : List Posting). map (seen_found book) (map (found_posting (leaf_of number (Word word))) ps)) (posts word) ∙ postings_meant table book number (Word word) rs)
        (all_words ws)

    -- what a prefix term finds
    pub prefix_meant : (shard : ℕ) → rs ≡ ranked schema table (target_of schema number) shard → IsRanked rs → map (seen_found book) (found_list Or [] (found_prefix postings number from)) ≡ meant schema table (prefix_plan number from) shard
    prefix_meant shard is rank =
        some_meant book rs rank word_list (λ word. leads_to table number (Word word)) word_tree (prefix_words number from postings) (all_words (prefix_words number from postings))
        ∙ ap (λ (ks : List DocKey). paired (λ k. any_of (forest_of (map (λ word. word_tree word k) (filter (leading k) (prefix_words number from postings))))) ks)
        (filter_same (λ k. list_any (leading k) (prefix_words number from postings)) (λ k. list_any (leading k) (prefix_keys table number from)) rs same_any)
        ∙ paired_same (λ k. any_of (forest_of (map (λ word. word_tree word k) (filter (leading k) (prefix_words number from postings))))) (plan_tree schema table (prefix_plan number from)) (filter (λ k. list_any (leading k) (prefix_keys table number from)) rs)
        (λ k there. ap (λ (ws : List (List ℕ)). any_of (forest_of (map (λ word. word_tree word k) ws)))
        (same_words k (first_true (has_key rs k) (list_any (leading k) (prefix_keys table number from)) (sym (has_key-filter (λ x. list_any (leading x) (prefix_keys table number from)) rs k) ∙ there))))
        ∙ ap (λ (ks : List DocKey). paired (plan_tree schema table (prefix_plan number from)) (filter (λ k. list_any (leading k) (prefix_keys table number from)) ks)) is
