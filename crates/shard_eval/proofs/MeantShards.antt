-- What a shard of a table finds of a query whose joins are answered is what the query means there.
use Rattle.std.proofs.Common.{◌≡◌, ℕ, true, false, ◌&&◌, ◌==◌, All, List, [], ◌∷◌, map, filter, refl, sym, ◌∙◌, ap, subst, arith}
use Rattle.std.proofs.lemmas.Bool.{eqb-true}
use Rattle.std.proofs.lemmas.Bool.Decides.{nat_tests}
use Rattle.std.proofs.lemmas.List.Elements.{All-head, All-tail}
use Rattle.std.specs.List.{filter_map}
use Rattle.std.specs.Option.{option_map_or}
use Rattle.query_check.specs.Plan.{Plan, Plans, term_plan, prefix_plan, list_plan, join_plan, no_plans, with_plan}
use Rattle.query_check.specs.Verticals.{AreOf, IsOf, IsType}
use Rattle.query_tree.specs.declared.kind.JoinKind.TheVariants.{Apply, Extract}
use Rattle.query_tree.specs.declared.kind.ListKind.TheVariants.{Or}
use Rattle.lineage_tree.specs.Tree.{Tree}
use Rattle.layer_stack.specs.Places.{term_of}
use Rattle.layer_stack.specs.Postings.{PostingTable, postings_of}
use Rattle.posting_lists.specs.declared.posting.Posting.{Posting}
use Rattle.uni_base.specs.declared.edge.Key.{Key}
use Rattle.uni_base.specs.declared.edge.Key.TheVariants.{Id, Word}
use Rattle.uni_base.specs.declared.entity.DocKey.{DocKey}
use Rattle.uni_base.specs.declared.limits.Limits.{Limits}
use Rattle.uni_base.specs.Cursors.{IsRanked}
use Rattle.uni_base.specs.KeySets.{has_key}
use Rattle.uni_base.proofs.RankedLemmas.{has_key-filter}
use Rattle.uni_schema.specs.Schema.{Declarations, is_index, shard_of}
use Rattle.uni_schema.specs.declared.schema.Origin.{Origin}
use Rattle.uni_schema.specs.declared.schema.Origin.TheVariants.{Vertical, Words}
use Rattle.uni_schema.specs.declared.schema.Store.TheVariants.{Index}
use Rattle.uni_table.specs.Contents.{Contents}
use Rattle.uni_table.specs.Ranked.{ranked, ranked_all}
use Rattle.uni_table.specs.TableState.{IsKept}
use Rattle.uni_table.proofs.Sharded.{shards_part}
use Rattle.uni_meaning.specs.Hits.{leads_to, target_of}
use Rattle.uni_meaning.proofs.Typed.{list_of, target_is, vertical_is}
use Rattle.shard_index.specs.Laws.{posting_to, leads_to as is_indexed_to}
use Rattle.shard_index.specs.Shards.{shard_rows}
use Rattle.shard_index.proofs.Exact.{rows_are_exact}
use Rattle.shard_eval.specs.declared.resolved.InnerHit.{InnerHit}
use Rattle.shard_eval.specs.Found.{Found, found_posting, found_term}
use Rattle.shard_eval.specs.Kept.{found_list}
use Rattle.shard_eval.specs.Meant.{edges_into, meant, seen_found, AllStandFor, StandsFor}
use Rattle.shard_eval.specs.PlanTrees.{edge_tree}
use Rattle.shard_eval.specs.Resolution.{Listing, Resolution, Resolutions, all_found, found, found_joined, found_listing, found_prefix, leaf_from, leaf_of, list_node, listed_node, joined_node, marks_of, no_nodes, prefix_node, term_node, with_node}
use Rattle.shard_eval.proofs.HitsWithin.{second_true}
use Rattle.shard_eval.proofs.MeantJoins.{join_meant, led_list}
use Rattle.shard_eval.proofs.MeantNodes.{list_meant, AllMeant}
use Rattle.shard_eval.proofs.MeantPrefixes.{prefix_meant}
use Rattle.shard_eval.proofs.MeantTerms.{postings_meant}
use Rattle.shard_eval.proofs.RankedShards.{ranked_ranked}

module _ (schema : Declarations) where
  -- its edges are in the index of the vertical
  is_led : (number : ℕ) (origin : Origin) (vertical : ℕ) → IsType schema number Index origin vertical → is_indexed_to schema vertical number ≡ true
  is_led number origin vertical is =
      let self : (vertical == vertical) ≡ true = grind (arith, nat_tests) in
      ap (λ o. option_map_or (λ type_def. is_index type_def.store && type_def.target == vertical) o false) is.declared ∙ (λ i. is_index (is.stored i) && is.leads i == vertical) ∙ self

module _ (schema : Declarations) (limits : Limits) (table : Contents) (book : ℕ → Tree) (vertical shard : ℕ) (kept : IsKept schema limits table) where
  abbrev entities : List DocKey
  entities = ranked schema table vertical shard

  abbrev postings : PostingTable
  postings = (shard_rows schema table vertical shard).postings

  rank : IsRanked entities
  rank = ranked_ranked schema limits table vertical shard kept

  -- an entity of the shard is in the shard of its id
  pub own_shard : (x : DocKey) → has_key entities x ≡ true → shard_of schema vertical x.id ≡ shard
  own_shard x there =
      eqb-true (shard_of schema vertical x.id) shard
      (second_true (has_key (ranked_all table vertical) x) (shard_of schema vertical x.id == shard)
      (sym (has_key-filter (λ k. shard_of schema vertical k.id == shard) (ranked_all table vertical) x) ∙ subst (λ (ks : List DocKey). has_key ks x ≡ true) (shards_part.lists schema limits table vertical shard kept) there))

  -- the postings of a term
  posts : (number : ℕ) (origin : Origin) (key : Key) → IsType schema number Index origin vertical → postings_of (term_of number key) postings ≡ filter_map (posting_to table number key) entities
  posts number origin key is = rows_are_exact.postings schema limits table vertical shard number key kept (is_led schema number origin vertical is)

  -- the edges from inner hits, of an index type and as they are listed
  joined_lists : (number source : ℕ) → IsType schema number Index (Vertical source) vertical → (inner : List InnerHit) → found_joined postings number inner ≡ map (led_list table number (ranked schema table (target_of schema number) shard)) inner
  joined_lists number source is [] = refl
  joined_lists number source is (hit ∷ inner) =
      (λ i. map (found_posting (leaf_from number hit)) ((posts number (Vertical source) (Id hit.key.id) is ∙ (λ j. filter_map (posting_to table number (Id hit.key.id)) (ranked schema table (sym (target_is schema number Index (Vertical source) vertical is) j) shard))) i)
      ∷ joined_lists number source is inner i)

  listed_lists : (number : ℕ) (inner : List Listing) → All (λ (l : Listing). l.rows ≡ edges_into schema table number shard l.hit.key) inner
      → map (found_listing number) inner ≡ map (led_list table number (ranked schema table (target_of schema number) shard)) (map (λ (l : Listing). l.hit) inner)
  listed_lists number [] all = refl
  listed_lists number (l ∷ inner) all =
      (λ i. map (found_posting (leaf_from number l.hit)) (All-head (λ (x : Listing). x.rows ≡ edges_into schema table number shard x.hit.key) l inner all i)
      ∷ listed_lists number inner (All-tail (λ (x : Listing). x.rows ≡ edges_into schema table number shard x.hit.key) l inner all) i)

  mutual
    pub node_meant : (plan : Plan) (node : Resolution) → IsOf schema plan vertical → StandsFor schema table book shard plan node → map (seen_found book) (found postings node) ≡ meant schema table plan shard
    node_meant (term_plan number key) (term_node own own_key) is stands =
        (λ i. map (seen_found book) (found_term postings (leaf_of (stands.0 i) (stands.1 i))))
        ∙ ap (λ (ps : List Posting). map (seen_found book) (map (found_posting (leaf_of number key)) ps)) (posts number is.0 key is.1.0)
        ∙ postings_meant table book number key entities
        ∙ (λ i. map (λ k. (k, edge_tree table number key k)) (filter (leads_to table number key) (ranked schema table (sym (target_is schema number Index is.0 vertical is.1.0) i) shard)))
    node_meant (term_plan number key) (prefix_node own begin) is stands = absurd stands
    node_meant (term_plan number key) (list_node own nodes) is stands = absurd stands
    node_meant (term_plan number key) (joined_node own inner) is stands = absurd stands
    node_meant (term_plan number key) (listed_node own inner) is stands = absurd stands
    node_meant (prefix_plan number from) (term_node own own_key) is stands = absurd stands
    node_meant (prefix_plan number from) (prefix_node own begin) is stands =
        (λ i. map (seen_found book) (found_list Or [] (found_prefix postings (stands.0 i) (stands.1 i))))
        ∙ prefix_meant schema table kept.edges number from entities postings (λ word. posts number Words (Word word) is) book shard (λ i. ranked schema table (sym (target_is schema number Index Words vertical is) i) shard) rank
    node_meant (prefix_plan number from) (list_node own nodes) is stands = absurd stands
    node_meant (prefix_plan number from) (joined_node own inner) is stands = absurd stands
    node_meant (prefix_plan number from) (listed_node own inner) is stands = absurd stands
    node_meant (list_plan kind plans) (term_node own own_key) is stands = absurd stands
    node_meant (list_plan kind plans) (prefix_node own begin) is stands = absurd stands
    node_meant (list_plan kind plans) (list_node own nodes) is stands =
        (λ i. map (seen_found book) (found_list (stands.0 i) (marks_of nodes) (all_found postings nodes)))
        ∙ list_meant schema table book vertical shard rank (λ p of. vertical_is schema p vertical of) own_shard postings kind plans nodes is (all_meant plans nodes (list_of schema kind plans vertical is) stands.1)
    node_meant (list_plan kind plans) (joined_node own inner) is stands = absurd stands
    node_meant (list_plan kind plans) (listed_node own inner) is stands = absurd stands
    node_meant (join_plan Apply number limit plan) (term_node own own_key) is stands = absurd stands
    node_meant (join_plan Apply number limit plan) (prefix_node own begin) is stands = absurd stands
    node_meant (join_plan Apply number limit plan) (list_node own nodes) is stands = absurd stands
    node_meant (join_plan Apply number limit plan) (joined_node own inner) is stands =
        (λ i. map (seen_found book) (found_list Or [] (found_joined postings (stands.0 i) inner)))
        ∙ ap (λ (lists : List (List Found)). map (seen_found book) (found_list Or [] lists)) (joined_lists number is.0 is.1.0 inner)
        ∙ join_meant schema table book Apply number limit plan shard inner (ranked_ranked schema limits table (target_of schema number) shard kept) stands.1
    node_meant (join_plan Apply number limit plan) (listed_node own inner) is stands = absurd stands
    node_meant (join_plan Extract number limit plan) (term_node own own_key) is stands = absurd stands
    node_meant (join_plan Extract number limit plan) (prefix_node own begin) is stands = absurd stands
    node_meant (join_plan Extract number limit plan) (list_node own nodes) is stands = absurd stands
    node_meant (join_plan Extract number limit plan) (joined_node own inner) is stands = absurd stands
    node_meant (join_plan Extract number limit plan) (listed_node own inner) is stands =
        (λ i. map (seen_found book) (found_list Or [] (map (found_listing (stands.0 i)) inner)))
        ∙ ap (λ (lists : List (List Found)). map (seen_found book) (found_list Or [] lists)) (listed_lists number inner stands.2)
        ∙ join_meant schema table book Extract number limit plan shard (map (λ (l : Listing). l.hit) inner) (ranked_ranked schema limits table (target_of schema number) shard kept) stands.1

    all_meant : (plans : Plans) (nodes : Resolutions) → AreOf schema plans vertical → AllStandFor schema table book shard plans nodes → AllMeant schema table book vertical shard rank (λ p of. vertical_is schema p vertical of) own_shard postings plans nodes
    all_meant no_plans no_nodes are stands = tt
    all_meant no_plans (with_node node own rest) are stands = absurd stands
    all_meant (with_plan plan mark others) no_nodes are stands = absurd stands
    all_meant (with_plan plan mark others) (with_node node own rest) are stands = (stands.0, node_meant plan node are.0 stands.1, all_meant others rest are.1 stands.2)
