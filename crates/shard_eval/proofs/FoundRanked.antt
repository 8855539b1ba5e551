-- What is found is in rank order.
use Rattle.std.proofs.Common.{◌≡◌, ℕ, All, List, [], ◌∷◌, map, filter, refl, sym, ap, subst}
use Rattle.std.specs.FinMap as finite
use Rattle.std.proofs.lemmas.List.Elements.{All-cons, All-head, All-nil, All-tail}
use Rattle.query_tree.specs.declared.kind.ListKind.{ListKind}
use Rattle.query_tree.specs.declared.kind.ListKind.TheVariants as lists
use Rattle.query_tree.specs.declared.query.Mark.{Mark}
use Rattle.uni_base.specs.declared.edge.Audience.{Audience}
use Rattle.uni_base.specs.declared.entity.DocKey.{DocKey}
use Rattle.uni_base.specs.Cursors.{IsRanked}
use Rattle.posting_lists.specs.Postings.{keys_of}
use Rattle.layer_stack.specs.declared.place.Place.{Place}
use Rattle.layer_stack.specs.declared.place.TermKey.{TermKey}
use Rattle.layer_stack.specs.Places.{term_of}
use Rattle.layer_stack.specs.Postings.{PostingTable, is_under, posting_of, postings_of}
use Rattle.layer_stack.proofs.Terms.{sorted_keyed}
use Rattle.layer_stack.proofs.Under.{sorted_ranked}
use Rattle.shard_eval.specs.declared.leaf.Leaf.{Leaf}
use Rattle.shard_eval.specs.declared.resolved.InnerHit.{InnerHit}
use Rattle.shard_eval.specs.Found.{Found, found_keys, found_term}
use Rattle.shard_eval.specs.Kept.{found_list, IsShare}
use Rattle.shard_eval.specs.Resolution.{Listing, Resolution, Resolutions, all_found, found, found_joined, found_listing, found_prefix, leaf_from, leaf_of, marks_of, term_node, prefix_node, list_node, joined_node, listed_node, no_nodes, with_node, AreReady, IsReady}
use Rattle.uni_base.specs.declared.edge.Key.TheVariants.{Word}
use Rattle.prefix_terms.specs.PrefixWords.{prefix_words}
use Rattle.shard_eval.specs.Sources.{AreRanked}
use Rattle.shard_eval.proofs.KeptRanked.{kept_ranked, keys_of_list}
use Rattle.shard_eval.proofs.PostingLists.{keys_of_term}

keys_of_rows : (rows : List (Place × Audience)) → map (λ (e : DocKey × Audience). e.0) (map (λ (r : Place × Audience). (r.0.key, r.1)) rows) ≡ keys_of (map posting_of rows)
keys_of_rows [] = refl
keys_of_rows (r ∷ rows) = ap (λ (ks : List DocKey). r.0.key ∷ ks) (keys_of_rows rows)

-- the postings of a term are
pub postings_ranked : (term : TermKey) (table : PostingTable) → IsRanked (keys_of (postings_of term table))
postings_ranked term table =
    let rows = filter (is_under term) (finite.entries table) in
    subst IsRanked (keys_of_rows rows) (sorted_ranked (map (λ (r : Place × Audience). (r.0.key, r.1)) rows) (sorted_keyed term (finite.entries table) (finite.entries_sorted table)))

-- so is what a term finds
pub term_ranked : (table : PostingTable) (leaf : Leaf) → IsRanked (found_keys (found_term table leaf))
term_ranked table leaf =
    let term = term_of leaf.type_no leaf.key in
    subst IsRanked (sym (keys_of_term leaf (postings_of term table))) (postings_ranked term table)

pub terms_ranked : (table : PostingTable) (leaves : List Leaf) → AreRanked (map (found_term table) leaves)
terms_ranked table [] = All-nil (λ (fs : List Found). IsRanked (found_keys fs))
terms_ranked table (leaf ∷ leaves) = All-cons (λ (fs : List Found). IsRanked (found_keys fs)) (found_term table leaf) (map (found_term table) leaves) (term_ranked table leaf) (terms_ranked table leaves)

pub prefix_ranked : (table : PostingTable) (number : ℕ) (words : List (List ℕ)) → AreRanked (map (λ word. found_term table (leaf_of number (Word word))) words)
prefix_ranked table number [] = All-nil (λ (fs : List Found). IsRanked (found_keys fs))
prefix_ranked table number (word ∷ words) = All-cons (λ (fs : List Found). IsRanked (found_keys fs)) (found_term table (leaf_of number (Word word))) (map (λ w. found_term table (leaf_of number (Word w))) words) (term_ranked table (leaf_of number (Word word))) (prefix_ranked table number words)

pub joined_ranked : (table : PostingTable) (number : ℕ) (inner : List InnerHit) → AreRanked (found_joined table number inner)
joined_ranked table number [] = All-nil (λ (fs : List Found). IsRanked (found_keys fs))
joined_ranked table number (hit ∷ inner) = All-cons (λ (fs : List Found). IsRanked (found_keys fs)) (found_term table (leaf_from number hit)) (found_joined table number inner) (term_ranked table (leaf_from number hit)) (joined_ranked table number inner)

pub listed_ranked : (number : ℕ) (inner : List Listing) → All (λ listing. IsRanked (keys_of listing.rows)) inner → AreRanked (map (found_listing number) inner)
listed_ranked number [] all = All-nil (λ (fs : List Found). IsRanked (found_keys fs))
listed_ranked number (listing ∷ inner) all =
    All-cons (λ (fs : List Found). IsRanked (found_keys fs)) (found_listing number listing) (map (found_listing number) inner)
    (subst IsRanked (sym (keys_of_term (leaf_from number listing.hit) listing.rows)) (All-head (λ (l : Listing). IsRanked (keys_of l.rows)) listing inner all))
    (listed_ranked number inner (All-tail (λ (l : Listing). IsRanked (keys_of l.rows)) listing inner all))

list_ranked : (kind : ListKind) (marks : List Mark) (found_lists : List (List Found)) → AreRanked found_lists → IsRanked (found_keys (found_list kind marks found_lists))
list_ranked kind marks found_lists all = subst IsRanked (sym (keys_of_list kind marks found_lists)) (kept_ranked kind marks found_lists all)

-- and what a shard has of a query that can be asked
mutual
  pub found_ranked : (table : PostingTable) (node : Resolution) → IsReady node → IsRanked (found_keys (found table node))
  found_ranked table (term_node number key) ready = term_ranked table (leaf_of number key)
  found_ranked table (prefix_node number from) ready = list_ranked lists.Or [] (found_prefix table number from) (prefix_ranked table number (prefix_words number from table))
  found_ranked table (list_node kind nodes) ready = list_ranked kind (marks_of nodes) (all_found table nodes) (all_ranked table nodes ready)
  found_ranked table (joined_node number inner) ready = list_ranked lists.Or [] (found_joined table number inner) (joined_ranked table number inner)
  found_ranked table (listed_node number inner) ready = list_ranked lists.Or [] (map (found_listing number) inner) (listed_ranked number inner ready)

  pub all_ranked : (table : PostingTable) (nodes : Resolutions) → AreReady nodes → AreRanked (all_found table nodes)
  all_ranked table no_nodes ready = All-nil (λ (fs : List Found). IsRanked (found_keys fs))
  all_ranked table (with_node node mark others) ready =
      All-cons (λ (fs : List Found). IsRanked (found_keys fs)) (found table node) (all_found table others) (found_ranked table node ready.1) (all_ranked table others ready.2)

-- the marks of operands that can be asked are shares
pub marks_ready : (nodes : Resolutions) → AreReady nodes → All IsShare (marks_of nodes)
marks_ready no_nodes ready = All-nil IsShare
marks_ready (with_node node mark others) ready = All-cons IsShare mark (marks_of others) ready.0 (marks_ready others ready.2)
