-- A query whose joins are answered, as a plain tree, and what a shard has of it.
use Rattle.std.specs.Prelude.{ℕ, All, List, [], ◌∷◌, None, Some, map}
use Rattle.query_tree.specs.declared.kind.ListKind.{ListKind}
use Rattle.query_tree.specs.declared.kind.ListKind.TheVariants as lists
use Rattle.query_tree.specs.declared.query.Mark.{Mark}
use Rattle.uni_base.specs.declared.edge.Key.{Key}
use Rattle.uni_base.specs.declared.edge.Key.TheVariants.{Id, Word}
use Rattle.uni_base.specs.Cursors.{IsRanked}
use Rattle.posting_lists.specs.declared.posting.Posting.{Posting}
use Rattle.posting_lists.specs.Postings.{keys_of}
use Rattle.layer_stack.specs.Postings.{PostingTable}
use Rattle.shard_eval.specs.declared.leaf.Leaf.{Leaf}
use Rattle.shard_eval.specs.declared.resolved.InnerHit.{InnerHit}
use Rattle.shard_eval.specs.declared.resolved.ListedHit.{ListedHit}
use Rattle.shard_eval.specs.declared.resolved.Resolved.{Resolved}
use Rattle.shard_eval.specs.declared.resolved.ResolvedOperand.{ResolvedOperand}
use Rattle.shard_eval.specs.declared.resolved.Resolved.TheOpen.{Resolved-F, ResolvedOperand-F}
use Rattle.shard_eval.specs.declared.resolved.Resolved.TheFolds.{fold-Resolved, fold-ResolvedOperand}
use Rattle.shard_eval.specs.Found.{Found, found_posting, found_term}
use Rattle.shard_eval.specs.Kept.{found_list, IsShare}
use Rattle.prefix_terms.specs.PrefixWords.{prefix_words}

-- the term of a type and key, and of an edge from an inner hit
abbrev pub leaf_of : ℕ → Key → Leaf
leaf_of number key = record { type_no = number; key = key; led = None }

abbrev pub leaf_from : ℕ → InnerHit → Leaf
leaf_from number hit = record { type_no = number; key = Id hit.key.id; led = Some hit.entry }

-- a hit of an inner query, with the postings that a join of its forward edges has in the shard
pub record Listing : Type 0 where
  pub hit : InnerHit
  pub rows : List Posting

abbrev pub listing_of : ListedHit → Listing
listing_of listed = record { hit = listed.hit; rows = listed.rows.items }

-- terms; lists under their operators; and joins with the hits of their inner queries
mutual
  pub data Resolution : Type 0 where
    term_node : ℕ → Key → Resolution
    prefix_node : ℕ → List ℕ → Resolution
    list_node : ListKind → Resolutions → Resolution
    joined_node : ℕ → List InnerHit → Resolution
    listed_node : ℕ → List Listing → Resolution

  pub data Resolutions : Type 0 where
    no_nodes : Resolutions
    with_node : Resolution → Mark → Resolutions → Resolutions

-- operands in their order
abbrev pub nodes_of : List (Resolution × Mark) → Resolutions
nodes_of [] = no_nodes
nodes_of (operand ∷ operands) = with_node operand.0 operand.1 (nodes_of operands)

abbrev pub node_step : Resolved-F Resolution (Resolution × Mark) → Resolution
node_step (Resolved-F.Term type_no key) = term_node type_no key
node_step (Resolved-F.Prefix type_no from) = prefix_node type_no from
node_step (Resolved-F.And operands) = list_node lists.And (nodes_of operands.items)
node_step (Resolved-F.Or operands) = list_node lists.Or (nodes_of operands.items)
node_step (Resolved-F.Difference operands) = list_node lists.Difference (nodes_of operands.items)
node_step (Resolved-F.WeakAnd operands) = list_node lists.WeakAnd (nodes_of operands.items)
node_step (Resolved-F.StrongOr operands) = list_node lists.StrongOr (nodes_of operands.items)
node_step (Resolved-F.Joined type_no inner) = joined_node type_no inner.items
node_step (Resolved-F.Listed type_no inner) = listed_node type_no (map listing_of inner.items)

abbrev pub operand_step : ResolvedOperand-F Resolution (Resolution × Mark) → Resolution × Mark
operand_step operand = (operand.node, operand.mark)

abbrev pub resolution : Resolved → Resolution
resolution = fold-Resolved Resolution (Resolution × Mark) node_step operand_step

abbrev pub operand_of : ResolvedOperand → Resolution × Mark
operand_of = fold-ResolvedOperand Resolution (Resolution × Mark) node_step operand_step

-- the marks of operands
abbrev pub marks_of : Resolutions → List Mark
marks_of no_nodes = []
marks_of (with_node node mark others) = mark ∷ marks_of others

-- what each key of a prefix term finds
abbrev pub found_words : PostingTable → ℕ → List (List ℕ) → List (List Found)
found_words table number = map (λ word. found_term table (leaf_of number (Word word)))

abbrev pub found_prefix : PostingTable → ℕ → List ℕ → List (List Found)
found_prefix table number from = found_words table number (prefix_words number from table)

-- what the edges from inner hits find, where a posting is an index edge, or is listed
abbrev pub found_joined : PostingTable → ℕ → List InnerHit → List (List Found)
found_joined table number = map (λ hit. found_term table (leaf_from number hit))

abbrev pub found_listing : ℕ → Listing → List Found
found_listing number listing = map (found_posting (leaf_from number listing.hit)) listing.rows

-- What a shard has of a query: by the postings of a term, or of some key of a prefix term; by an operator over
-- what its operands find; and of a join whatever an edge from some inner hit leads to
abbrev mutual
  pub found : PostingTable → Resolution → List Found
  found table (term_node number key) = found_term table (leaf_of number key)
  found table (prefix_node number from) = found_list lists.Or [] (found_prefix table number from)
  found table (list_node kind nodes) = found_list kind (marks_of nodes) (all_found table nodes)
  found table (joined_node number inner) = found_list lists.Or [] (found_joined table number inner)
  found table (listed_node number inner) = found_list lists.Or [] (map (found_listing number) inner)

  pub all_found : PostingTable → Resolutions → List (List Found)
  all_found table no_nodes = []
  all_found table (with_node node mark others) = found table node ∷ all_found table others

-- a query is such as can be asked: weights are shares, and listed postings are in rank order
abbrev mutual
  pub IsReady : Resolution → Type 0
  IsReady (term_node number key) = Unit {0}
  IsReady (prefix_node number from) = Unit {0}
  IsReady (list_node kind nodes) = AreReady nodes
  IsReady (joined_node number inner) = Unit {0}
  IsReady (listed_node number inner) = All (λ listing. IsRanked (keys_of listing.rows)) inner

  pub AreReady : Resolutions → Type 0
  AreReady no_nodes = Unit {0}
  AreReady (with_node node mark others) = IsShare mark × IsReady node × AreReady others
