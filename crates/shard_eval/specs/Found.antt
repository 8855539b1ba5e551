-- What a shard has of a query: entities in rank order, each with the tree of its lineages.
use Rattle.std.specs.Prelude.{ℕ, ◌≡◌, Bool, true, List, [], ◌∷◌, Option, None, Some, not, map, filter, if◌then◌else◌}
use Rattle.std.specs.List.{filter_map}
use Rattle.std.specs.Ordering.{is_eq}
use Rattle.uni_base.specs.declared.edge.Held.{Held}
use Rattle.uni_base.specs.declared.edge.Key.{Key}
use Rattle.uni_base.specs.declared.entity.DocKey.{DocKey}
use Rattle.uni_base.specs.Cursors.{is_before, IsRanked}
use Rattle.uni_base.specs.RankOrder.{doc_cmp}
use Rattle.posting_lists.specs.declared.posting.Posting.{Posting}
use Rattle.layer_stack.specs.Places.{term_of}
use Rattle.layer_stack.specs.Postings.{PostingTable, postings_of}
use Rattle.lineage_tree.specs.declared.lineage.RawHit.{RawHit}
use Rattle.lineage_tree.specs.Tree.{Tree, edge, all_of, entry, no_members, with_member, tree_of}
use Rattle.shard_eval.specs.declared.leaf.Leaf.{Leaf}

-- an entity that is found, with its tree
pub record Found : Type 0 where
  pub key : DocKey
  pub tree : Tree

abbrev pub found_keys : List Found → List DocKey
found_keys = map (λ f. f.key)

-- a hit as it is found
abbrev pub found_of : RawHit → Found
found_of hit = record { key = hit.key; tree = tree_of hit.lineage }

abbrev pub found_all : List RawHit → List Found
found_all = map found_of

abbrev pub hit_keys : List RawHit → List DocKey
hit_keys = map (λ hit. hit.key)

-- whether an entity is found under a key
abbrev pub is_at : DocKey → Found → Bool
is_at k f = is_eq (doc_cmp f.key k)

-- the tree of an entity, if it is found
abbrev pub tree_at : List Found → DocKey → Option Tree
tree_at [] k = None
tree_at (f ∷ fs) k = if is_at k f then Some f.tree else tree_at fs k

-- the tree of the first that is found, if it is at a key
abbrev pub first_at : DocKey → List Found → Option Tree
first_at k [] = None
first_at k (f ∷ fs) = if is_at k f then Some f.tree else None

-- the trees of an entity in several lists, in their order: of those that have it
abbrev pub trees_at : List (List Found) → DocKey → List Tree
trees_at lists k = filter_map (λ fs. tree_at fs k) lists

-- the edge of a posting
abbrev pub held_by : ℕ → Key → Posting → Held
held_by number key p = record { edge = record { type_no = number; key = key; target = p.key.id }; audience = p.audience }

-- a tree, and what an entry of the book says, if one led to it
abbrev pub led_by : Option ℕ → Tree → Tree
led_by None tree = tree
led_by (Some n) tree = all_of (with_member tree (with_member (entry n) no_members))

-- a posting of a term: its target, by the one edge, and by what led to the term's key
abbrev pub found_posting : Leaf → Posting → Found
found_posting leaf p = record { key = p.key; tree = led_by leaf.led (edge (held_by leaf.type_no leaf.key p)) }

-- what a term finds
abbrev pub found_term : PostingTable → Leaf → List Found
found_term table leaf = map (found_posting leaf) (postings_of (term_of leaf.type_no leaf.key) table)

-- what is found from a key on
abbrev pub found_from : DocKey → List Found → List Found
found_from from = filter (λ f. not (is_before f.key from))

-- lists from which what comes after a key can be read as before
pub record KeepsLater (key : DocKey) (old new : List Found) : Type 0 where
  pub ranked : IsRanked (found_keys new)
  pub later : (k : DocKey) → is_before key k ≡ true → tree_at new k ≡ tree_at old k
