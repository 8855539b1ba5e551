-- How large trees are.
use Rattle.std.specs.Prelude.{ℕ, ◌≤◌, ◌+◌, ◌*◌, List, filter, length}
use Rattle.std.specs.List.{list_any}
use Rattle.uni_base.specs.declared.entity.DocKey.{DocKey}
use Rattle.lineage_tree.specs.Tree.{Tree, Forest, edge, all_of, any_of, entry, no_members, with_member}
use Rattle.shard_eval.specs.Found.{Found, is_at}

-- the nodes of a tree: a name of an entry is one, however large the tree that it names
abbrev mutual
  pub node_count : Tree → ℕ
  node_count (edge held) = 1
  node_count (all_of members) = 1 + node_counts members
  node_count (any_of members) = 1 + node_counts members
  node_count (entry number) = 1

  pub node_counts : Forest → ℕ
  node_counts no_members = 0
  node_counts (with_member tree members) = node_count tree + node_counts members

-- how many of some lists have an entity: of the lists of a join, the edges that join it
abbrev pub joining : List (List Found) → DocKey → ℕ
joining lists k = length (filter (λ fs. list_any (is_at k) fs) lists)

-- a hit's tree has one node, and three for each edge that joins it
abbrev pub IsSmall : List (List Found) → Found → Type 0
IsSmall lists f = node_count f.tree ≤ 3 * joining lists f.key + 1
