-- A lineage tree as a plain tree, which every definition speaks of.
use Rattle.std.specs.Prelude.{ℕ, List, [], ◌∷◌, map}
use Rattle.uni_base.specs.declared.edge.Held.{Held}
use Rattle.lineage_tree.specs.declared.lineage.Lineage.{Lineage}
use Rattle.lineage_tree.specs.declared.lineage.Lineage.TheOpen.{Lineage-F}
use Rattle.lineage_tree.specs.declared.lineage.Lineage.TheFolds.{fold-Lineage}

-- an edge; all of several members, or any of them; what an entry of a book says
mutual
  pub data Tree : Type 0 where
    edge : Held → Tree
    all_of : Forest → Tree
    any_of : Forest → Tree
    entry : ℕ → Tree

  pub data Forest : Type 0 where
    no_members : Forest
    with_member : Tree → Forest → Forest

-- members in their order
abbrev pub forest_of : List Tree → Forest
forest_of [] = no_members
forest_of (tree ∷ trees) = with_member tree (forest_of trees)

-- one layer of the code's tree, with the plain trees of what lies below
abbrev pub tree_step : Lineage-F Tree → Tree
tree_step (Lineage-F.Edge held) = edge held
tree_step (Lineage-F.AllOf members) = all_of (forest_of members.items)
tree_step (Lineage-F.AnyOf members) = any_of (forest_of members.items)
tree_step (Lineage-F.Entry number) = entry number

-- the plain tree of a lineage tree: its variants, numbers and edges
abbrev pub tree_of : Lineage → Tree
tree_of = fold-Lineage Tree tree_step

-- the same of several members
abbrev pub trees_of : List Lineage → Forest
trees_of members = forest_of (map tree_of members)
