-- The code's trees as plain trees.
use Rattle.std.proofs.Common.{rules, ◌≡◌, ℕ, ◌+◌, ◌<◌, ◌≤◌, List, sym, ◌∙◌, ap, get_or, drop, length}
use Rattle.std.proofs.lemmas.List.{at_drop_more, at_drop_all}
use Rattle.uni_base.specs.declared.edge.Held.{Held}
use Rattle.lineage_tree.specs.declared.lineage.Lineage.{Lineage}
use Rattle.lineage_tree.specs.declared.lineage.Lineage.TheViews as views
use Rattle.lineage_tree.specs.declared.lineage.Lineage.TheViews.{the_lemmas}
use Rattle.lineage_tree.specs.declared.lineage.Lineage.TheFolds.{fold-roll-Lineage, fold_out-Lineage}
use Rattle.lineage_tree.specs.declared.lineage.Lineage.TheBlock as block
use Rattle.lineage_tree.specs.Tree.{edge, all_of, any_of, entry, no_members, with_member, tree_of, trees_of}

pub tree_of-edge : (held : Held) → tree_of (block.Edge held) ≡ edge held
tree_of-edge held = search (rules, the_lemmas, fold-roll-Lineage, fold_out-Lineage)

pub tree_of-entry : (number : ℕ) → tree_of (block.Entry number) ≡ entry number
tree_of-entry number = search (rules, the_lemmas, fold-roll-Lineage, fold_out-Lineage)

pub tree_of-all_of : (members : _) → tree_of (views.AllOf members) ≡ all_of (trees_of members.items)
tree_of-all_of members = search (rules, the_lemmas, fold-roll-Lineage, fold_out-Lineage)

pub tree_of-any_of : (members : _) → tree_of (views.AnyOf members) ≡ any_of (trees_of members.items)
tree_of-any_of members = search (rules, the_lemmas, fold-roll-Lineage, fold_out-Lineage)

-- the members from a place on
pub trees_of-drop : (items : List Lineage) (i : ℕ) (item : Lineage) → i < length items → item ≡ get_or items i item → trees_of (drop i items) ≡ with_member (tree_of item) (trees_of (drop (i + 1) items))
trees_of-drop items i item within is =
    at_drop_more trees_of items i item within ∙ ap (λ (tree : Lineage). with_member (tree_of tree) (trees_of (drop (i + 1) items))) (sym is)

pub trees_of-end : (items : List Lineage) (i : ℕ) → length items ≤ i → trees_of (drop i items) ≡ no_members
trees_of-end items i past = at_drop_all trees_of items i past
