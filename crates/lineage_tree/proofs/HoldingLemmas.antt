-- A loop over the members of a tree, which asks whether they hold.
use Rattle.std.proofs.Common.{◌≡◌, ℕ, ◌+◌, ◌<◌, ◌≤◌, Bool, true, false, ◌&&◌, ◌||◌, List, sym, ◌∙◌, ap, get_or, drop, length}
use Rattle.uni_base.specs.declared.edge.Held.{Held}
use Rattle.lineage_tree.specs.declared.lineage.Lineage.{Lineage}
use Rattle.lineage_tree.specs.declared.lineage.Lineage.TheViews as views
use Rattle.lineage_tree.specs.Holding.{holds_by, all_hold_by, some_hold_by}
use Rattle.lineage_tree.specs.Tree.{tree_of, trees_of}
use Rattle.lineage_tree.proofs.TreeLemmas.{tree_of-all_of, tree_of-any_of, trees_of-drop, trees_of-end}

module _ (accepts : Held → Bool) (vs : List Bool) (tree : Lineage) (items : List Lineage) (i : ℕ) where
  module _ (members : _) (is : tree ≡ views.AllOf members) (all : items ≡ members.items)
      (so_far : all_hold_by accepts vs (trees_of items) ≡ all_hold_by accepts vs (trees_of (drop i items))) where
    all_rest : holds_by accepts vs (tree_of tree) ≡ all_hold_by accepts vs (trees_of (drop i items))
    all_rest =
        ap (λ (t : Lineage). holds_by accepts vs (tree_of t)) is ∙ ap (holds_by accepts vs) (tree_of-all_of members)
        ∙ ap (λ (ts : List Lineage). all_hold_by accepts vs (trees_of ts)) (sym all) ∙ so_far

    pub all_stops : (item : Lineage) (b : Bool) → i < length items → item ≡ get_or items i item → b ≡ holds_by accepts vs (tree_of item) → b ≡ false → false ≡ holds_by accepts vs (tree_of tree)
    all_stops item b within at asked refused =
        sym (all_rest ∙ ap (all_hold_by accepts vs) (trees_of-drop items i item within at) ∙ ap (λ c. c && all_hold_by accepts vs (trees_of (drop (i + 1) items))) (sym asked ∙ refused))

    pub all_ends : length items ≤ i → true ≡ holds_by accepts vs (tree_of tree)
    all_ends past = sym (all_rest ∙ ap (all_hold_by accepts vs) (trees_of-end items i past))

  module _ (members : _) (is : tree ≡ views.AnyOf members) (all : items ≡ members.items)
      (so_far : some_hold_by accepts vs (trees_of items) ≡ some_hold_by accepts vs (trees_of (drop i items))) where
    some_rest : holds_by accepts vs (tree_of tree) ≡ some_hold_by accepts vs (trees_of (drop i items))
    some_rest =
        ap (λ (t : Lineage). holds_by accepts vs (tree_of t)) is ∙ ap (holds_by accepts vs) (tree_of-any_of members)
        ∙ ap (λ (ts : List Lineage). some_hold_by accepts vs (trees_of ts)) (sym all) ∙ so_far

    pub some_stops : (item : Lineage) (b : Bool) → i < length items → item ≡ get_or items i item → b ≡ holds_by accepts vs (tree_of item) → b ≡ true → true ≡ holds_by accepts vs (tree_of tree)
    some_stops item b within at asked holds =
        sym (some_rest ∙ ap (some_hold_by accepts vs) (trees_of-drop items i item within at) ∙ ap (λ c. c || some_hold_by accepts vs (trees_of (drop (i + 1) items))) (sym asked ∙ holds))

    pub some_ends : length items ≤ i → false ≡ holds_by accepts vs (tree_of tree)
    some_ends past = sym (some_rest ∙ ap (some_hold_by accepts vs) (trees_of-end items i past))
