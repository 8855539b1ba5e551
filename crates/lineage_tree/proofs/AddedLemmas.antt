-- A loop that adds the edges of a tree's first list, member by member.
use Rattle.std.proofs.Common.{◌≡◌, ℕ, ◌+◌, ◌<◌, ◌≤◌, Bool, true, false, List, ◌++◌, refl, sym, ◌∙◌, ap, length, get_or, drop, append-nil}
use Rattle.uni_base.specs.declared.edge.EdgeRef.{EdgeRef}
use Rattle.uni_base.specs.declared.edge.Held.{Held}
use Rattle.lineage_tree.specs.declared.lineage.Lineage.{Lineage}
use Rattle.lineage_tree.specs.declared.lineage.Lineage.TheViews as views
use Rattle.lineage_tree.specs.Accepted.{edges_of, first_or_none, some_accepted}
use Rattle.lineage_tree.specs.Entries.{names_below, all_name_below}
use Rattle.lineage_tree.specs.Lists.{joined, lists_of, choices_of, members_lists}
use Rattle.lineage_tree.specs.Tree.{Forest, with_member, tree_of, trees_of}
use Rattle.lineage_tree.proofs.EntryLemmas.{Book, both_true}
use Rattle.lineage_tree.proofs.FirstLemmas.{head_some, rest_some, first-joined, first-here, first-later, some-later, edges_append}
use Rattle.lineage_tree.proofs.Sizes.{forest_size_by, size_by}
use Rattle.lineage_tree.proofs.TreeLemmas.{tree_of-all_of, tree_of-any_of, trees_of-drop, trees_of-end}

module _ (items : List Lineage) (i : ℕ) where
  module _ (item : Lineage) (within : i < length items) (at : item ≡ get_or items i item) where
    abbrev before : Forest
    before = trees_of (drop i items)

    abbrev after : Forest
    after = trees_of (drop (i + 1) items)

    turn : before ≡ with_member (tree_of item) after
    turn = trees_of-drop items i item within at

    pub turn_names : (n : ℕ) → all_name_below n before ≡ true → (names_below n (tree_of item) ≡ true) × (all_name_below n after ≡ true)
    turn_names n names = both_true (names_below n (tree_of item)) (all_name_below n after) (ap (all_name_below n) (sym turn) ∙ names)

    pub turn_size : (sizes : List ℕ) → forest_size_by sizes before ≡ size_by sizes (tree_of item) + forest_size_by sizes after
    turn_size sizes = ap (forest_size_by sizes) turn

    module _ (accepts : Held → Bool) (book : Book) where
      -- one list of each member
      module _ (olds nows news : List EdgeRef) (whole : List Held) (some : some_accepted accepts (choices_of book before) ≡ true)
          (so_far : nows ++ edges_of (first_or_none accepts (choices_of book before)) ≡ olds ++ edges_of whole) where
        some_turned : some_accepted accepts (joined (lists_of book (tree_of item)) (choices_of book after)) ≡ true
        some_turned = ap (λ (f : Forest). some_accepted accepts (choices_of book f)) (sym turn) ∙ some

        pub item_some : some_accepted accepts (lists_of book (tree_of item)) ≡ true
        item_some = head_some accepts (lists_of book (tree_of item)) (choices_of book after) some_turned

        pub after_some : some_accepted accepts (choices_of book after) ≡ true
        after_some = rest_some accepts (lists_of book (tree_of item)) (choices_of book after) some_turned

        pub all_turned : news ≡ nows ++ edges_of (first_or_none accepts (lists_of book (tree_of item))) → news ++ edges_of (first_or_none accepts (choices_of book after)) ≡ olds ++ edges_of whole
        all_turned added =
            edges_append nows news (news ++ edges_of (first_or_none accepts (choices_of book after))) (first_or_none accepts (lists_of book (tree_of item))) (first_or_none accepts (choices_of book after))
            (first_or_none accepts (choices_of book before)) added refl
            (ap (λ (f : Forest). first_or_none accepts (choices_of book f)) turn ∙ first-joined accepts (lists_of book (tree_of item)) (choices_of book after) some_turned)
            ∙ so_far

      -- a list of some member
      module _ (whole : List Held) (some : some_accepted accepts (members_lists book before) ≡ true) (so_far : first_or_none accepts (members_lists book before) ≡ whole) where
        some_turned-any : some_accepted accepts (lists_of book (tree_of item) ++ members_lists book after) ≡ true
        some_turned-any = ap (λ (f : Forest). some_accepted accepts (members_lists book f)) (sym turn) ∙ some

        first_turned : first_or_none accepts (lists_of book (tree_of item) ++ members_lists book after) ≡ whole
        first_turned = ap (λ (f : Forest). first_or_none accepts (members_lists book f)) (sym turn) ∙ so_far

        pub first_found : some_accepted accepts (lists_of book (tree_of item)) ≡ true → first_or_none accepts (lists_of book (tree_of item)) ≡ whole
        first_found here = sym (first-here accepts (lists_of book (tree_of item)) (members_lists book after) here) ∙ first_turned

        pub later_some : some_accepted accepts (lists_of book (tree_of item)) ≡ false → some_accepted accepts (members_lists book after) ≡ true
        later_some none = some-later accepts (lists_of book (tree_of item)) (members_lists book after) none some_turned-any

        pub later_first : some_accepted accepts (lists_of book (tree_of item)) ≡ false → first_or_none accepts (members_lists book after) ≡ whole
        later_first none = sym (first-later accepts (lists_of book (tree_of item)) (members_lists book after) none) ∙ first_turned

  module _ (past : length items ≤ i) (accepts : Held → Bool) (book : Book) where
    -- no member is left
    pub all_added : (olds nows : List EdgeRef) (whole : List Held) → nows ++ edges_of (first_or_none accepts (choices_of book (trees_of (drop i items)))) ≡ olds ++ edges_of whole → nows ≡ olds ++ edges_of whole
    all_added olds nows whole so_far =
        sym (append-nil nows) ∙ ap (λ (f : Forest). nows ++ edges_of (first_or_none accepts (choices_of book f))) (sym (trees_of-end items i past)) ∙ so_far

    pub none_left : some_accepted accepts (members_lists book (trees_of (drop i items))) ≡ true → ⊥
    none_left some = let e = ap (λ (f : Forest). some_accepted accepts (members_lists book f)) (sym (trees_of-end items i past)) ∙ some in absurd cc

-- the lists of a tree, by its members
pub all_lists : (book : Book) (tree : Lineage) (items : List Lineage) (members : _) → tree ≡ views.AllOf members → items ≡ members.items → lists_of book (tree_of tree) ≡ choices_of book (trees_of items)
all_lists book tree items members is all =
    ap (λ (t : Lineage). lists_of book (tree_of t)) is ∙ ap (lists_of book) (tree_of-all_of members) ∙ ap (λ (ts : List Lineage). choices_of book (trees_of ts)) (sym all)

pub any_lists : (book : Book) (tree : Lineage) (items : List Lineage) (members : _) → tree ≡ views.AnyOf members → items ≡ members.items → lists_of book (tree_of tree) ≡ members_lists book (trees_of items)
any_lists book tree items members is all =
    ap (λ (t : Lineage). lists_of book (tree_of t)) is ∙ ap (lists_of book) (tree_of-any_of members) ∙ ap (λ (ts : List Lineage). members_lists book (trees_of ts)) (sym all)
