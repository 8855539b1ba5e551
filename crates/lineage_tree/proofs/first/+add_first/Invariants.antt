use Rattle.std.proofs.Common.{◌≡◌, ◌≤◌, ◌++◌, Bool, true, drop, length, map}
use Rattle.uni_base.specs.declared.edge.Held.{Held}
use Rattle.lineage_tree.specs.Accepted.{edges_of, first_or_none, some_accepted, verdicts_of}
use Rattle.lineage_tree.specs.Entries.{all_name_below, entries_of}
use Rattle.lineage_tree.specs.Judges.{IsJudge}
use Rattle.lineage_tree.specs.Lists.{choices_of, members_lists}
use Rattle.lineage_tree.specs.Tree.{tree_of, trees_of}
use Rattle.lineage_tree.proofs.Sizes.{forest_size_by, size_by, sizes_of}
use Rattle.lineage_tree.proofs.first.+add_first.Given as goal

abbrev pub decreases-add_first : goal.decreases-add_first
decreases-add_first g l = size_by (sizes_of l.entries.now) (tree_of l.tree.now)

abbrev pub invariant-loop-member : goal.invariant-loop-member
invariant-loop-member g l =
    let book = entries_of (map tree_of l.entries) in
    let rest = trees_of (drop l.member-index l.member-items) in
    record {
      names : all_name_below (length l.entries) rest ≡ true;
      size : forest_size_by (sizes_of l.entries) rest ≤ forest_size_by (sizes_of l.entries) (trees_of l.member-items);
      first : (accepts : Held → Bool) → IsJudge g.F.Fn l.judge accepts → l.verdicts ≡ verdicts_of accepts book → some_accepted accepts (choices_of book (trees_of l.member-items)) ≡ true
          → (some_accepted accepts (choices_of book rest) ≡ true)
          × (l.edges ++ edges_of (first_or_none accepts (choices_of book rest)) ≡ l.initial.edges ++ edges_of (first_or_none accepts (choices_of book (trees_of l.member-items))));
    }

abbrev pub invariant-loop-member-2 : goal.invariant-loop-member-2
invariant-loop-member-2 g l =
    let book = entries_of (map tree_of l.entries) in
    let rest = trees_of (drop l.member-index l.member-items) in
    record {
      added : l.edges ≡ l.initial.edges;
      names : all_name_below (length l.entries) rest ≡ true;
      size : forest_size_by (sizes_of l.entries) rest ≤ forest_size_by (sizes_of l.entries) (trees_of l.member-items);
      first : (accepts : Held → Bool) → IsJudge g.F.Fn l.judge accepts → l.verdicts ≡ verdicts_of accepts book → some_accepted accepts (members_lists book (trees_of l.member-items)) ≡ true
          → (some_accepted accepts (members_lists book rest) ≡ true)
          × (first_or_none accepts (members_lists book rest) ≡ first_or_none accepts (members_lists book (trees_of l.member-items)));
    }
