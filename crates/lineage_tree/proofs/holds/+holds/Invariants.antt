use Rattle.std.proofs.Common.{◌≡◌, Bool, true, drop, length}
use Rattle.uni_base.specs.declared.edge.Held.{Held}
use Rattle.lineage_tree.specs.Entries.{all_name_below}
use Rattle.lineage_tree.specs.Holding.{all_hold_by, some_hold_by}
use Rattle.lineage_tree.specs.Judges.{IsJudge}
use Rattle.lineage_tree.specs.Tree.{trees_of}
use Rattle.lineage_tree.proofs.holds.+holds.Given as goal

abbrev pub decreases-holds : goal.decreases-holds
decreases-holds g l = goal.size-holds g l

abbrev pub invariant-loop-member : goal.invariant-loop-member
invariant-loop-member g l = record {
  names : all_name_below (length l.verdicts) (trees_of (drop l.member-index l.member-items)) ≡ true;
  holds : (accepts : Held → Bool) → IsJudge g.F.Fn l.judge accepts
      → all_hold_by accepts l.verdicts (trees_of l.member-items) ≡ all_hold_by accepts l.verdicts (trees_of (drop l.member-index l.member-items));
}

abbrev pub invariant-loop-member-2 : goal.invariant-loop-member-2
invariant-loop-member-2 g l = record {
  names : all_name_below (length l.verdicts) (trees_of (drop l.member-index l.member-items)) ≡ true;
  holds : (accepts : Held → Bool) → IsJudge g.F.Fn l.judge accepts
      → some_hold_by accepts l.verdicts (trees_of l.member-items) ≡ some_hold_by accepts l.verdicts (trees_of (drop l.member-index l.member-items));
}
