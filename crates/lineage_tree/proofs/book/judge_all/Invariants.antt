use Rattle.std.proofs.Common.{◌≡◌, Bool, length, map, take}
use Rattle.uni_base.specs.declared.edge.Held.{Held}
use Rattle.lineage_tree.specs.Accepted.{verdicts_of}
use Rattle.lineage_tree.specs.Entries.{entries_of}
use Rattle.lineage_tree.specs.Judges.{IsJudge}
use Rattle.lineage_tree.specs.Tree.{tree_of}
use Rattle.lineage_tree.proofs.book.judge_all.Given as goal

abbrev pub invariant-loop-entry : goal.invariant-loop-entry
invariant-loop-entry g l = record {
  count : length l.verdicts ≡ l.entry-index;
  verdicts : (accepts : Held → Bool) → IsJudge g.F.Fn l.judge accepts → l.verdicts ≡ verdicts_of accepts (entries_of (map tree_of (take l.entry-index l.entries)));
}
