-- what is shown so far is what is let through of the hits so far, whatever the judge accepts
use Rattle.std.proofs.Common.{◌≡◌, Bool, take}
use Rattle.uni_base.specs.declared.edge.Held.{Held}
use Rattle.lineage_tree.specs.Accepted.{verdicts_of}
use Rattle.lineage_tree.specs.Judges.{IsJudge}
use Rattle.apply_extract.specs.Shown.{accepted_hits}
use Rattle.apply_extract.proofs.shown.accepted_hits.Given as goal

abbrev pub invariant-loop-hit : goal.invariant-loop-hit
invariant-loop-hit g l = (accepts : Held → Bool) → IsJudge g.F.Fn l.judge accepts → l.verdicts ≡ verdicts_of accepts l.book → l.shown ≡ accepted_hits accepts l.book (take l.hit-index l.hit-items)
