use Rattle.posting_lists.specs.Postings.{keys_of}
use Rattle.uni_base.specs.Cursors.{IsRanked}
use Rattle.layer_tests.proofs.tests.postings.fill.Given as goal

abbrev pub invariant-loop-i : goal.invariant-loop-i
invariant-loop-i l = IsRanked (keys_of l.rows)
