-- the postings so far
use Rattle.std.proofs.Common.{◌≡◌, ◌++◌}
use Rattle.posting_lists.specs.Postings.{section}
use Rattle.posting_lists.proofs.columns.PostingColumns.append.Given as goal

abbrev pub invariant-loop-i : goal.invariant-loop-i
invariant-loop-i l = l.self ≡ l.initial.self ++ section l.fn.from l.i l.other
