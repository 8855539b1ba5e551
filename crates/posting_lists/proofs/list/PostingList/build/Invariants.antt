use Rattle.std.proofs.Common.{◌≡◌, take}
use Rattle.posting_lists.proofs.list.PostingList.build.Given as goal

abbrev pub invariant-loop-posting : goal.invariant-loop-posting
invariant-loop-posting l = l.columns ≡ take l.posting-index l.posting-items
