use Rattle.std.proofs.Common.{◌≡◌, take}
use Rattle.shard_eval.proofs.joins.words_of.Given as goal

abbrev pub invariant-loop-i : goal.invariant-loop-i
invariant-loop-i l = l.words ≡ take l.i l.postings.words
