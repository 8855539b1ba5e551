-- what was gone through is passed, and the rest is as it was
use Rattle.std.proofs.Common.{◌≡◌, ◌++◌, length, map, take, drop}
use Rattle.shard_eval.specs.Found.{found_from}
use Rattle.shard_eval.specs.Sources.{AreRanked}
use Rattle.shard_eval.specs.Witnesses.{found_postings}
use Rattle.shard_eval.proofs.any.pass_before.Given as goal

abbrev pub invariant-loop-i : goal.invariant-loop-i
invariant-loop-i l =
    let olds = map found_postings l.initial.terms.items in
    record {
      count : length l.terms.items ≡ length l.initial.terms.items;
      moved : map found_postings l.terms.items ≡ map (found_from l.key) (take l.i olds) ++ drop l.i olds;
      ranked : AreRanked (take l.i olds);
    }
