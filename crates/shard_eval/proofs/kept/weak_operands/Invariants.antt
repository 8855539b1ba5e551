use Rattle.std.proofs.Common.{◌≡◌, ◌++◌, map}
use Rattle.std.specs.Vec.Iter.{into_iter_items}
use Rattle.shard_eval.specs.Kept.{bare}
use Rattle.uni_meaning.specs.Hits.{quota_of}
use Rattle.shard_eval.specs.Operands.{keys_in, marks_in, operand_keys}
use Rattle.weak_strong.specs.Marks.{weak_quota}
use Rattle.shard_eval.proofs.kept.weak_operands.Given as goal

abbrev pub invariant-loop-operand : goal.invariant-loop-operand
invariant-loop-operand l = record {
  all : l.yielded ++ into_iter_items l.operand-iterator ≡ l.fn.operands.items;
  keys : map (λ o. keys_in o.0) l.weak.items ≡ operand_keys l.yielded;
  quotas : map (λ o. weak_quota o.1) l.weak.items ≡ map (λ mark. bare (quota_of mark)) (marks_in l.yielded);
}
