use Rattle.std.proofs.Common.{◌≡◌, ◌++◌, map}
use Rattle.std.specs.Vec.Iter.{into_iter_items}
use Rattle.shard_eval.specs.Kept.{weight_alone}
use Rattle.uni_meaning.specs.Hits.{quota_of}
use Rattle.shard_eval.specs.Operands.{keys_in, marks_in, operand_keys}
use Rattle.weak_strong.specs.Marks.{strong_quota}
use Rattle.shard_eval.proofs.kept.strong_operands.Given as goal

abbrev pub invariant-loop-operand : goal.invariant-loop-operand
invariant-loop-operand l = record {
  all : l.yielded ++ into_iter_items l.operand-iterator ≡ l.fn.operands.items;
  keys : map (λ o. keys_in o.0) l.strong.items ≡ operand_keys l.yielded;
  quotas : map (λ o. strong_quota o.1) l.strong.items ≡ map (λ mark. weight_alone (quota_of mark)) (marks_in l.yielded);
}
