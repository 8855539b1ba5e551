use Rattle.std.proofs.Common.{◌≡◌, map, take}
use Rattle.layer_base.specs.Layers.{stack_table}
use Rattle.shard_eval.specs.Found.{found_keys}
use Rattle.shard_eval.specs.Operands.{marks_in, operand_keys}
use Rattle.shard_eval.specs.Sources.{found_lists, source_marks}
use Rattle.shard_eval.proofs.source.operands.Given as goal

abbrev pub invariant-loop-source : goal.invariant-loop-source
invariant-loop-source l = record {
  keys : operand_keys l.operands.items ≡ map found_keys (found_lists (stack_table l.stack.0) (take l.source-index l.sources));
  marks : marks_in l.operands.items ≡ source_marks (take l.source-index l.sources);
}
