use Rattle.std.proofs.Common.{◌≡◌, map}
use Rattle.shard_eval.specs.Operands.{keys_in, operand_keys}
use Rattle.shard_eval.proofs.kept.cursors.Given as goal

abbrev pub invariant-loop-operand : goal.invariant-loop-operand
invariant-loop-operand l = map keys_in l.cursors.items ≡ operand_keys l.yielded
