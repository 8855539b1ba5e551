use Rattle.std.proofs.Common.{◌≡◌, take}
use Rattle.layer_stack.specs.Readers.{layers_read}
use Rattle.layer_stack.proofs.front.FrontReader.of.Given as goal

abbrev pub invariant-loop-i : goal.invariant-loop-i
invariant-loop-i l = layers_read l.readers.items ≡ take l.i l.stack.0
