use Rattle.std.proofs.Common.{◌≡◌, [], All, take}
use Rattle.layer_stack.specs.Readers.{layers_read}
use Rattle.layer_stack.proofs.front.restart_all.Given as goal

abbrev pub invariant-loop-reader : goal.invariant-loop-reader
invariant-loop-reader l = record {
  same : layers_read l.readers ≡ layers_read l.initial.readers;
  start : All (λ r. r.1 ≡ []) (take l.reader-index l.readers);
}
