use Rattle.std.proofs.Common.{◌≡◌, take}
use Rattle.std.specs.FinMap as finite
use Rattle.uni_base.specs.declared.entity.DocKey.{DocKey}
use Rattle.layer_base.specs.Layers.{stack_table}
use Rattle.layer_stack.specs.Postings.{place_of}
use Rattle.layer_stack.specs.Readers.{layers_read, StandBefore}
use Rattle.layer_stack.specs.Stacks.{part_table}
use Rattle.layer_stack.proofs.front.gather.Given as goal

abbrev pub invariant-loop-reader : goal.invariant-loop-reader
invariant-loop-reader l = record {
  parts : (k : DocKey) → finite.get (part_table l.parts.items) k ≡ finite.get (stack_table (take l.reader-index (layers_read l.initial.readers))) (place_of l.term k);
  same : layers_read l.readers ≡ layers_read l.initial.readers;
  ready : StandBefore l.term l.readers;
}
