use Rattle.std.proofs.Common.{◌≡◌, take}
use Rattle.layer_base.specs.Layers.{stack_table}
use Rattle.layer_stack.specs.Combined.{putting_terms}
use Rattle.layer_stack.proofs.front.FrontReader.put_terms.Given as goal

abbrev pub invariant-loop-term : goal.invariant-loop-term
invariant-loop-term l = record {
  same : l.self ≡ l.initial.self;
  put : l.delta ≡ putting_terms (stack_table l.initial.self) (take l.term-index l.terms) l.initial.delta;
}
