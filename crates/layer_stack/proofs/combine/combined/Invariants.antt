use Rattle.std.proofs.Common.{◌≡◌, ◌≤◌, length, map, take}
use Rattle.std.specs.Map.Iter.{deref_pair}
use Rattle.layer_base.specs.Layers.{stack_table}
use Rattle.layer_base.proofs.Among.{is_done}
use Rattle.layer_stack.specs.Places.{term_cmp}
use Rattle.layer_stack.proofs.Combined.{Has}
use Rattle.layer_stack.proofs.combine.combined.Given as goal

abbrev pub invariant-loop-term : goal.invariant-loop-term
invariant-loop-term l = record {
  within : l.at ≤ length l.changed;
  front : l.front ≡ take l.count l.stack.0;
  has : Has (stack_table (take l.count l.stack.0)) (is_done term_cmp l.changed l.at (map deref_pair l.yielded)) l.delta;
}
