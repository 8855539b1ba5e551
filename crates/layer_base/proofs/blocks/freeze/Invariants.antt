use Rattle.std.proofs.Common.{◌≡◌, ◌*◌, ◌++◌, take}
use Rattle.layer_base.specs.Shared.{values, layers_in, AreWhole}
use Rattle.layer_base.proofs.blocks.freeze.Given as goal

abbrev pub invariant-loop-n : goal.invariant-loop-n
invariant-loop-n g l = record {
  layers : layers_in (values l.blocks.items) ≡ layers_in (values l.initial.blocks.items) ++ take (64 * l.n) (values l.recent);
  whole : AreWhole (values l.blocks.items);
}
