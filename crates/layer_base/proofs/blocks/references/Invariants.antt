use Rattle.std.proofs.Common.{◌≡◌, take}
use Rattle.layer_base.specs.Shared.{values}
use Rattle.layer_base.proofs.blocks.references.Given as goal

abbrev pub invariant-loop-item : goal.invariant-loop-item
invariant-loop-item g l = values l.copies.items ≡ values (take l.item-index l.items)
