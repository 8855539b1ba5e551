-- A stack of one layer.
use Rattle.std.proofs.Common.{◌≡◌, List, [], ◌∷◌, length, Some, ap, arith, slice_get}
use Rattle.shard_index.specs.Rows.{ShardChanges, no_rows, layer_over, stack_rows}

-- its layer stands for it
pub single_stands : (layers : List ShardChanges) (layer : ShardChanges) → length layers ≡ 1 → slice_get layers 0 ≡ Some layer → layer_over no_rows layer ≡ stack_rows layers
single_stands [] layer one at = absurd (omega (arith, one))
single_stands (first ∷ []) layer one at = let same : layer ≡ first = cc (at) in ap (layer_over no_rows) same
single_stands (first ∷ second ∷ layers) layer one at = absurd (omega (arith, one))
