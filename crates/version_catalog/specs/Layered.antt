-- What makes the layers of a batch.
use Rattle.std.specs.Prelude.{Result, Ok}
use Rattle.std.specs.Borrow.{Bor}
use Rattle.std.specs.Fn.{FnReturnsAt, Shared}
use Rattle.std.proofs.Common.{Vec, Global}
use Rattle.uni_table.specs.TableState.{TableState}
use Rattle.shard_index.specs.Batches.{TakeOver, all_shards}
use Rattle.shard_index.specs.Rows.{ShardChanges}

-- whatever layers it makes of a table, there is one for each shard, in order, which takes the shard's rows from what
-- they were as the table's last batch ended to what they are now
abbrev pub MakesLayers : {F E : Type 0} → Shared F (Bor TableState × Unit {0}) (Result (Vec ShardChanges Global) E) → F → Type 0
MakesLayers calls layers_of = (table : TableState) (layers : Vec ShardChanges Global) → FnReturnsAt calls layers_of table (Ok layers) → TakeOver table (all_shards table.schema) layers.items
