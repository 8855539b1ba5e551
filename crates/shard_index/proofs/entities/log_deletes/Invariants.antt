use Rattle.std.proofs.Common.{◌≡◌, ◌++◌, map, take}
use Rattle.layer_base.specs.Changes.{deleted}
use Rattle.shard_index.proofs.entities.log_deletes.Given as goal

abbrev pub invariant-loop-id : goal.invariant-loop-id
invariant-loop-id l = l.log.items ≡ l.initial.log.items ++ map deleted (take l.id-index l.deletes)
