use Rattle.std.proofs.Common.{◌≡◌, ◌++◌, map, take}
use Rattle.layer_base.specs.Changes.{put}
use Rattle.shard_index.proofs.entities.log_puts.Given as goal

abbrev pub invariant-loop-id : goal.invariant-loop-id
invariant-loop-id l = l.log.items ≡ l.initial.log.items ++ map put (take l.id-index l.puts)
