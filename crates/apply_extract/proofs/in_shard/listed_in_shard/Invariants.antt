use Rattle.std.proofs.Common.{◌≡◌, map, take}
use Rattle.shard_eval.specs.Resolution.{listing_of}
use Rattle.apply_extract.specs.Answered.{listing_in}
use Rattle.apply_extract.proofs.in_shard.listed_in_shard.Given as goal

abbrev pub invariant-loop-led : goal.invariant-loop-led
invariant-loop-led l = map listing_of l.listed.items ≡ map (listing_in l.shard) (take l.led-index l.led-items)
