use Rattle.std.proofs.Common.{◌≡◌, map}
use Rattle.std.specs.List.{flat_map, range_with_len}
use Rattle.uni_table.specs.Ranked.{ranked}
use Rattle.uni_meaning.proofs.view.View.places.Given as goal

abbrev pub invariant-loop-shard : goal.invariant-loop-shard
invariant-loop-shard l = l.places.items ≡ flat_map (λ shard. map (λ x. record { doc = x; shard = shard }) (ranked l.self.schema l.self.contents l.vertical shard)) (range_with_len 0 l.shard)
