-- the hits so far have their edges
use Rattle.std.proofs.Common.{◌≡◌, All, take}
use Rattle.query_check.specs.Verticals.{IsType}
use Rattle.shard_index.specs.Places.{shards_in}
use Rattle.uni_schema.specs.declared.schema.Origin.TheVariants.{Vertical}
use Rattle.uni_schema.specs.declared.schema.Store.TheVariants.{Forward}
use Rattle.apply_extract.specs.Answered.{hits_led, AreListed, IsLedRanked}
use Rattle.apply_extract.specs.Hits.{OfEachTable}
use Rattle.apply_extract.proofs.leads.led_from.Given as goal

abbrev pub invariant-loop-hit : goal.invariant-loop-hit
invariant-loop-hit l = record {
  hits : hits_led l.led.items ≡ take l.hit-index l.inner;
  ranked : All IsLedRanked l.led.items;
  edges : IsType l.version.schema l.type_no Forward (Vertical l.source) l.target → OfEachTable l.version (AreListed l.version.schema l.type_no (shards_in l.version.schema l.target) l.led.items);
}
