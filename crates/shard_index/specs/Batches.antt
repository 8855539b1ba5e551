-- The layers of a batch: what takes the rows of each shard from those of one table to those of another.
use Rattle.std.specs.Prelude.{◌≡◌, ◌↔◌, ℕ, ◌+◌, ◌*◌, ◌≤◌, Bool, true, ◌||◌, List, [], ◌∷◌, ◌++◌, map}
use Rattle.std.specs.declared.cmp.Ordering.{Ordering}
use Rattle.std.specs.FinMap as finite
use Rattle.std.specs.List.{AllZip, Contains, range_with_len}
use Rattle.uni_schema.specs.declared.schema.VerticalDef.{VerticalDef}
use Rattle.uni_schema.specs.Schema.{Declarations}
use Rattle.uni_table.specs.Changes.{IsEdgeChange}
use Rattle.uni_table.specs.Contents.{Contents}
use Rattle.uni_table.specs.TableState.{TableState}
use Rattle.uni_table.specs.declared.change.EdgeChange.{EdgeChange}
use Rattle.layer_base.specs.Layers.{Changes}
use Rattle.layer_stack.specs.declared.place.Place.{Place}
use Rattle.forward_data.specs.declared.record.RecordKey.{RecordKey}
use Rattle.shard_index.specs.Rows.{ShardRows, ShardChanges, layer_over, entries}
use Rattle.shard_index.specs.Shards.{shard_rows}
use Rattle.shard_index.specs.Touched.{touched}

-- a shard of a vertical
pub record ShardPlace : Type 0 where
  pub vertical : ℕ
  pub shard : ℕ

abbrev pub shard_place : ℕ → ℕ → ShardPlace
shard_place vertical shard = record { vertical = vertical; shard = shard }

-- the shards of a vertical, and those of all verticals from a number on, in order
abbrev pub shards_of : ℕ → VerticalDef → List ShardPlace
shards_of vertical declared = map (shard_place vertical) (range_with_len 0 declared.shards)

abbrev pub shards_from : ℕ → List VerticalDef → List ShardPlace
shards_from vertical [] = []
shards_from vertical (declared ∷ verticals) = shards_of vertical declared ++ shards_from (vertical + 1) verticals

abbrev pub all_shards : Declarations → List ShardPlace
all_shards schema = shards_from 0 schema.verticals

-- whether a layer deletes something at a key, or puts something there
abbrev pub has_entry : {K X : Type 0} {R : K → K → Ordering} → Changes R X → K → Bool
has_entry changes key = finite.contains_key changes.deletes key || finite.contains_key changes.puts key

-- a layer has an entry only where a row differs: a row that is as before has none
pub record ChangesOnly (old new : ShardRows) (layer : ShardChanges) : Type 0 where
  pub entities : (id : ℕ) → has_entry layer.entities id ≡ true → finite.get old.entities id ≡ finite.get new.entities id → ⊥
  pub postings : (place : Place) → has_entry layer.postings place ≡ true → finite.get old.postings place ≡ finite.get new.postings place → ⊥
  pub records : (key : RecordKey) → finite.contains_key layer.records key ≡ true → finite.get old.records key ≡ finite.get new.records key → ⊥

-- a layer takes the rows of a shard of one table to those of another, has entries for rows that differ alone, and at
-- most two for each
pub record TakesOver (schema : Declarations) (old new : Contents) (place : ShardPlace) (layer : ShardChanges) : Type 0 where
  pub rows : layer_over (shard_rows schema old place.vertical place.shard) layer ≡ shard_rows schema new place.vertical place.shard
  pub only : ChangesOnly (shard_rows schema old place.vertical place.shard) (shard_rows schema new place.vertical place.shard) layer
  pub few : entries layer ≤ 2 * touched schema old new place.vertical place.shard

-- one layer for each of some shards takes its rows from those of one table to those of another
abbrev pub TakeFrom : Declarations → Contents → Contents → List ShardPlace → List ShardChanges → Type 0
TakeFrom schema old new places layers = AllZip (TakesOver schema old new) places layers

-- from what they were as a table's last batch ended to what they are now
abbrev pub TakeOver : TableState → List ShardPlace → List ShardChanges → Type 0
TakeOver table places layers = TakeFrom table.schema table.published table.contents places layers

-- exactly the changes of edges from one table to another, in whichever order
abbrev pub AreAllChanges : Contents → Contents → List EdgeChange → Type 0
AreAllChanges old new changes = (change : EdgeChange) → Contains changes change ↔ IsEdgeChange old new change
