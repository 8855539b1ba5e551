-- Entities of a shard with their ranks, and what a layer changes of them.
use Rattle.std.specs.Prelude.{ℕ, ◌+◌, ◌≤◌, ◌^◌, T, List, length, Option, None, cond}
use Rattle.std.specs.Ordering.{nat_cmp}
use Rattle.std.specs.FinMap as finite
use Rattle.uni_base.specs.declared.entity.Rank.{Rank}
use Rattle.layer_base.specs.Layers.{Changes}
use Rattle.layer_base.specs.Lookups.{either}

-- the rank of each entity
abbrev pub EntityTable : Type 0
EntityTable = finite.FinMap nat_cmp Rank

-- the ids that a layer removes, and the ranks that it puts
abbrev pub EntityChanges : Type 0
EntityChanges = Changes nat_cmp Rank

abbrev pub no_entities : EntityChanges
no_entities = record { deletes = finite.empty; puts = finite.empty }

-- with one more id removed
abbrev pub removing : EntityChanges → ℕ → EntityChanges
removing changes id = record { deletes = finite.insert changes.deletes id tt; puts = changes.puts }

-- with one more rank put
abbrev pub ranking : EntityChanges → ℕ → Rank → EntityChanges
ranking changes id rank = record { deletes = changes.deletes; puts = finite.insert changes.puts id rank }

-- what a layer removes and what it puts
abbrev pub entity_changes : finite.FinMap nat_cmp (Unit {0}) → EntityTable → EntityChanges
entity_changes deletes puts = record { deletes = deletes; puts = puts }

-- a layer that puts the entities of a table, and removes none
abbrev pub putting_entities : EntityTable → EntityChanges
putting_entities = entity_changes finite.empty

-- the rows of a layer of entities: each part in the order of ids, and not too many to count
pub record AreEntityRows (removed : List (ℕ × Unit {0})) (ranked : List (ℕ × Rank)) : Type 0 where
  pub deletes : T (finite.is_sorted nat_cmp removed)
  pub puts : T (finite.is_sorted nat_cmp ranked)
  pub few_deletes : length removed ≤ 2 ^ 61
  pub few_puts : length ranked ≤ 2 ^ 61

-- the number of removals and puts
abbrev pub entity_entries : EntityChanges → ℕ
entity_entries layer = finite.len layer.deletes + finite.len layer.puts

-- the rank of an id under a layer, given that below it: what the layer puts, or else none where it
-- removes the id
abbrev pub rank_over : EntityChanges → ℕ → Option Rank → Option Rank
rank_over layer id below = either (finite.get layer.puts id) (cond (finite.contains_key layer.deletes id) None below)
