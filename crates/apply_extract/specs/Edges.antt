-- The forward edges of an entity, by the shards that they lead into.
use Rattle.std.specs.Prelude.{◌≡◌, ℕ, true, List, Option, Some, map, filter}
use Rattle.std.specs.List.{Contains, range_with_len}
use Rattle.std.specs.Option.{option_map}
use Rattle.uni_base.specs.declared.edge.Key.TheVariants.{Id}
use Rattle.uni_base.specs.declared.entity.DocKey.{DocKey}
use Rattle.uni_base.specs.Cursors.{IsRanked}
use Rattle.uni_base.specs.KeySets.{has_key}
use Rattle.uni_schema.specs.Schema.{Declarations, shard_of}
use Rattle.uni_table.specs.Contents.{Contents, starts_at}
use Rattle.uni_table.specs.Lists.{held_of}
use Rattle.uni_meaning.specs.Hits.{shards_of, target_of}
use Rattle.posting_lists.specs.declared.posting.Posting.{Posting}
use Rattle.posting_lists.specs.Postings.{keys_of}
use Rattle.forward_data.specs.declared.record.ForwardItem.{ForwardItem}
use Rattle.shard_index.specs.Laws.{rank_in_shard}
use Rattle.shard_index.specs.Shards.{item_of}
use Rattle.apply_extract.specs.Split.{split_by}
use Rattle.shard_eval.specs.Meant.{edges_into}

-- the edges of a type from an entity, in the order of their targets
abbrev pub record_items : Contents → ℕ → ℕ → List ForwardItem
record_items table number id = map item_of (map held_of (filter (λ e. starts_at number (Id id) e.0) table.edges))

-- the posting of an edge of a record, where its target is an entity of the vertical
abbrev pub posting_in : Declarations → Contents → ℕ → ForwardItem → Option Posting
posting_in schema table vertical item =
    option_map (λ rank. record { key = record { rank = rank; id = item.target }; audience = item.audience }) (rank_in_shard schema table vertical (shard_of schema vertical item.target) item.target)

-- of some postings one at each key, in rank order
pub record AreInOrder (postings left : List Posting) : Type 0 where
  pub ranked : IsRanked (keys_of left)
  pub among : (p : Posting) → Contains left p → Contains postings p
  pub keys : (p : Posting) → Contains postings p → has_key (keys_of left) p.key ≡ true

-- postings by the shards of a vertical
abbrev pub postings_by_shard : Declarations → ℕ → List Posting → List (List Posting)
postings_by_shard schema vertical = split_by (λ p. Some (shard_of schema vertical p.key.id)) (shards_of schema vertical)

-- the edges of a type from an entity, for each shard that they may lead into
abbrev pub edges_by_shard : Declarations → Contents → ℕ → DocKey → List (List Posting)
edges_by_shard schema table number y = map (λ shard. edges_into schema table number shard y) (range_with_len 0 (shards_of schema (target_of schema number)))
