-- What the shards of a vertical have of a query, shard by shard.
use Rattle.std.specs.Prelude.{ℕ, ◌≡◌, ◌+◌, List, [], ◌∷◌, take}
use Rattle.uni_table.specs.Contents.{Contents}
use Rattle.lineage_tree.specs.declared.lineage.RawHit.{RawHit}
use Rattle.shard_index.specs.Shards.{shard_rows}
use Rattle.shard_index.specs.Versions.{Stands, VersionState}
use Rattle.shard_eval.specs.Found.{found_all}
use Rattle.shard_eval.specs.Resolution.{Resolution, found}

-- hits are the first that a shard has of a query, of whatever table the version stands for
abbrev pub AreFirst : VersionState → ℕ → ℕ → ℕ → Resolution → List RawHit → Type 0
AreFirst version vertical shard limit query hits =
    (table : Contents) → Stands version table → found_all hits ≡ take limit (found (shard_rows version.schema table vertical shard).postings query)

-- the same of the shards from a number on
abbrev pub AllFirst : VersionState → ℕ → ℕ → ℕ → (ℕ → Resolution) → List (List RawHit) → Type 0
AllFirst version vertical shard limit query [] = Unit {0}
AllFirst version vertical shard limit query (hits ∷ parts) = AreFirst version vertical shard limit (query shard) hits × AllFirst version vertical (shard + 1) limit query parts
