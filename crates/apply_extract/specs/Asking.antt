-- What asks the shards of a vertical.
use Rattle.std.specs.Prelude.{ℕ, ◌≡◌, ◌<◌, List, Result, Ok, length}
use Rattle.std.proofs.Common.{Vec, Global}
use Rattle.lineage_tree.specs.declared.lineage.RawHit.{RawHit}
use Rattle.shard_index.specs.Places.{shards_in}
use Rattle.shard_index.specs.Versions.{VersionState}
use Rattle.apply_extract.specs.declared.answered.Answered.{Answered}
use Rattle.apply_extract.specs.Answered.{answered_in, IsReadyIn}
use Rattle.apply_extract.specs.Parts.{AllFirst}

-- it may be asked for the hits in each vertical of every query that can be asked there
abbrev pub MayAsk : VersionState → (ℕ → Answered → ℕ → Type 0) → Type 0
MayAsk version pre =
    (vertical : ℕ) (query : Answered) (limit : ℕ) → vertical < length version.schema.verticals → IsReadyIn (shards_in version.schema vertical) (answered_in query) → pre vertical query limit

-- and it gives the first hits of each shard, in the order of the shards
abbrev pub GivesFirst : {E : Type 0} → VersionState → (ℕ → Answered → ℕ → Result (Vec (List RawHit) Global) E → Type 0) → Type 0
GivesFirst version post =
    (vertical : ℕ) (query : Answered) (limit : ℕ) (parts : Vec (List RawHit) Global) → post vertical query limit (Ok parts)
    → (length parts.items ≡ shards_in version.schema vertical) × AllFirst version vertical 0 limit (answered_in query) parts.items
