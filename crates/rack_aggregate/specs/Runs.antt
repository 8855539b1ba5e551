-- Jobs over shards, and what they gave.
use Rattle.std.specs.Prelude.{◌≡◌, ℕ, ◌+◌, ◌≤◌, ◌<◌, List, [], ◌∷◌, Some, slice_get}
use Rattle.std.specs.declared.result.Result.{Result}
use Rattle.std.specs.declared.result.Result.TheVariants.{Ok}

-- each answer is one that the job gives for the shard of its place
abbrev pub GivesShards : {X E : Type 0} → (ℕ → Result X E → Type 0) → List X → Type 0
GivesShards {X} post answers = (i : ℕ) (x : X) → slice_get answers i ≡ Some x → post i (Ok x)

-- the same of the shards from a number on
abbrev pub GivesRun : {X E : Type 0} → (ℕ → Result X E → Type 0) → ℕ → List X → Type 0
GivesRun post from [] = Unit {0}
GivesRun post from (x ∷ xs) = post from (Ok x) × GivesRun post (from + 1) xs

-- a job may be called for each of so many shards from a number on
abbrev pub MayRun : (ℕ → Type 0) → ℕ → ℕ → Type 0
MayRun pre from count = (i : ℕ) → from ≤ i → i < from + count → pre i
