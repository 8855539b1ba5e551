-- The layers of three stacks as the layers of one.
use Rattle.std.specs.Prelude.{◌≡◌, ℕ, List, [], ◌∷◌, length, min}
use Rattle.layer_stack.specs.Postings.{PostingChanges}
use Rattle.forward_data.specs.Records.{Records}
use Rattle.shard_index.specs.Entities.{EntityChanges}
use Rattle.shard_index.specs.Rows.{ShardChanges, layer_of}

-- the layers of stacks of the same length, place by place
abbrev pub joined : List EntityChanges → List PostingChanges → List Records → List ShardChanges
joined [] ps fs = []
joined (e ∷ es) [] fs = []
joined (e ∷ es) (p ∷ ps) [] = []
joined (e ∷ es) (p ∷ ps) (f ∷ fs) = layer_of e p f ∷ joined es ps fs

-- three stacks, each with its room, as one
abbrev pub joined_stack : List EntityChanges × ℕ → List PostingChanges × ℕ → List Records × ℕ → List ShardChanges × ℕ
joined_stack es ps fs = (joined es.0 ps.0 fs.0, min (min es.1 ps.1) fs.1)

-- three stacks have equally many layers
pub record AreAsLong (es : List EntityChanges) (ps : List PostingChanges) (fs : List Records) : Type 0 where
  pub postings : length ps ≡ length es
  pub records : length fs ≡ length es
