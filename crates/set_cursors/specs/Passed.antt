-- What a move of a cursor over operands leaves.
use Rattle.std.specs.Prelude.{◌≡◌, Some, List, map, slice_get}
use Rattle.uni_base.specs.declared.entity.DocKey.{DocKey}
use Rattle.uni_base.specs.Cursors.{keys_from}
use Rattle.uni_base.specs.KeySets.{KeepsKeys}

-- where a key is left, each operand has passed what comes before the first that is left, and nothing else
abbrev pub HavePassed : List DocKey → List (List DocKey) → List (List DocKey) → Type 0
HavePassed left olds news = (k : DocKey) → slice_get left 0 ≡ Some k → news ≡ map (keys_from k) olds

-- a cursor whose keys are made of those of its operands has so many left; each operand has of them those that
-- it had, and has passed what comes before them, and nothing else
pub record HasMoved (keys : List (List DocKey) → List DocKey) (left : List DocKey) (olds news : List (List DocKey)) : Type 0 where
  pub after : keys news ≡ left
  pub operands : KeepsKeys (keys news) olds news
  pub passed : HavePassed (keys news) olds news
