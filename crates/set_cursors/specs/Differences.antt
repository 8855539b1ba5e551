-- Where a cursor over a difference stands.
use Rattle.std.specs.Prelude.{◌≡◌, false, Some, List, slice_get}
use Rattle.uni_base.specs.declared.entity.DocKey.{DocKey}
use Rattle.uni_base.specs.KeySets.{has_key}

-- the second list lacks the first key of the first list, if there is one
abbrev pub IsClear : List DocKey → List DocKey → Type 0
IsClear firsts seconds = (k : DocKey) → slice_get firsts 0 ≡ Some k → has_key seconds k ≡ false
