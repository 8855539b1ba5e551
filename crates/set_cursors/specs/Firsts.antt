-- First keys.
use Rattle.std.specs.Prelude.{◌≡◌, Bool, true, false, Option, None, Some, List, [], ◌∷◌, if◌then◌else◌}
use Rattle.std.specs.Ordering.{is_eq}
use Rattle.uni_base.specs.declared.entity.DocKey.{DocKey}
use Rattle.uni_base.specs.Cursors.{is_before, IsRanked}
use Rattle.uni_base.specs.KeySets.{has_key}
use Rattle.uni_base.specs.RankOrder.{doc_cmp}

-- the key that comes first, of those that are there
abbrev pub sooner_of : Option DocKey → Option DocKey → Option DocKey
sooner_of None b = b
sooner_of (Some a) None = Some a
sooner_of (Some a) (Some b) = if is_before b a then Some b else Some a

-- whether a list begins with a key
abbrev pub is_first : DocKey → List DocKey → Bool
is_first k [] = false
is_first k (x ∷ xs) = is_eq (doc_cmp x k)

-- a list, where it is in rank order, has no key before one
abbrev pub HasNoneBefore : DocKey → List DocKey → Type 0
HasNoneBefore k keys = IsRanked keys → (x : DocKey) → has_key keys x ≡ true → is_before x k ≡ false
