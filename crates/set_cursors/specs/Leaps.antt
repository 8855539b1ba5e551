-- How a cursor over the common keys of its operands leaps.
use Rattle.std.specs.Prelude.{◌≡◌, ◌<◌, ◌≤◌, ℕ, Bool, true, false, Option, None, Some, List, [], ◌∷◌, filter, length, slice_get, slice_index_or}
use Rattle.std.specs.List.{list_all}
use Rattle.uni_base.specs.declared.entity.DocKey.{DocKey}
use Rattle.uni_base.specs.Cursors.{is_before, IsRanked, keys_from}
use Rattle.uni_base.specs.KeySets.{has_key, united}
use Rattle.set_cursors.specs.Filters.{common}
use Rattle.set_cursors.specs.Firsts.{is_first}
use Rattle.set_cursors.specs.Moves.{AreFew}
use Rattle.set_cursors.specs.Passed.{HasMoved}

-- it stands at the first common key, which each operand is at
pub record StandsAt (first : Option DocKey) (lists : List (List DocKey)) : Type 0 where
  pub first_is : first ≡ slice_get (common lists) 0
  pub all_there : (k : DocKey) → first ≡ Some k → list_all (is_first k) lists ≡ true

-- no key that all lists have comes before one
abbrev pub HasNoCommonBefore : DocKey → List (List DocKey) → Type 0
HasNoCommonBefore key lists = (k : DocKey) → list_all (λ keys. has_key keys k) lists ≡ true → is_before k key ≡ false

-- an operand was moved to some key from the one that was asked about to the one that was reached, and is
-- at none after it
pub record IsMoved (asked reached : DocKey) (old new : List DocKey) : Type 0 where
  pub to : DocKey
  pub at : DocKey
  pub not_before : is_before to asked ≡ false
  pub not_after : is_before reached to ≡ false
  pub moves : new ≡ keys_from to old
  pub stands : slice_get new 0 ≡ Some at
  pub within : is_before reached at ≡ false
  pub ranked : IsRanked new

-- each operand was so moved; some operand has the key that was reached, and no common key comes before it
pub record IsReached (asked at : DocKey) (olds news : List (List DocKey)) : Type 0 where
  pub not_before : is_before at asked ≡ false
  pub is_among : has_key (united news) at ≡ true
  pub bounds : HasNoCommonBefore at olds
  pub each_moved : (i : ℕ) → i < length olds → IsMoved asked at (slice_index_or olds i []) (slice_index_or news i [])

-- a list that is no longer than another, and has none but keys of it
pub record IsPart (old new : List DocKey) : Type 0 where
  pub no_longer : length new ≤ length old
  pub had : (k : DocKey) → has_key new k ≡ true → has_key old k ≡ true

-- operands are asked about a key: none gets further keys, and there is no answer only where they have no
-- common key
pub record IsAsked (asked : DocKey) (answer : Option DocKey) (olds news : List (List DocKey)) : Type 0 where
  pub count : length news ≡ length olds
  pub parts : (i : ℕ) → IsPart (slice_index_or olds i []) (slice_index_or news i [])
  pub ended : answer ≡ None → (k : DocKey) → list_all (λ keys. has_key keys k) olds ≡ false
  pub reached : (at : DocKey) → answer ≡ Some at → IsReached asked at olds news

-- operands have leapt to the first key that all of them have, with so many moves before and after: no key is
-- new, and they have what they had in common
pub record HasReached (first : Option DocKey) (before after : ℕ) (olds news : List (List DocKey)) : Type 0 where
  pub stands : StandsAt first news
  pub ranked : (k : DocKey) → first ≡ Some k → (i : ℕ) → i < length news → IsRanked (slice_index_or news i [])
  pub moved : HasMoved common (common olds) olds news
  pub parts : (i : ℕ) → IsPart (slice_index_or olds i []) (slice_index_or news i [])
  pub few : AreFew before after olds news
  pub rises : before ≤ after
  pub unmoved : after ≤ before → news ≡ olds

-- the first list has those of its keys left that pass a test, and the others have all of theirs
abbrev pub first_filtered : (DocKey → Bool) → List (List DocKey) → List (List DocKey)
first_filtered p [] = []
first_filtered p (keys ∷ lists) = filter p keys ∷ lists
