-- The search for a key among keys in rank order.
use Rattle.std.specs.Prelude.{◌≡◌, ℕ, ◌+◌, ◌*◌, ◌/◌, ◌<◌, ◌≤◌, true, false, List, length, get_or}
use Rattle.std.specs.Int.Digits.{digits_of}
use Rattle.uni_base.specs.declared.entity.DocKey.{DocKey}
use Rattle.uni_base.specs.Cursors.{is_before}

-- how many binary digits a number has; 0 has none
abbrev pub digits : ℕ → ℕ
digits n = length (digits_of 2 n)

-- how many comparisons a seek makes at most that passes so many postings
abbrev pub most_comparisons : ℕ → ℕ
most_comparisons passed = 2 * digits passed + 16

-- between two places the keys are strictly in rank order
abbrev pub RisesWithin : List DocKey → ℕ → ℕ → Type 0
RisesWithin keys low high = (i j : ℕ) (d : DocKey) → low ≤ i → i < j → j < high → is_before (get_or keys i d) (get_or keys j d) ≡ true

-- each key between two places comes before a given one
abbrev pub AllBefore : DocKey → List DocKey → ℕ → ℕ → Type 0
AllBefore from keys low high = (i : ℕ) (d : DocKey) → low ≤ i → i < high → is_before (get_or keys i d) from ≡ true

-- no key between two places comes before a given one
abbrev pub NoneBefore : DocKey → List DocKey → ℕ → ℕ → Type 0
NoneBefore from keys low high = (i : ℕ) (d : DocKey) → low ≤ i → i < high → is_before (get_or keys i d) from ≡ false

-- a place between two others parts the keys that come before a given one from those that do not
pub record IsFirstFrom (from : DocKey) (keys : List DocKey) (low high place : ℕ) : Type 0 where
  pub above : low ≤ place
  pub below : place ≤ high
  pub passed : AllBefore from keys low place
  pub left : NoneBefore from keys place high

-- a skip table: the last key of each whole block of 128
pub record HasLasts (keys lasts : List DocKey) : Type 0 where
  pub count : length lasts ≡ length keys / 128
  pub key : (b : ℕ) (d : DocKey) → b < length lasts → get_or lasts b d ≡ get_or keys (128 * b + 127) d
