-- A walk along the keys of several operands.
use Rattle.std.specs.Prelude.{◌≡◌, ℕ, ◌≤◌, true, List, [], length, Option, None, Some, slice_get, All}
use Rattle.uni_base.specs.declared.entity.DocKey.{DocKey}
use Rattle.uni_base.specs.KeySets.{has_key, united, KeepsKeys}
use Rattle.uni_base.specs.Walks.{Quota, weak_walk, strong_walk}
use Rattle.set_cursors.specs.Passed.{HavePassed}
use Rattle.weak_strong.specs.declared.rule.Rule.{Rule}
use Rattle.weak_strong.specs.declared.rule.Rule.TheVariants.{Weak, Strong}
use Rattle.weak_strong.specs.Places.{place_of}
use Rattle.weak_strong.specs.Rules.{keeps_by, walkers}

-- there is a counter for each operand; no more keys are kept than stand before each that is left, and no
-- operand has more of them
pub record IsCounted (lists : List (List DocKey)) (counters : List (Quota × ℕ)) (kept : ℕ) : Type 0 where
  pub count : length counters ≡ length lists
  pub kept_before : (k : DocKey) → has_key (united lists) k ≡ true → kept ≤ place_of k
  pub owns : All (λ counter. counter.1 ≤ kept) counters

-- what a walk keeps of the keys that its operands have left
abbrev pub walk_of : Rule → List (List DocKey) → List (Quota × ℕ) → ℕ → List DocKey
walk_of Weak lists counters kept = weak_walk kept (walkers lists counters) (united lists)
walk_of Strong lists counters kept = strong_walk kept (walkers lists counters) (united lists)

-- it stands at the first key of all operands, which it keeps, or it is over
pub record IsSettled (rule : Rule) (lists : List (List DocKey)) (counters : List (Quota × ℕ)) (kept : ℕ) (at : Option DocKey) : Type 0 where
  pub stands : (k : DocKey) → at ≡ Some k → slice_get (united lists) 0 ≡ Some k
  pub keeps : (k : DocKey) → at ≡ Some k → keeps_by rule kept (walkers lists counters) k ≡ true
  pub over : at ≡ None → walk_of rule lists counters kept ≡ []

-- a walk that is counted, and stands at a key that it keeps
pub record IsWalking (rule : Rule) (lists : List (List DocKey)) (counters : List (Quota × ℕ)) (kept : ℕ) (at : Option DocKey) : Type 0 where
  pub counted : IsCounted lists counters kept
  pub settled : IsSettled rule lists counters kept at

-- candidates were passed up to the first that the walk keeps: it keeps what it kept; each operand has of that
-- what it had, and has passed what comes before
pub record HasSettled (rule : Rule) (counters : List (Quota × ℕ)) (kept : ℕ) (olds news : List (List DocKey)) (at : Option DocKey) : Type 0 where
  pub walking : IsWalking rule news counters kept at
  pub walk : walk_of rule news counters kept ≡ walk_of rule olds counters kept
  pub operands : KeepsKeys (walk_of rule news counters kept) olds news
  pub passed : HavePassed (walk_of rule news counters kept) olds news
