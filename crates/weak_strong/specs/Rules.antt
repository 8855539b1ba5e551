-- The rules of both walks, one operand at a time.
use Rattle.std.specs.Prelude.{ℕ, ◌+◌, Bool, false, ◌||◌, List, [], ◌∷◌, if◌then◌else◌}
use Rattle.std.specs.List.{list_all}
use Rattle.uni_base.specs.WalkLaws.{is_bare}
use Rattle.uni_base.specs.declared.entity.DocKey.{DocKey}
use Rattle.uni_base.specs.KeySets.{has_key}
use Rattle.uni_base.specs.Walks.{Quota, Walker, lets_pass, has_share, spent, weak_keeps, strong_keeps}
use Rattle.weak_strong.specs.declared.rule.Rule.{Rule}
use Rattle.weak_strong.specs.declared.rule.Rule.TheVariants.{Weak, Strong}

-- whether a walk keeps an entity
abbrev pub keeps_by : Rule → ℕ → List (Walker DocKey) → DocKey → Bool
keeps_by Weak = weak_keeps
keeps_by Strong = strong_keeps

-- whether an operand lets an entity be kept, which it has or not
abbrev pub allows_by : Rule → ℕ → Bool → Quota → ℕ → Bool
allows_by Weak kept has quota own = has || lets_pass kept quota own
allows_by Strong kept has quota own = has_share (kept + 1) quota (if has then own + 1 else own)

-- operands over the keys that they have left, each with its quota and how many of the kept keys it has
abbrev pub walkers : List (List DocKey) → List (Quota × ℕ) → List (Walker DocKey)
walkers [] counters = []
walkers (keys ∷ lists) [] = []
walkers (keys ∷ lists) (counter ∷ counters) = record { has = has_key keys; quota = counter.0; own = counter.1 } ∷ walkers lists counters

-- an operand's quota, and how many it has, once an entity is kept
abbrev pub counted : Bool → Quota × ℕ → Quota × ℕ
counted has counter = if has then (counter.0, counter.1 + 1) else (spent counter.0, counter.1)

-- whether a walk keeps exactly what all operands have: it is weak, every count is used up, and none is a weight
abbrev pub needs_all : Rule → List (Quota × ℕ) → Bool
needs_all Weak counters = list_all (λ counter. is_bare counter.0) counters
needs_all Strong counters = false
