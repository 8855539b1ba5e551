-- The two walks that keep quotas: along a list in rank order, each entity is kept or refused once
-- and for all, by what was kept before it.
use Rattle.std.specs.Prelude.{ℕ, ◌+◌, ◌-◌, ◌*◌, ◌/◌, Bool, true, false, ◌&&◌, ◌||◌, nat_lt, nat_le, if◌then◌else◌, List, [], ◌∷◌, map}
use Rattle.std.specs.List.{list_any, list_all}

-- what an operand of a walk has to keep: nothing, a count of entities that may be kept without it,
-- or a weight, its share n/d of the entities that are kept
pub data Quota : Type 0 where
  Unmarked : Quota
  Count : (left : ℕ) → Quota
  Weight : (n : ℕ) → (d : ℕ) → Quota

-- an operand: which entities it has, its quota as it stands, and how many of the kept ones it has
pub record Walker (K : Type 0) : Type 0 where
  pub has : K → Bool
  pub quota : Quota
  pub own : ℕ

-- the share n/d of a number, rounded down
abbrev pub share_of : ℕ → ℕ → ℕ → ℕ
share_of number n d = (number * n) / d

-- an operand's quota once an entity is kept that it lacks: a count is one lower
abbrev pub spent : Quota → Quota
spent Unmarked = Unmarked
spent (Count left) = Count (left - 1)
spent (Weight n d) = Weight n d

-- an operand once an entity is kept
abbrev pub walked : {K : Type 0} → K → Walker K → Walker K
walked x o = elim (o.has x) [ true ↦ record o { own = o.own + 1 } | false ↦ record o { quota = spent o.quota } ]

-- whether an operand that lacks an entity lets it be kept: a count has to be above 0, and by a
-- weight as many of its own have to be kept already as are due once it is kept
abbrev pub lets_pass : ℕ → Quota → ℕ → Bool
lets_pass kept Unmarked own = false
lets_pass kept (Count left) own = nat_lt 0 left
lets_pass kept (Weight n d) own = nat_le (share_of (kept + 1) n d) own

-- the weak walk keeps an entity that some operand has, where each operand that lacks it lets it pass
abbrev pub weak_keeps : {K : Type 0} → ℕ → List (Walker K) → K → Bool
weak_keeps kept operands x =
    list_any (λ o. o.has x) operands && list_all (λ o. o.has x || lets_pass kept o.quota o.own) operands

-- what the weak walk keeps of a list, `kept` entities being kept before it
abbrev pub weak_walk : {K : Type 0} → ℕ → List (Walker K) → List K → List K
weak_walk kept operands [] = []
weak_walk kept operands (x ∷ xs) = elim (weak_keeps kept operands x) [
  | true ↦ x ∷ weak_walk (kept + 1) (map (walked x) operands) xs
  | false ↦ weak_walk kept operands xs
]

-- whether an operand has its share once an entity is kept
abbrev pub has_share : ℕ → Quota → ℕ → Bool
has_share kept Unmarked own = true
has_share kept (Count left) own = true
has_share kept (Weight n d) own = nat_le (share_of kept n d) own

-- the strong walk keeps an entity that some operand has, where with it every weighted operand has
-- its share
abbrev pub strong_keeps : {K : Type 0} → ℕ → List (Walker K) → K → Bool
strong_keeps kept operands x =
    list_any (λ o. o.has x) operands
    && list_all (λ o. has_share (kept + 1) o.quota (if o.has x then o.own + 1 else o.own)) operands

-- what the strong walk keeps of a list, `kept` entities being kept before it
abbrev pub strong_walk : {K : Type 0} → ℕ → List (Walker K) → List K → List K
strong_walk kept operands [] = []
strong_walk kept operands (x ∷ xs) = elim (strong_keeps kept operands x) [
  | true ↦ x ∷ strong_walk (kept + 1) (map (walked x) operands) xs
  | false ↦ strong_walk kept operands xs
]
