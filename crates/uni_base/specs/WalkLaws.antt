-- What the two walks keep, said of the kept entities as a list.
use Rattle.std.specs.Prelude.{◌≡◌, ℕ, ◌≤◌, Bool, true, false, not, ◌&&◌, nat_le, if◌then◌else◌, List, [], ◌∷◌, ◌++◌, length, map, take, filter, count_by}
use Rattle.std.specs.List.{list_any, list_all}
use Rattle.uni_base.specs.Walks.{Quota, Unmarked, Count, Weight, Walker, share_of, weak_walk, strong_walk}

-- whether some operand has an entity, and whether all have it
abbrev pub some_has : {K : Type 0} → List (Walker K) → K → Bool
some_has operands x = list_any (λ o. o.has x) operands

abbrev pub all_have : {K : Type 0} → List (Walker K) → K → Bool
all_have operands x = list_all (λ o. o.has x) operands

-- whether of the kept entities those that an operand has are its share n/d
abbrev pub has_part : {K : Type 0} → ℕ → ℕ → (K → Bool) → List K → Bool
has_part n d has kept = nat_le (share_of (length kept) n d) (count_by has kept)

-- whether the kept entities are such as an operand of a weak walk asks: it has them all, or all but a
-- count of them, or its share of them
abbrev pub allows_weakly : {K : Type 0} → List K → (K → Bool) → Quota → Bool
allows_weakly kept has Unmarked = list_all has kept
allows_weakly kept has (Count left) = nat_le (count_by (λ x. not (has x)) kept) left
allows_weakly kept has (Weight n d) = has_part n d has kept

-- whether they are such as an operand of a strong walk asks: it has its share, where it is weighted
abbrev pub allows_strongly : {K : Type 0} → List K → (K → Bool) → Quota → Bool
allows_strongly kept has Unmarked = true
allows_strongly kept has (Count left) = true
allows_strongly kept has (Weight n d) = has_part n d has kept

abbrev pub all_allow_weakly : {K : Type 0} → List (Walker K) → List K → Bool
all_allow_weakly operands kept = list_all (λ o. allows_weakly kept o.has o.quota) operands

abbrev pub all_allow_strongly : {K : Type 0} → List (Walker K) → List K → Bool
all_allow_strongly operands kept = list_all (λ o. allows_strongly kept o.has o.quota) operands

-- an operand as a walk begins with it: nothing is kept yet
abbrev pub IsFresh : {K : Type 0} → Walker K → Type 0
IsFresh o = o.own ≡ 0

-- a weight is at most the whole
abbrev pub IsAtMostWhole : Quota → Type 0
IsAtMostWhole Unmarked = Unit {0}
IsAtMostWhole (Count left) = Unit {0}
IsAtMostWhole (Weight n d) = n ≤ d

abbrev pub AllFresh : {K : Type 0} → List (Walker K) → Type 0
AllFresh [] = Unit {0}
AllFresh (o ∷ operands) = IsFresh o × AllFresh operands

abbrev pub AllAtMostWhole : {K : Type 0} → List (Walker K) → Type 0
AllAtMostWhole [] = Unit {0}
AllAtMostWhole (o ∷ operands) = IsAtMostWhole o.quota × AllAtMostWhole operands

-- the weak walk keeps an entity that follows others exactly if some operand has it and, with it, what is
-- kept is such as every operand asks; and so is every beginning of what it keeps
pub record WeakWalkIsExact (K : Type 0) : Type 0 where
  pub keeps : (operands : List (Walker K)) (xs : List K) (x : K) → AllFresh operands → AllAtMostWhole operands
      → let kept = weak_walk 0 operands xs in
      weak_walk 0 operands (xs ++ x ∷ []) ≡ (if some_has operands x && all_allow_weakly operands (kept ++ x ∷ []) then kept ++ x ∷ [] else kept)
  pub beginnings : (operands : List (Walker K)) (xs : List K) (n : ℕ) → AllFresh operands → AllAtMostWhole operands → all_allow_weakly operands (take n (weak_walk 0 operands xs)) ≡ true

-- and the strong walk likewise, with weights of any size
pub record StrongWalkIsExact (K : Type 0) : Type 0 where
  pub keeps : (operands : List (Walker K)) (xs : List K) (x : K) → AllFresh operands
      → let kept = strong_walk 0 operands xs in
      strong_walk 0 operands (xs ++ x ∷ []) ≡ (if some_has operands x && all_allow_strongly operands (kept ++ x ∷ []) then kept ++ x ∷ [] else kept)
  pub beginnings : (operands : List (Walker K)) (xs : List K) (n : ℕ) → AllFresh operands → all_allow_strongly operands (take n (strong_walk 0 operands xs)) ≡ true

-- an operand without a mark: no entity may be kept that it lacks
abbrev pub is_bare : Quota → Bool
is_bare Unmarked = true
is_bare (Count left) = nat_le left 0
is_bare (Weight n d) = false

abbrev pub is_weighted : Quota → Bool
is_weighted Unmarked = false
is_weighted (Count left) = false
is_weighted (Weight n d) = true

-- the weak walk without marks keeps what all operands have
pub record WeakWalkIsAnd (K : Type 0) : Type 0 where
  pub filters : (kept : ℕ) (o : Walker K) (operands : List (Walker K)) (xs : List K) → list_all (λ p. is_bare p.quota) (o ∷ operands) ≡ true
      → weak_walk kept (o ∷ operands) xs ≡ filter (all_have (o ∷ operands)) xs

-- the strong walk without weights keeps what some operand has
pub record StrongWalkIsOr (K : Type 0) : Type 0 where
  pub filters : (kept : ℕ) (operands : List (Walker K)) (xs : List K) → list_any (λ o. is_weighted o.quota) operands ≡ false
      → strong_walk kept operands xs ≡ filter (some_has operands) xs

-- an operand with what it has of the kept entities left out
abbrev pub recounted : {K : Type 0} → ℕ → Walker K → Walker K
recounted own o = record o { own = own }

-- without weights the weak walk goes by counts alone: neither how many are kept nor how many of them an
-- operand has makes a difference
pub record WeakWalkGoesByCounts (K : Type 0) : Type 0 where
  pub same : (kept other own : ℕ) (operands : List (Walker K)) (xs : List K) → list_any (λ o. is_weighted o.quota) operands ≡ false
      → weak_walk kept operands xs ≡ weak_walk other (map (recounted own) operands) xs

-- a walk passes what no operand has
pub record WalksPassOthers (K : Type 0) : Type 0 where
  pub weak : (kept : ℕ) (operands : List (Walker K)) (xs : List K) → weak_walk kept operands (filter (some_has operands) xs) ≡ weak_walk kept operands xs
  pub strong : (kept : ℕ) (operands : List (Walker K)) (xs : List K) → strong_walk kept operands (filter (some_has operands) xs) ≡ strong_walk kept operands xs
