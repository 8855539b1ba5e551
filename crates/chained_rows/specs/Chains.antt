-- Rows that are numbered from 1 in the order in which they came, and chained back to earlier rows.
use Rattle.std.specs.Prelude.{ℕ, zero, suc, ◌≡◌, Bool, List, [], ◌∷◌, Some, if◌then◌else◌, slice_get, map}

-- what the first row makes of the number of the last that passes, among it and the others
abbrev pub or_first : Bool → ℕ → ℕ
or_first here zero = if here then 1 else 0
or_first here (suc n) = suc (suc n)

-- the number of the last that passes a test, or 0
abbrev pub last_no : {K : Type 0} → (K → Bool) → List K → ℕ
last_no test [] = 0
last_no test (k ∷ ks) = or_first (test k) (last_no test ks)

-- what is so of each item and its place
abbrev pub AtEach : {X : Type 0} → (ℕ → X → Type 0) → List X → Type 0
AtEach {X} P xs = (i : ℕ) (x : X) → slice_get xs i ≡ Some x → P i x

-- the items, changed from the place n on
abbrev pub changed_from : {X : Type 0} → (X → X) → ℕ → List X → List X
changed_from f n [] = []
changed_from f zero (x ∷ xs) = map f (x ∷ xs)
changed_from f (suc n) (x ∷ xs) = x ∷ changed_from f n xs
