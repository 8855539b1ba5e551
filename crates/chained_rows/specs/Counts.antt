-- How many rows live.
use Rattle.std.specs.Prelude.{ℕ, ◌+◌, Bool, List, [], ◌∷◌, if◌then◌else◌}

abbrev pub one_if : Bool → ℕ
one_if b = if b then 1 else 0

abbrev pub count_of : {K V : Type 0} → (V → Bool) → List (K × V) → ℕ
count_of lives [] = 0
count_of lives (e ∷ es) = one_if (lives e.1) + count_of lives es
