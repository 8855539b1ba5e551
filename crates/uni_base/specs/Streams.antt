-- What a read and a write do.
use Rattle.std.specs.Prelude.{ℕ, ◌≡◌, ◌<◌, ◌^◌, ◌-◌, ◌++◌, ◌⊎◌, List, [], Option, None, Some, take, drop}

-- a count of faults rose, or stands at its last value
abbrev pub Rose : ℕ → ℕ → Type 0
Rose before after = (before < after) ⊎ ((before ≡ 2 ^ 64 - 1) × (after ≡ 2 ^ 64 - 1))

-- a read gave n bytes: of a source that tells its bytes the first n, which lie at the front of the
-- buffer, and none only where none is left or the buffer has no room
abbrev pub Reads : Option (List ℕ) → Option (List ℕ) → ℕ → List ℕ → ℕ → Type 0
Reads None after n buffer room = after ≡ None
Reads (Some bytes) after n buffer room =
    (take n buffer ≡ take n bytes) × (after ≡ Some (drop n bytes)) × (n ≡ 0 → 0 < room → bytes ≡ [])

-- a write took the first n bytes of a piece
abbrev pub Takes : Option (List ℕ) → Option (List ℕ) → ℕ → List ℕ → Type 0
Takes None after n piece = after ≡ None
Takes (Some bytes) after n piece = after ≡ Some (bytes ++ take n piece)

-- a reader or a writer of the system, and how many of its calls have failed
pub record Counted (X : Type 0) : Type 0 where
  pub inner : X
  pub faults : ℕ
