-- The lines of bytes, and the bytes of lines.
use Rattle.std.specs.Prelude.{ℕ, Bool, false, ◌≡◌, ◌==◌, if◌then◌else◌, List, [], ◌∷◌, ◌++◌}
use Rattle.std.specs.List.{list_any}

-- a byte at the front of the first line
abbrev pub onto_first : ℕ → List (List ℕ) → List (List ℕ)
onto_first b [] = (b ∷ []) ∷ []
onto_first b (line ∷ lines) = (b ∷ line) ∷ lines

-- the lines of bytes: each ends in an LF, which is not kept, but that the last may lack it
abbrev pub lines_of : List ℕ → List (List ℕ)
lines_of [] = []
lines_of (b ∷ bytes) = if b == 10 then [] ∷ lines_of bytes else onto_first b (lines_of bytes)

-- the bytes of lines, each with its LF
abbrev pub lined : List (List ℕ) → List ℕ
lined [] = []
lined (line ∷ lines) = line ++ 10 ∷ lined lines

-- whether bytes hold an LF
abbrev pub has_lf : List ℕ → Bool
has_lf bytes = list_any (λ b. b == 10) bytes

-- no line holds an LF
abbrev pub AreUnbroken : List (List ℕ) → Type 0
AreUnbroken lines = list_any has_lf lines ≡ false

-- the bytes of lines are read as those lines again, where none of them holds an LF
pub record LinesAreRead : Type 0 where
  pub again : (lines : List (List ℕ)) → AreUnbroken lines → lines_of (lined lines) ≡ lines
