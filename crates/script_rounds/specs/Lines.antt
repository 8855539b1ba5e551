-- The lines of a script.
use Rattle.std.specs.Prelude.{ℕ, Bool, true, false, ◌==◌, if◌then◌else◌, List, [], ◌∷◌, take, map}
use Rattle.uni_base.specs.Lines.{lines_of}

-- a byte at the front of the first line, where there is one
abbrev pub onto_whole : ℕ → List (List ℕ) → List (List ℕ)
onto_whole b [] = []
onto_whole b (line ∷ lines) = (b ∷ line) ∷ lines

-- the lines that have their LF
abbrev pub whole_lines : List ℕ → List (List ℕ)
whole_lines [] = []
whole_lines (b ∷ bytes) = if b == 10 then [] ∷ whole_lines bytes else onto_whole b (whole_lines bytes)

-- the lines of a script as far as its bytes were taken: those that have their LF, and at the end of the
-- input the last one too
abbrev pub lines_so_far : Bool → List ℕ → List (List ℕ)
lines_so_far true bytes = lines_of bytes
lines_so_far false bytes = whole_lines bytes

-- lines of which no more than so many bytes are kept
abbrev pub cut : ℕ → List (List ℕ) → List (List ℕ)
cut kept lines = map (take kept) lines
