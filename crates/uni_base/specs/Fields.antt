-- The parts of a line.
use Rattle.std.specs.Prelude.{ℕ, Bool, true, ◌==◌, if◌then◌else◌, List, [], ◌∷◌, Option, None, Some}
use Rattle.std.specs.List.{join_with_byte, slice_split}
use Rattle.std.specs.Option.{option_map}
use lib.Pointwise.{pointwise}

-- whether two texts are the same
abbrev pub same : List ℕ → List ℕ → Bool
same = pointwise ◌==◌

-- what stands before the first separator of a text, and what after it
abbrev pub cut_at : ℕ → List ℕ → Option (List ℕ × List ℕ)
cut_at separator [] = None
cut_at separator (c ∷ cs) = if c == separator then Some ([], cs) else option_map (λ p. (c ∷ p.0, p.1)) (cut_at separator cs)

-- the fields of a line: the texts between its spaces
abbrev pub fields_of : List ℕ → List (List ℕ)
fields_of line = slice_split (λ c. c == 32) line

-- the line of some fields, with one space between any two
abbrev pub spaced : List (List ℕ) → List ℕ
spaced fields = join_with_byte 32 fields

-- an empty line, and one that begins with #, is skipped
abbrev pub is_skipped : List ℕ → Bool
is_skipped [] = true
is_skipped (c ∷ line) = c == 35
