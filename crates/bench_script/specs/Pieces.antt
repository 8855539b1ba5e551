-- A text in pieces.
use Rattle.std.specs.Prelude.{ℕ, ◌<◌, List, [], ◌∷◌, ◌++◌, length}
use Rattle.std.specs.List.{AllByRecursion}

-- the text of pieces, of which the last one comes first
abbrev pub joined_back : List (List ℕ) → List ℕ
joined_back [] = []
joined_back (piece ∷ pieces) = joined_back pieces ++ piece

-- none of them is empty
abbrev pub ArePieces : List (List ℕ) → Type 0
ArePieces pieces = AllByRecursion (λ piece. 0 < length piece) pieces
