-- The faults of texts.
use Rattle.std.specs.Prelude.{ℕ, ◌≡◌, ◌+◌, List, [], ◌∷◌, ◌++◌, None, Some, Result, Err}
use Rattle.query_tree.specs.declared.refusal.QueryRefusal.{QueryRefusal}
use Rattle.query_tree.specs.declared.refusal.QueryRefusal.TheVariants.{Fault, Memory}
use Rattle.query_reader.specs.declared.token.Token.{Token}
use Rattle.query_reader.specs.declared.token.TokenKind.{TokenKind}
use Rattle.query_reader.specs.Tokens.{Piece, kind_of, token_of}
use Rattle.query_reader.specs.Spans.{IsFirstBad}

-- a text with an atom in no form has the fault 31 at the first such atom; want of memory is free
abbrev pub IsTokenFault : ℕ → List ℕ → QueryRefusal → Type 0
IsTokenFault format text (Fault code column) = (code ≡ 31) × IsFirstBad format text column
IsTokenFault format text Memory = Unit {0}

-- the same of what is read from the left
abbrev pub IsReadFault : Result (List Token) ℕ → QueryRefusal → Type 0
IsReadFault tokens (Fault code column) = (code ≡ 31) × (tokens ≡ Err column)
IsReadFault tokens Memory = Unit {0}

-- the list gained the piece's token
abbrev pub AddsPiece : ℕ → List Token → List Token → Piece → Type 0
AddsPiece format old new piece =
    (kind : TokenKind) × ((kind_of format piece.bytes ≡ Some kind) × (new ≡ old ++ token_of piece kind ∷ []))

-- the piece is in no form; want of memory is free
abbrev pub IsPieceFault : ℕ → ℕ → List ℕ → QueryRefusal → Type 0
IsPieceFault format at bytes (Fault code column) = (code ≡ 31) × (column ≡ at + 1) × (kind_of format bytes ≡ None)
IsPieceFault format at bytes Memory = Unit {0}
