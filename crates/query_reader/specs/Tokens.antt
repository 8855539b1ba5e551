-- The tokens of a text.
use Rattle.std.specs.Prelude.{ℕ, zero, suc, Bool, not, ◌||◌, ◌==◌, ◌+◌, ◌-◌, List, [], ◌∷◌, length, Option, Some, None, Result, Ok, Err, if◌then◌else◌}
use Rattle.std.specs.List.{take_while}
use Rattle.query_reader.specs.Atoms.{atom_kind}
use Rattle.query_reader.specs.declared.token.Token.{Token}
use Rattle.query_reader.specs.declared.token.TokenKind.{TokenKind}
use Rattle.query_reader.specs.declared.token.TokenKind.TheVariants.{Left, Right}

abbrev pub is_space : ℕ → Bool
is_space c = c == 32

-- a byte of an atom: any but a space and parentheses
abbrev pub is_atom_byte : ℕ → Bool
is_atom_byte c = not ((c == 32) || ((c == 40) || (c == 41)))

-- what a text begins with: the longest run of an atom's bytes, or else its first byte
abbrev pub front : List ℕ → List ℕ
front [] = []
front (c ∷ cs) = if is_atom_byte c then c ∷ take_while is_atom_byte cs else c ∷ []

-- bytes that stand together, from a place on
pub record Piece : Type 0 where
  pub from : ℕ
  pub bytes : List ℕ

-- the pieces of a text that are no spaces; the first places belong to a piece before
abbrev pub pieces : ℕ → ℕ → List ℕ → List Piece
pieces at passed [] = []
pieces at (suc passed) (c ∷ cs) = pieces (at + 1) passed cs
pieces at zero (c ∷ cs) =
    if is_space c then pieces (at + 1) 0 cs
    else record { from = at; bytes = front (c ∷ cs) } ∷ pieces (at + 1) (length (front (c ∷ cs)) - 1) cs

-- a parenthesis, or an atom by its form
abbrev pub kind_of : ℕ → List ℕ → Option TokenKind
kind_of format [] = None
kind_of format (c ∷ cs) =
    if c == 40 then Some Left else (if c == 41 then Some Right else atom_kind format (c ∷ cs))

abbrev pub token_of : Piece → TokenKind → Token
token_of piece kind = record { from = piece.from; to = piece.from + length piece.bytes; kind = kind }

-- a piece before the tokens of the rest; a piece in no form is a fault at its first byte
abbrev pub with_piece : Piece → Option TokenKind → Result (List Token) ℕ → Result (List Token) ℕ
with_piece piece None others = Err (piece.from + 1)
with_piece piece (Some kind) (Ok others) = Ok (token_of piece kind ∷ others)
with_piece piece (Some kind) (Err column) = Err column

abbrev pub tokens_of : ℕ → List Piece → Result (List Token) ℕ
tokens_of format [] = Ok []
tokens_of format (piece ∷ others) = with_piece piece (kind_of format piece.bytes) (tokens_of format others)

-- the tokens of a text in a format, or the column of its first piece that is in no form
abbrev pub text_tokens : ℕ → List ℕ → Result (List Token) ℕ
text_tokens format text = tokens_of format (pieces 0 0 text)
