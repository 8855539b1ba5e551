-- The forms of atoms.
use Rattle.std.specs.Prelude.{ℕ, Bool, ◌&&◌, ◌==◌, List, [], ◌∷◌, Option, Some, None, is_some, if◌then◌else◌}
use Rattle.std.specs.Option.{option_and_then, option_or}
use Rattle.uni_base.specs.Words.{is_word, is_name}
use Rattle.uni_base.specs.Numbers.{is_number}
use Rattle.uni_base.specs.Fields.{cut_at}
use Rattle.query_reader.specs.declared.token.TokenKind.{TokenKind}
use Rattle.query_reader.specs.declared.token.TokenKind.TheVariants as kinds

abbrev pub is_empty : List ℕ → Bool
is_empty [] = Bool.true
is_empty (c ∷ cs) = Bool.false

-- the word before a star that ends a text
abbrev pub before_star : Option (List ℕ × List ℕ) → Option (List ℕ)
before_star = option_and_then (λ parts. if is_word parts.0 && is_empty parts.1 then Some parts.0 else None)

abbrev pub starred_word : List ℕ → Option (List ℕ)
starred_word text = before_star (cut_at 42 text)

-- after a term's colon stands a word, in format 2 also a word and a star
abbrev pub key_kind : ℕ → List ℕ → Option TokenKind
key_kind format tail =
    if is_word tail then Some kinds.Term
    else (if format == 2 && is_some (starred_word tail) then Some kinds.Stem else None)

-- a colon stands after a name, before a name, or between a name and a key
abbrev pub pair_kind : ℕ → List ℕ → List ℕ → Option TokenKind
pair_kind format head tail =
    if is_empty head then (if is_name tail then Some kinds.Option else None)
    else (if is_name head then (if is_empty tail then Some kinds.Prefix else key_kind format tail) else None)

abbrev pub colon_kind : ℕ → Option (List ℕ × List ℕ) → Option TokenKind
colon_kind format = option_and_then (λ parts. pair_kind format parts.0 parts.1)

-- a slash stands between two numbers
abbrev pub slash_kind : Option (List ℕ × List ℕ) → Option TokenKind
slash_kind = option_and_then (λ parts. if is_number parts.0 && is_number parts.1 then Some kinds.Fraction else None)

-- what an atom is, if it is in one of the forms of a format
abbrev pub atom_kind : ℕ → List ℕ → Option TokenKind
atom_kind format atom =
    if is_name atom then Some kinds.Name
    else (if is_number atom then Some kinds.Number
    else option_or (colon_kind format (cut_at 58 atom)) (slash_kind (cut_at 47 atom)))
