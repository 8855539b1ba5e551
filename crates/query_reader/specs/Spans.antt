-- What the tokens of a text are: its bytes but for spaces, atoms as long as they go.
use Rattle.std.specs.Prelude.{ℕ, ◌≡◌, ◌↔◌, ◌+◌, ◌<◌, true, false, List, [], ◌∷◌, ◌++◌, length, codes, Some, None, Ok, Err}
use Rattle.std.specs.List.{list_all}
use Rattle.query_reader.specs.declared.token.Token.{Token}
use Rattle.query_reader.specs.declared.token.TokenKind.{TokenKind}
use Rattle.query_reader.specs.declared.token.TokenKind.TheVariants.{Left, Right}
use Rattle.query_reader.specs.Atoms.{atom_kind}
use Rattle.query_reader.specs.Tokens.{is_atom_byte, text_tokens}

-- nothing but spaces
abbrev pub AreSpaces : List ℕ → Type 0
AreSpaces [] = Unit {0}
AreSpaces (c ∷ cs) = (c ≡ 32) × AreSpaces cs

-- an atom ends before this: a space, a parenthesis or the text's end
abbrev pub AtomEnds : List ℕ → Type 0
AtomEnds [] = Unit {0}
AtomEnds (c ∷ cs) = is_atom_byte c ≡ false

-- an atom before the rest of a text: bytes other than spaces and parentheses, as many as there are
pub record IsRun (bytes rest : List ℕ) : Type 0 where
  pub some : 0 < length bytes
  pub all : list_all is_atom_byte bytes ≡ true
  pub ends : AtomEnds rest

-- a token of a kind before the rest of a text: a parenthesis, or an atom in the form of the kind
pub data IsToken (format : ℕ) (kind : TokenKind) (bytes rest : List ℕ) : Type 0 where
  a_left : kind ≡ Left → bytes ≡ codes "(" → IsToken format kind bytes rest
  a_right : kind ≡ Right → bytes ≡ codes ")" → IsToken format kind bytes rest
  an_atom : IsRun bytes rest → atom_kind format bytes ≡ Some kind → IsToken format kind bytes rest

-- A text, which begins at a place, has tokens in their order, with nothing but spaces before each of
-- them; and what is left after them is so, at its place.
abbrev pub HasTokens : ℕ → ℕ → List ℕ → List Token → (ℕ → List ℕ → Type 0) → Type 0
HasTokens format at text [] After = After at text
HasTokens format at text (token ∷ others) After =
    (gap : List ℕ) × ((bytes : List ℕ) × ((rest : List ℕ) × (
    (text ≡ gap ++ bytes ++ rest)
    × AreSpaces gap
    × (token.from ≡ at + length gap)
    × (token.to ≡ token.from + length bytes)
    × IsToken format token.kind bytes rest
    × HasTokens format token.to rest others After
    )))

-- after all tokens nothing but spaces is left
abbrev pub AreTokensOf : ℕ → List ℕ → List Token → Type 0
AreTokensOf format text tokens = HasTokens format 0 text tokens (λ at rest. AreSpaces rest)

-- an atom in no form, with its column, after spaces
abbrev pub BeginsBad : ℕ → ℕ → ℕ → List ℕ → Type 0
BeginsBad format column at text =
    (gap : List ℕ) × ((bytes : List ℕ) × ((rest : List ℕ) × (
    (text ≡ gap ++ bytes ++ rest)
    × AreSpaces gap
    × (column ≡ at + length gap + 1)
    × IsRun bytes rest
    × (atom_kind format bytes ≡ None)
    )))

-- the first atom in no form has this column: tokens stand before it
abbrev pub IsFirstBad : ℕ → List ℕ → ℕ → Type 0
IsFirstBad format text column = (tokens : List Token) × HasTokens format 0 text tokens (BeginsBad format column)

-- the tokens that are read from the left are the tokens of the text, and they are not read exactly
-- where an atom is in no form, the first of which is the fault
pub record TokensAreRuns : Type 0 where
  pub tokens : (format : ℕ) → (text : List ℕ) → (all : List Token) → (text_tokens format text ≡ Ok all) ↔ AreTokensOf format text all
  pub bad : (format : ℕ) → (text : List ℕ) → (column : ℕ) → (text_tokens format text ≡ Err column) ↔ IsFirstBad format text column
