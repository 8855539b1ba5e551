-- The tokens of a text, and its first atom in no form, are read from the left.
use Rattle.std.proofs.Common.{◌≡◌, ℕ, ◌+◌, List, [], ◌∷◌, ◌++◌, length, Result, Ok, Err, refl, sym, ap, ◌∙◌, subst, arith, append_assoc, append-nil}
use Rattle.query_reader.specs.declared.token.Token.{Token}
use Rattle.query_reader.specs.declared.token.TokenKind.{TokenKind}
use Rattle.query_reader.specs.declared.token.TokenKind.TheVariants as kinds
use Rattle.query_reader.specs.Tokens.{token_of, text_tokens}
use Rattle.query_reader.specs.Spans.{AreSpaces, IsToken, a_left, a_right, an_atom, HasTokens, AreTokensOf, BeginsBad, IsFirstBad, TokensAreRuns}
use Rattle.query_reader.proofs.Pieces.{after}
use Rattle.query_reader.proofs.Segments.{read_tokens, left_read, right_read, atom_read, bad_read}
use Rattle.query_reader.proofs.SpansLemmas.{text_spans, text_bad}

spaces_read : (format at : ℕ) (gap rest : List ℕ) → AreSpaces gap → read_tokens format at (gap ++ rest) ≡ read_tokens format (at + length gap) rest
spaces_read format at [] rest spaces = ap (λ (n : ℕ). read_tokens format n rest) (omega arith)
spaces_read format at (c ∷ gap) rest (space, spaces) =
    ap (λ (n : ℕ). read_tokens format at (n ∷ (gap ++ rest))) space
    ∙ spaces_read format (at + 1) gap rest spaces
    ∙ ap (λ (n : ℕ). read_tokens format n rest) (omega arith)

token_read : (format at : ℕ) (kind : TokenKind) (bytes rest : List ℕ) → IsToken format kind bytes rest
    → read_tokens format at (bytes ++ rest)
    ≡ after (token_of (record { from = at; bytes = bytes }) kind ∷ []) (read_tokens format (at + length bytes) rest)
token_read format at kind bytes rest (a_left is_left is_bytes) =
    subst (λ (k : TokenKind). read_tokens format at (bytes ++ rest)
    ≡ after (token_of (record { from = at; bytes = bytes }) k ∷ []) (read_tokens format (at + length bytes) rest)) (sym is_left)
    (subst (λ (xs : List ℕ). read_tokens format at (xs ++ rest)
    ≡ after (token_of (record { from = at; bytes = xs }) kinds.Left ∷ []) (read_tokens format (at + length xs) rest)) (sym is_bytes)
    (left_read format at rest))
token_read format at kind bytes rest (a_right is_right is_bytes) =
    subst (λ (k : TokenKind). read_tokens format at (bytes ++ rest)
    ≡ after (token_of (record { from = at; bytes = bytes }) k ∷ []) (read_tokens format (at + length bytes) rest)) (sym is_right)
    (subst (λ (xs : List ℕ). read_tokens format at (xs ++ rest)
    ≡ after (token_of (record { from = at; bytes = xs }) kinds.Right ∷ []) (read_tokens format (at + length xs) rest)) (sym is_bytes)
    (right_read format at rest))
token_read format at kind bytes rest (an_atom run form) = atom_read format at bytes rest kind run form

-- a token that lies after a gap
abbrev token_with : ℕ → ℕ → TokenKind → Token
token_with from to kind = record { from = from; to = to; kind = kind }

token_same : (at : ℕ) (gap bytes : List ℕ) (token : Token) → token.from ≡ at + length gap → token.to ≡ token.from + length bytes
    → token_of (record { from = at + length gap; bytes = bytes }) token.kind ≡ token
token_same at gap bytes token is_from is_to =
    let from : at + length gap ≡ token.from = sym is_from in
    let to : (at + length gap) + length bytes ≡ token.to = omega arith in
    ap (λ (n : ℕ). token_with n ((at + length gap) + length bytes) token.kind) from
    ∙ ap (λ (n : ℕ). token_with token.from n token.kind) to

-- what is left of a text after its tokens
record LeftOver (format at : ℕ) (text : List ℕ) (tokens : List Token) (After : ℕ → List ℕ → Type 0) : Type 0 where
  place : ℕ
  rest : List ℕ
  is_left : After place rest
  read : read_tokens format at text ≡ after tokens (read_tokens format place rest)

after_both : (first : Token) (tokens : List Token) (others : Result (List Token) ℕ)
    → after (first ∷ []) (after tokens others) ≡ after (first ∷ tokens) others
after_both first tokens (Ok others) = refl
after_both first tokens (Err column) = refl

after_none : (others : Result (List Token) ℕ) → others ≡ after [] others
after_none (Ok others) = refl
after_none (Err column) = refl

tokens_read : (format at : ℕ) (text : List ℕ) (tokens : List Token) (After : ℕ → List ℕ → Type 0) → HasTokens format at text tokens After
    → LeftOver format at text tokens After
tokens_read format at text [] After is_left =
    record { place = at; rest = text; is_left = is_left; read = after_none (read_tokens format at text) }
tokens_read format at text (token ∷ others) After (gap, (bytes, (rest, (is_text, spaces, is_from, is_to, is_token, are_others)))) =
    let later : LeftOver format token.to rest others After = tokens_read format token.to rest others After are_others in
    let place : (at + length gap) + length bytes ≡ token.to = omega arith in
    record {
      place = later.place;
      rest = later.rest;
      is_left = later.is_left;
      read =
          ap (read_tokens format at) (is_text ∙ append_assoc gap bytes rest)
          ∙ spaces_read format at gap (bytes ++ rest) spaces
          ∙ token_read format (at + length gap) token.kind bytes rest is_token
          ∙ ap (λ (one : Token). after (one ∷ []) (read_tokens format ((at + length gap) + length bytes) rest)) (token_same at gap bytes token is_from is_to)
          ∙ ap (λ (n : ℕ). after (token ∷ []) (read_tokens format n rest)) place
          ∙ ap (after (token ∷ [])) later.read
          ∙ after_both token others (read_tokens format later.place later.rest);
    }

only_spaces : (format at : ℕ) (rest : List ℕ) → AreSpaces rest → read_tokens format at rest ≡ Ok []
only_spaces format at rest spaces =
    ap (read_tokens format at) (sym (append-nil rest)) ∙ spaces_read format at rest [] spaces

pub spans_read : (format : ℕ) (text : List ℕ) (tokens : List Token) → AreTokensOf format text tokens → text_tokens format text ≡ Ok tokens
spans_read format text tokens spans =
    let over : LeftOver format 0 text tokens (λ at rest. AreSpaces rest) = tokens_read format 0 text tokens (λ at rest. AreSpaces rest) spans in
    over.read ∙ ap (after tokens) (only_spaces format over.place over.rest over.is_left) ∙ ap Ok (append-nil tokens)

begins_bad : (format column at : ℕ) (text : List ℕ) → BeginsBad format column at text → read_tokens format at text ≡ Err column
begins_bad format column at text (gap, (bytes, (rest, (is_text, spaces, is_column, run, no_form)))) =
    ap (read_tokens format at) (is_text ∙ append_assoc gap bytes rest)
    ∙ spaces_read format at gap (bytes ++ rest) spaces
    ∙ bad_read format (at + length gap) bytes rest run no_form
    ∙ ap Err (sym is_column)

pub bad_read_first : (format : ℕ) (text : List ℕ) (column : ℕ) → IsFirstBad format text column → text_tokens format text ≡ Err column
bad_read_first format text column (tokens, first) =
    let over : LeftOver format 0 text tokens (BeginsBad format column) = tokens_read format 0 text tokens (BeginsBad format column) first in
    over.read ∙ ap (after tokens) (begins_bad format column over.place over.rest over.is_left)

pub tokens_are_runs : TokensAreRuns
tokens_are_runs = record {
  tokens = λ format text tokens. (text_spans format text tokens, spans_read format text tokens);
  bad = λ format text column. (text_bad format text column, bad_read_first format text column);
}
