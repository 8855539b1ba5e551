-- The tokens of a part of a text.
use Rattle.std.proofs.Common.{◌≡◌, ℕ, ◌+◌, ◌<◌, true, cond, List, [], ◌∷◌, ◌++◌, map, length, take, drop, get_or, Option, Some, None, Result, Ok, Err, refl, sym, ap, ◌∙◌, subst, arith, append_assoc, length-append, drop-drop}
use Rattle.std.proofs.lemmas.Bool.{and_parts}
use Rattle.std.specs.List.{take_while, list_all}
use Rattle.std.proofs.Math.Seq.{drop-append_seam, take-append_seam}
use Rattle.std.proofs.lemmas.List.Sums.{take_while-cons}
use Rattle.query_reader.specs.declared.token.Token.{Token}
use Rattle.query_reader.specs.declared.token.TokenKind.{TokenKind}
use Rattle.query_reader.specs.declared.token.TokenKind.TheVariants as kinds
use Rattle.query_reader.specs.Atoms.{atom_kind}
use Rattle.query_reader.specs.Spans.{AtomEnds, IsRun}
use Rattle.query_reader.specs.Tokens.{is_atom_byte, front, Piece, pieces, kind_of, token_of, with_piece, tokens_of}
use Rattle.query_reader.specs.Reading.{Lexeme, lexeme_of}
use Rattle.query_reader.proofs.Pieces.{after, pieces-token}
use Rattle.query_reader.proofs.SpansLemmas.{atom_kind_of}
use Rattle.query_reader.proofs.AtomForms.{IsAtom}

-- the tokens of a text that begins at a place
abbrev pub read_tokens : ℕ → ℕ → List ℕ → Result (List Token) ℕ
read_tokens format at text = tokens_of format (pieces at 0 text)

-- a part of a text, from a place on, has these tokens, whatever follows it
pub record Segment (format : ℕ) (whole : List ℕ) (at : ℕ) (text rest : List ℕ) (lexemes : List Lexeme) : Type 0 where
  pub tokens : List Token
  pub read : read_tokens format at (text ++ rest) ≡ after tokens (read_tokens format (at + length text) rest)
  pub are : map (lexeme_of whole) tokens ≡ lexemes

-- what stands in the whole text from a place on, and after the first part of that
pub record Parts (whole : List ℕ) (at : ℕ) (first second rest : List ℕ) : Type 0 where
  pub here : drop at whole ≡ first ++ (second ++ rest)
  pub next : drop (at + length first) whole ≡ second ++ rest

pub parts : (whole : List ℕ) (at : ℕ) (first second rest : List ℕ) → drop at whole ≡ (first ++ second) ++ rest → Parts whole at first second rest
parts whole at first second rest is_here =
    let here : drop at whole ≡ first ++ (second ++ rest) = is_here ∙ append_assoc first second rest in
    record {
      here = here;
      next = sym (drop-drop (length first) at whole) ∙ ap (drop (length first)) here ∙ drop-append_seam first (second ++ rest);
    }

after-append : (front back : List Token) (others : Result (List Token) ℕ) → after front (after back others) ≡ after (front ++ back) others
after-append front back (Ok others) = ap Ok (sym (append_assoc front back others))
after-append front back (Err column) = refl

map-both : (whole : List ℕ) (front back : List Token) → map (lexeme_of whole) (front ++ back) ≡ map (lexeme_of whole) front ++ map (lexeme_of whole) back
map-both whole [] back = refl
map-both whole (token ∷ front) back = ap (λ rest. lexeme_of whole token ∷ rest) (map-both whole front back)

-- one part after the other
pub both : (format : ℕ) (whole : List ℕ) (at : ℕ) (first second rest : List ℕ) (front back : List Lexeme)
    → Segment format whole at first (second ++ rest) front → Segment format whole (at + length first) second rest back
    → Segment format whole at (first ++ second) rest (front ++ back)
both format whole at first second rest front back one two = record {
  tokens = one.tokens ++ two.tokens;
  read =
      ap (read_tokens format at) (append_assoc first second rest)
      ∙ one.read
      ∙ ap (after one.tokens) two.read
      ∙ after-append one.tokens two.tokens (read_tokens format ((at + length first) + length second) rest)
      ∙ ap (λ place. after (one.tokens ++ two.tokens) (read_tokens format place rest)) (omega (arith, length-append first second));
  are =
      map-both whole one.tokens two.tokens
      ∙ ap (λ xs. xs ++ map (lexeme_of whole) two.tokens) one.are
      ∙ ap (λ xs. front ++ xs) two.are;
}

-- the same part, written otherwise
pub as_text : (format : ℕ) (whole : List ℕ) (at : ℕ) (text other rest : List ℕ) (lexemes : List Lexeme) → text ≡ other
    → Segment format whole at text rest lexemes → Segment format whole at other rest lexemes
as_text format whole at text other rest lexemes is_same segment = subst (λ xs. Segment format whole at xs rest lexemes) is_same segment

after-none : (others : Result (List Token) ℕ) → others ≡ after [] others
after-none (Ok others) = refl
after-none (Err column) = refl

pub nothing : (format : ℕ) (whole : List ℕ) (at : ℕ) (rest : List ℕ) → Segment format whole at [] rest []
nothing format whole at rest = record {
  tokens = [];
  read = after-none (read_tokens format at rest) ∙ ap (λ place. after [] (read_tokens format place rest)) (omega arith);
  are = refl;
}

pub space : (format : ℕ) (whole : List ℕ) (at : ℕ) (rest : List ℕ) → Segment format whole at (32 ∷ []) rest []
space format whole at rest = record { tokens = []; read = after-none (read_tokens format (at + 1) rest); are = refl }

-- a token with its bytes
abbrev pub lexeme : ℕ → TokenKind → List ℕ → Lexeme
lexeme at kind bytes = record { column = at + 1; kind = kind; bytes = bytes }

lexeme-is : (whole : List ℕ) (at : ℕ) (bytes rest : List ℕ) (kind : TokenKind) → drop at whole ≡ bytes ++ rest
    → lexeme_of whole (token_of (record { from = at; bytes = bytes }) kind) ≡ lexeme at kind bytes
lexeme-is whole at bytes rest kind is_here =
    ap (λ (xs : List ℕ). lexeme at kind xs)
    (ap (λ n. take n (drop at whole)) (omega arith) ∙ ap (take (length bytes)) is_here ∙ take-append_seam bytes rest)

after-one : (piece : Piece) (kind : TokenKind) (others : Result (List Token) ℕ) → with_piece piece (Some kind) others ≡ after (token_of piece kind ∷ []) others
after-one piece kind (Ok others) = refl
after-one piece kind (Err column) = refl

-- an atom goes as far as its bytes
run-ends : (rest : List ℕ) → AtomEnds rest → take_while is_atom_byte rest ≡ []
run-ends [] ends = refl
run-ends (c ∷ cs) ends = rw (take_while-cons, ends) refl

run-is : (bytes rest : List ℕ) → list_all is_atom_byte bytes ≡ true → AtomEnds rest → take_while is_atom_byte (bytes ++ rest) ≡ bytes
run-is [] rest all ends = run-ends rest ends
run-is (c ∷ cs) rest all ends =
    let split = and_parts (is_atom_byte c) (list_all is_atom_byte cs) all in
    rw (take_while-cons, split.0, run-is cs rest split.1 ends) refl

front-is : (bytes rest : List ℕ) → 0 < length bytes → list_all is_atom_byte bytes ≡ true → AtomEnds rest → front (bytes ++ rest) ≡ bytes
front-is [] rest some all ends = absurd (omega arith)
front-is (c ∷ cs) rest some all ends =
    let split = and_parts (is_atom_byte c) (list_all is_atom_byte cs) all in
    ap (λ b. cond b (c ∷ take_while is_atom_byte (cs ++ rest)) (c ∷ [])) split.0
    ∙ ap (λ run. c ∷ run) (run-is cs rest split.1 ends)

no_space : (bytes rest : List ℕ) → 0 < length bytes → list_all is_atom_byte bytes ≡ true → get_or (bytes ++ rest) 0 0 ≡ 32 → ⊥
no_space [] rest some all space = absurd (omega arith)
no_space (c ∷ cs) rest some all space =
    let split = and_parts (is_atom_byte c) (list_all is_atom_byte cs) all in
    let here : is_atom_byte 32 ≡ true = sym (ap is_atom_byte space) ∙ split.0 in
    absurd (cc)

pub kind-is : (format : ℕ) (bytes rest : List ℕ) (kind : TokenKind) → IsRun bytes rest → atom_kind format bytes ≡ Some kind → kind_of format bytes ≡ Some kind
kind-is format [] rest kind run form = absurd (omega (arith, run.some))
kind-is format (c ∷ cs) rest kind run form =
    atom_kind_of format c cs (and_parts (is_atom_byte c) (list_all is_atom_byte cs) run.all).0 ∙ form

-- the first token of a text
abbrev FirstRead : ℕ → ℕ → List ℕ → List ℕ → TokenKind → Type 0
FirstRead format at bytes rest kind =
    read_tokens format at (bytes ++ rest)
    ≡ after (token_of (record { from = at; bytes = bytes }) kind ∷ []) (read_tokens format (at + length bytes) rest)

pub left_read : (format at : ℕ) (rest : List ℕ) → FirstRead format at (40 ∷ []) rest kinds.Left
left_read format at rest = after-one (record { from = at; bytes = 40 ∷ [] }) kinds.Left (read_tokens format (at + 1) rest)

pub right_read : (format at : ℕ) (rest : List ℕ) → FirstRead format at (41 ∷ []) rest kinds.Right
right_read format at rest = after-one (record { from = at; bytes = 41 ∷ [] }) kinds.Right (read_tokens format (at + 1) rest)

-- and an atom, of a form or not, at which the rest is read
run_read : (format at : ℕ) (bytes rest : List ℕ) → IsRun bytes rest
    → read_tokens format at (bytes ++ rest) ≡ with_piece (record { from = at; bytes = bytes }) (kind_of format bytes) (read_tokens format (at + length bytes) rest)
run_read format at bytes rest run =
    let is_front : front (bytes ++ rest) ≡ bytes = front-is bytes rest run.some run.all run.ends in
    let long : 0 < length (bytes ++ rest) = omega (arith, run.some, length-append bytes rest) in
    ap (tokens_of format) (pieces-token at (bytes ++ rest) long (no_space bytes rest run.some run.all))
    ∙ ap (λ (xs : List ℕ). tokens_of format (record { from = at; bytes = xs } ∷ pieces (at + length xs) 0 (drop (length xs) (bytes ++ rest)))) is_front
    ∙ ap (λ (xs : List ℕ). tokens_of format (record { from = at; bytes = bytes } ∷ pieces (at + length bytes) 0 xs)) (drop-append_seam bytes rest)

pub atom_read : (format at : ℕ) (bytes rest : List ℕ) (kind : TokenKind) → IsRun bytes rest → atom_kind format bytes ≡ Some kind
    → FirstRead format at bytes rest kind
atom_read format at bytes rest kind run form =
    run_read format at bytes rest run
    ∙ ap (λ (k : Option TokenKind). with_piece (record { from = at; bytes = bytes }) k (read_tokens format (at + length bytes) rest)) (kind-is format bytes rest kind run form)
    ∙ after-one (record { from = at; bytes = bytes }) kind (read_tokens format (at + length bytes) rest)

pub bad_read : (format at : ℕ) (bytes rest : List ℕ) → IsRun bytes rest → atom_kind format bytes ≡ None
    → read_tokens format at (bytes ++ rest) ≡ Err (at + 1)
bad_read format at [] rest run form = absurd (omega (arith, run.some))
bad_read format at (c ∷ cs) rest run form =
    run_read format at (c ∷ cs) rest run
    ∙ ap (λ (k : Option TokenKind). with_piece (record { from = at; bytes = c ∷ cs }) k (read_tokens format (at + length (c ∷ cs)) rest))
    (atom_kind_of format c cs (and_parts (is_atom_byte c) (list_all is_atom_byte cs) run.all).0 ∙ form)

pub left : (format : ℕ) (whole : List ℕ) (at : ℕ) (rest : List ℕ) → drop at whole ≡ 40 ∷ rest
    → Segment format whole at (40 ∷ []) rest (lexeme at kinds.Left (40 ∷ []) ∷ [])
left format whole at rest is_here = record {
  tokens = token_of (record { from = at; bytes = 40 ∷ [] }) kinds.Left ∷ [];
  read = left_read format at rest;
  are = ap (λ (one : Lexeme). one ∷ []) (lexeme-is whole at (40 ∷ []) rest kinds.Left is_here);
}

pub right : (format : ℕ) (whole : List ℕ) (at : ℕ) (rest : List ℕ) → drop at whole ≡ 41 ∷ rest
    → Segment format whole at (41 ∷ []) rest (lexeme at kinds.Right (41 ∷ []) ∷ [])
right format whole at rest is_here = record {
  tokens = token_of (record { from = at; bytes = 41 ∷ [] }) kinds.Right ∷ [];
  read = right_read format at rest;
  are = ap (λ (one : Lexeme). one ∷ []) (lexeme-is whole at (41 ∷ []) rest kinds.Right is_here);
}

pub atom : (format : ℕ) (whole : List ℕ) (at : ℕ) (bytes rest : List ℕ) (kind : TokenKind) → drop at whole ≡ bytes ++ rest
    → IsAtom format bytes kind → AtomEnds rest → Segment format whole at bytes rest (lexeme at kind bytes ∷ [])
atom format whole at bytes rest kind is_here is_atom ends = record {
  tokens = token_of (record { from = at; bytes = bytes }) kind ∷ [];
  read = atom_read format at bytes rest kind (record { some = is_atom.some; all = is_atom.all; ends = ends }) is_atom.form;
  are = ap (λ (one : Lexeme). one ∷ []) (lexeme-is whole at bytes rest kind is_here);
}
