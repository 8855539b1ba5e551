-- What is read from the left are the tokens of the text, or its first atom in no form.
use Rattle.std.proofs.Common.{◌≡◌, ℕ, zero, suc, ◌+◌, ◌-◌, ◌<◌, ◌≤◌, ◌==◌, ◌&&◌, ◌||◌, not, Bool, true, false, List, [], ◌∷◌, ◌++◌, length, drop, Option, None, Some, Result, Ok, Err, refl, sym, ap, ◌∙◌, subst, arith, cond, inl, inr}
use Rattle.std.specs.List.{take_while, list_all}
use Rattle.std.proofs.lemmas.Bool.Decides.{eqb_tells, nat_tests}
use Rattle.std.proofs.lemmas.List.Sums.{take_while-cons}
use Rattle.std.specs.Prelude.{MatchResult}
use Rattle.query_tree.specs.declared.refusal.QueryRefusal.{QueryRefusal}
use Rattle.query_tree.specs.declared.refusal.QueryRefusal.TheVariants.{Fault, Memory}
use Rattle.query_reader.specs.declared.token.Token.{Token}
use Rattle.query_reader.specs.declared.token.TokenKind.{TokenKind}
use Rattle.query_reader.specs.declared.token.TokenKind.TheVariants as kinds
use Rattle.query_reader.specs.Atoms.{atom_kind}
use Rattle.query_reader.specs.Tokens.{is_atom_byte, front, Piece, pieces, kind_of, token_of, with_piece, tokens_of, text_tokens}
use Rattle.query_reader.specs.Spans.{AreSpaces, AtomEnds, IsRun, IsToken, a_left, a_right, an_atom, HasTokens, AreTokensOf, BeginsBad, IsFirstBad}
use Rattle.query_reader.specs.Refusals.{IsReadFault, IsTokenFault}
use Rattle.query_reader.proofs.Pieces.{length-front}

while_and_rest : (p : ℕ → Bool) (xs : List ℕ) → take_while p xs ++ drop (length (take_while p xs)) xs ≡ xs
while_and_rest p [] = refl
while_and_rest p (x ∷ xs) =
    rw take_while-cons (
    elim (p x) as (λ b. cond b (x ∷ take_while p xs) [] ++ drop (length (cond b (x ∷ take_while p xs) [])) (x ∷ xs) ≡ x ∷ xs) [
      | true ↦ ap (λ rest. x ∷ rest) (while_and_rest p xs)
      | false ↦ refl
    ]
    )

-- a run has bytes of atoms alone, and ends before another byte
run_all : (xs : List ℕ) → list_all is_atom_byte (take_while is_atom_byte xs) ≡ true
run_all [] = refl
run_all (x ∷ xs) = rw take_while-cons (by_first (is_atom_byte x) refl (run_all xs))
  where
    by_first : (b : Bool) → is_atom_byte x ≡ b → list_all is_atom_byte (take_while is_atom_byte xs) ≡ true
        → list_all is_atom_byte (cond b (x ∷ take_while is_atom_byte xs) []) ≡ true
    by_first true is_byte others = ap (λ b. b && list_all is_atom_byte (take_while is_atom_byte xs)) is_byte ∙ others
    by_first false is_byte others = refl

run_ends : (xs : List ℕ) → AtomEnds (drop (length (take_while is_atom_byte xs)) xs)
run_ends [] = tt
run_ends (x ∷ xs) = rw take_while-cons (by_first (is_atom_byte x) refl (run_ends xs))
  where
    by_first : (b : Bool) → is_atom_byte x ≡ b → AtomEnds (drop (length (take_while is_atom_byte xs)) xs)
        → AtomEnds (drop (length (cond b (x ∷ take_while is_atom_byte xs) [])) (x ∷ xs))
    by_first true is_byte others = others
    by_first false is_byte others = is_byte

-- a text is its front and what follows
front_and_rest : (c : ℕ) (cs : List ℕ) → front (c ∷ cs) ++ drop (length (front (c ∷ cs)) - 1) cs ≡ c ∷ cs
front_and_rest c cs =
    elim (is_atom_byte c) as (λ b.
    cond b (c ∷ take_while is_atom_byte cs) (c ∷ []) ++ drop (length (cond b (c ∷ take_while is_atom_byte cs) (c ∷ [])) - 1) cs ≡ c ∷ cs) [
      | true ↦
          let size : length (c ∷ take_while is_atom_byte cs) - 1 ≡ length (take_while is_atom_byte cs) = omega arith in
          ap (λ n. c ∷ (take_while is_atom_byte cs ++ drop n cs)) size ∙ ap (λ rest. c ∷ rest) (while_and_rest is_atom_byte cs)
      | false ↦ refl
    ]

front_run : (c : ℕ) (cs : List ℕ) → is_atom_byte c ≡ true
    → IsRun (c ∷ take_while is_atom_byte cs) (drop (length (c ∷ take_while is_atom_byte cs) - 1) cs)
front_run c cs is_byte =
    let size : length (take_while is_atom_byte cs) ≡ length (c ∷ take_while is_atom_byte cs) - 1 = omega arith in
    record {
      some = omega arith;
      all = ap (λ b. b && list_all is_atom_byte (take_while is_atom_byte cs)) is_byte ∙ run_all cs;
      ends = subst (λ (n : ℕ). AtomEnds (drop n cs)) size (run_ends cs);
    }

-- a byte of an atom is no parenthesis
pub atom_kind_of : (format c : ℕ) (cs : List ℕ) → is_atom_byte c ≡ true → kind_of format (c ∷ cs) ≡ atom_kind format (c ∷ cs)
atom_kind_of format c cs is_byte =
    ap (λ b. cond b (Some kinds.Left) (cond (c == 41) (Some kinds.Right) (atom_kind format (c ∷ cs)))) (no_left c is_byte)
    ∙ ap (λ b. cond b (Some kinds.Right) (atom_kind format (c ∷ cs))) (no_right c is_byte)
  where
    no_left : (c : ℕ) → is_atom_byte c ≡ true → (c == 40) ≡ false
    no_left c byte = grind (arith, nat_tests)

    no_right : (c : ℕ) → is_atom_byte c ≡ true → (c == 41) ≡ false
    no_right c byte = grind (arith, nat_tests)

-- what a piece is: a token of its kind, or an atom in no form
abbrev IsPiece : ℕ → Option TokenKind → List ℕ → List ℕ → Type 0
IsPiece format (Some kind) bytes rest = IsToken format kind bytes rest
IsPiece format None bytes rest = IsRun bytes rest × (atom_kind format bytes ≡ None)

an_atom_is : (format : ℕ) (bytes rest : List ℕ) (kind : Option TokenKind) → IsRun bytes rest → atom_kind format bytes ≡ kind
    → IsPiece format kind bytes rest
an_atom_is format bytes rest (Some kind) run is_kind = an_atom run is_kind
an_atom_is format bytes rest None run is_kind = (run, is_kind)

one_byte : (format c : ℕ) (rest : List ℕ) → (c == 32) ≡ false → is_atom_byte c ≡ false
    → IsPiece format (cond (c == 40) (Some kinds.Left) (cond (c == 41) (Some kinds.Right) (atom_kind format (c ∷ [])))) (c ∷ []) rest
one_byte format c rest no_space no_byte =
    elim (eqb_tells c 40) [
      | inl left ↦
          subst (λ (b : Bool). IsPiece format (cond b (Some kinds.Left) (cond (c == 41) (Some kinds.Right) (atom_kind format (c ∷ [])))) (c ∷ []) rest) (sym left.0)
          (a_left refl (ap (λ (n : ℕ). n ∷ []) left.1))
      | inr other ↦
          elim (eqb_tells c 41) [
            | inl right ↦
                subst (λ (b : Bool). IsPiece format (cond b (Some kinds.Left) (cond (c == 41) (Some kinds.Right) (atom_kind format (c ∷ [])))) (c ∷ []) rest) (sym other.0)
                (subst (λ (b : Bool). IsPiece format (cond b (Some kinds.Right) (atom_kind format (c ∷ []))) (c ∷ []) rest) (sym right.0)
                (a_right refl (ap (λ (n : ℕ). n ∷ []) right.1)))
            | inr neither ↦
                let byte : is_atom_byte c ≡ true =
                ap (λ b. not (b || ((c == 40) || (c == 41)))) no_space
                ∙ ap (λ b. not (b || (c == 41))) other.0
                ∙ ap (λ b. not b) neither.0 in
                absurd (cc)
          ]
    ]

front_piece : (format c : ℕ) (cs : List ℕ) → (c == 32) ≡ false
    → IsPiece format (kind_of format (front (c ∷ cs))) (front (c ∷ cs)) (drop (length (front (c ∷ cs)) - 1) cs)
front_piece format c cs no_space = by_first (is_atom_byte c) refl
  where
    by_first : (b : Bool) → is_atom_byte c ≡ b
        → IsPiece format (kind_of format (cond b (c ∷ take_while is_atom_byte cs) (c ∷ []))) (cond b (c ∷ take_while is_atom_byte cs) (c ∷ []))
        (drop (length (cond b (c ∷ take_while is_atom_byte cs) (c ∷ [])) - 1) cs)
    by_first true is_byte =
        an_atom_is format (c ∷ take_while is_atom_byte cs) (drop (length (c ∷ take_while is_atom_byte cs) - 1) cs)
        (kind_of format (c ∷ take_while is_atom_byte cs)) (front_run c cs is_byte)
        (sym (atom_kind_of format c (take_while is_atom_byte cs) is_byte))
    by_first false is_byte = one_byte format c (drop (length (c ∷ []) - 1) cs) no_space is_byte

-- a space before a text stands in the first gap
after_space : (format at : ℕ) (cs : List ℕ) (tokens : List Token) (After : ℕ → List ℕ → Type 0)
    → (After (at + 1) cs → After at (32 ∷ cs)) → HasTokens format (at + 1) cs tokens After → HasTokens format at (32 ∷ cs) tokens After
after_space format at cs [] After moved is_left = moved is_left
after_space format at cs (token ∷ others) After moved (gap, (bytes, (rest, (is_text, spaces, is_from, is_to, is_kind, are_others)))) = (
  32 ∷ gap,
  (bytes, (rest, (ap (λ text. 32 ∷ text) is_text, (refl, spaces), omega arith, is_to, is_kind, are_others))),
)

bad_after_space : (format column at : ℕ) (cs : List ℕ) → BeginsBad format column (at + 1) cs → BeginsBad format column at (32 ∷ cs)
bad_after_space format column at cs (gap, (bytes, (rest, (is_text, spaces, is_column, run, no_form)))) =
    (32 ∷ gap, (bytes, (rest, (ap (λ text. 32 ∷ text) is_text, (refl, spaces), omega arith, run, no_form))))

-- what is read of a text from a place on
abbrev IsRead : ℕ → ℕ → List ℕ → Result (List Token) ℕ → Type 0
IsRead format at text (Ok tokens) = HasTokens format at text tokens (λ after rest. AreSpaces rest)
IsRead format at text (Err column) = (tokens : List Token) × HasTokens format at text tokens (BeginsBad format column)

read_space : (format at : ℕ) (cs : List ℕ) (read : Result (List Token) ℕ) → IsRead format (at + 1) cs read → IsRead format at (32 ∷ cs) read
read_space format at cs (Ok tokens) is_read =
    after_space format at cs tokens (λ after rest. AreSpaces rest) (λ spaces. (refl, spaces)) is_read
read_space format at cs (Err column) is_read =
    (is_read.0, after_space format at cs is_read.0 (BeginsBad format column) (bad_after_space format column at cs) is_read.1)

read_piece : (format at : ℕ) (text bytes rest : List ℕ) (kind : Option TokenKind) (others : Result (List Token) ℕ)
    → text ≡ bytes ++ rest → IsPiece format kind bytes rest → IsRead format (at + length bytes) rest others
    → IsRead format at text (with_piece (record { from = at; bytes = bytes }) kind others)
read_piece format at text bytes rest None others is_text piece is_read =
    ([], ([], (bytes, (rest, (is_text, tt, omega arith, piece.0, piece.1)))))
read_piece format at text bytes rest (Some kind) (Ok tokens) is_text piece is_read =
    ([], (bytes, (rest, (is_text, tt, omega arith, refl, piece, is_read))))
read_piece format at text bytes rest (Some kind) (Err column) is_text piece is_read =
    (token_of (record { from = at; bytes = bytes }) kind ∷ is_read.0, ([], (bytes, (rest, (is_text, tt, omega arith, refl, piece, is_read.1)))))

-- a text whose first bytes are passed
abbrev ReadFrom : ℕ → ℕ → ℕ → List ℕ → Type 0
ReadFrom format at passed text =
    passed ≤ length text → IsRead format (at + passed) (drop passed text) (tokens_of format (pieces at passed text))

read_cons : (format at c : ℕ) (cs : List ℕ) → ((passed : ℕ) → ReadFrom format (at + 1) passed cs)
    → IsRead format at (c ∷ cs) (tokens_of format (pieces at 0 (c ∷ cs)))
read_cons format at c cs later =
    let piece : Piece = record { from = at; bytes = front (c ∷ cs) } in
    let size : (0 < length (front (c ∷ cs))) × (length (front (c ∷ cs)) ≤ length (c ∷ cs)) = length-front (c ∷ cs) (omega arith) in
    let Goal : Bool → Type 0 = λ b. IsRead format at (c ∷ cs) (tokens_of format (cond b (pieces (at + 1) 0 cs) (piece ∷ pieces (at + 1) (length (front (c ∷ cs)) - 1) cs))) in
    elim (eqb_tells c 32) [
      | inl space ↦
          let place : (at + 1) + 0 ≡ at + 1 = omega arith in
          let others : IsRead format (at + 1) cs (tokens_of format (pieces (at + 1) 0 cs)) =
          subst (λ (n : ℕ). IsRead format n cs (tokens_of format (pieces (at + 1) 0 cs))) place (later 0 (omega arith)) in
          subst Goal (sym space.0)
          (subst (λ (n : ℕ). IsRead format at (n ∷ cs) (tokens_of format (pieces (at + 1) 0 cs))) (sym space.1)
          (read_space format at cs (tokens_of format (pieces (at + 1) 0 cs)) others))
      | inr other ↦
          let place : (at + 1) + (length (front (c ∷ cs)) - 1) ≡ at + length (front (c ∷ cs)) = omega (arith, size.0) in
          subst Goal (sym other.0)
          (read_piece format at (c ∷ cs) (front (c ∷ cs)) (drop (length (front (c ∷ cs)) - 1) cs) (kind_of format (front (c ∷ cs)))
          (tokens_of format (pieces (at + 1) (length (front (c ∷ cs)) - 1) cs))
          (sym (front_and_rest c cs)) (front_piece format c cs other.0)
          (subst (λ (n : ℕ). IsRead format n (drop (length (front (c ∷ cs)) - 1) cs) (tokens_of format (pieces (at + 1) (length (front (c ∷ cs)) - 1) cs))) place
          (later (length (front (c ∷ cs)) - 1) (omega (arith, size.0, size.1)))))
    ]

read_from_place : (format at passed : ℕ) (text : List ℕ) → ReadFrom format at passed text
read_from_place format at zero [] within = tt
read_from_place format at (suc passed) [] within = absurd (omega arith)
read_from_place format at (suc passed) (c ∷ cs) within =
    let place : (at + 1) + passed ≡ at + suc passed = omega arith in
    subst (λ (n : ℕ). IsRead format n (drop passed cs) (tokens_of format (pieces (at + 1) passed cs))) place
    (read_from_place format (at + 1) passed cs (omega arith))
read_from_place format at zero (c ∷ cs) within =
    let place : at ≡ at + 0 = omega arith in
    subst (λ (n : ℕ). IsRead format n (c ∷ cs) (tokens_of format (pieces at 0 (c ∷ cs)))) place
    (read_cons format at c cs (λ passed. read_from_place format (at + 1) passed cs))

text_is_read : (format : ℕ) (text : List ℕ) → IsRead format 0 text (text_tokens format text)
text_is_read format text = read_from_place format 0 0 text (omega arith)

pub text_spans : (format : ℕ) (text : List ℕ) (tokens : List Token) → text_tokens format text ≡ Ok tokens → AreTokensOf format text tokens
text_spans format text tokens is_ok = subst (IsRead format 0 text) is_ok (text_is_read format text)

pub text_bad : (format : ℕ) (text : List ℕ) (column : ℕ) → text_tokens format text ≡ Err column → IsFirstBad format text column
text_bad format text column is_bad = subst (IsRead format 0 text) is_bad (text_is_read format text)

-- an answer that was read from the left says what the tokens are
pub tokens_meant : (format : ℕ) (text : List ℕ) (answer : Result (List Token) QueryRefusal)
    → MatchResult answer (λ tokens. text_tokens format text ≡ Ok tokens) (IsReadFault (text_tokens format text))
    → MatchResult answer (AreTokensOf format text) (IsTokenFault format text)
tokens_meant format text (Ok tokens) is_read = text_spans format text tokens is_read
tokens_meant format text (Err (Fault code column)) is_read = (is_read.0, text_bad format text column is_read.1)
tokens_meant format text (Err Memory) is_read = tt
