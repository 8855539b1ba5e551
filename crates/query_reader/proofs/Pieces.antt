-- The pieces of a text, from the left.
use Rattle.std.proofs.Common.{◌≡◌, ℕ, zero, suc, ◌+◌, ◌-◌, ◌<◌, ◌≤◌, max, Bool, true, false, List, [], ◌∷◌, ◌++◌, length, take, drop, get_or, Option, Some, Result, Ok, Err, refl, sym, ap, ◌∙◌, subst, arith, cond, append_assoc, append-nil, length-drop, inl, inr}
use Rattle.std.specs.List.{take_while}
use Rattle.std.proofs.lemmas.Bool.Decides.{eqb_tells}
use Rattle.std.proofs.lemmas.List.Sums.{take_while-cons}
use Rattle.query_reader.specs.declared.token.Token.{Token}
use Rattle.query_reader.specs.declared.token.TokenKind.{TokenKind}
use Rattle.query_reader.specs.Refusals.{AddsPiece}
use Rattle.query_reader.specs.Tokens.{is_atom_byte, front, Piece, pieces, token_of, with_piece, tokens_of}

taken_while : (p : ℕ → Bool) (xs : List ℕ) → take (length (take_while p xs)) xs ≡ take_while p xs
taken_while p [] = refl
taken_while p (x ∷ xs) =
    rw take_while-cons (
    elim (p x) as (λ b. take (length (cond b (x ∷ take_while p xs) [])) (x ∷ xs) ≡ cond b (x ∷ take_while p xs) []) [
      | true ↦ ap (λ rest. x ∷ rest) (taken_while p xs)
      | false ↦ refl
    ]
    )

length-take_while-≤ : (p : ℕ → Bool) (xs : List ℕ) → length (take_while p xs) ≤ length xs
length-take_while-≤ p [] = omega arith
length-take_while-≤ p (x ∷ xs) =
    rw take_while-cons (
    elim (p x) as (λ b. length (cond b (x ∷ take_while p xs) []) ≤ length (x ∷ xs)) [
      | true ↦ omega (arith, length-take_while-≤ p xs)
      | false ↦ omega arith
    ]
    )

-- the first bytes that the code takes
pub front_taken : (xs : List ℕ) → 0 < length xs → take (max (length (take_while is_atom_byte xs)) 1) xs ≡ front xs
front_taken [] some = absurd (omega arith)
front_taken (c ∷ cs) some =
    rw take_while-cons (
    elim (is_atom_byte c) as (λ b.
    take (max (length (cond b (c ∷ take_while is_atom_byte cs) [])) 1) (c ∷ cs)
    ≡ cond b (c ∷ take_while is_atom_byte cs) (c ∷ [])) [
      | true ↦
          let size : max (length (c ∷ take_while is_atom_byte cs)) 1 ≡ suc (length (take_while is_atom_byte cs)) = omega arith in
          ap (λ n. take n (c ∷ cs)) size ∙ ap (λ rest. c ∷ rest) (taken_while is_atom_byte cs)
      | false ↦ refl
    ]
    )

pub length-front : (xs : List ℕ) → 0 < length xs → (0 < length (front xs)) × (length (front xs) ≤ length xs)
length-front [] some = absurd (omega arith)
length-front (c ∷ cs) some =
    elim (is_atom_byte c) as (λ b.
    (0 < length (cond b (c ∷ take_while is_atom_byte cs) (c ∷ [])))
    × (length (cond b (c ∷ take_while is_atom_byte cs) (c ∷ [])) ≤ length (c ∷ cs))) [
      | true ↦ (omega arith, omega (arith, length-take_while-≤ is_atom_byte cs))
      | false ↦ (omega arith, omega arith)
    ]

pieces-passed : (at passed : ℕ) (xs : List ℕ) → passed ≤ length xs
    → pieces at passed xs ≡ pieces (at + passed) 0 (drop passed xs)
pieces-passed at zero xs within = ap (λ n. pieces n 0 xs) (omega arith)
pieces-passed at (suc passed) [] within = absurd (omega arith)
pieces-passed at (suc passed) (c ∷ cs) within =
    pieces-passed (at + 1) passed cs (omega arith) ∙ ap (λ n. pieces n 0 (drop passed cs)) (omega arith)

pub pieces-space : (at : ℕ) (xs : List ℕ) → 0 < length xs → get_or xs 0 0 ≡ 32
    → pieces at 0 xs ≡ pieces (at + length (front xs)) 0 (drop (length (front xs)) xs)
pieces-space at [] some space = absurd (omega arith)
pieces-space at (c ∷ cs) some space =
    subst (λ (n : ℕ). pieces at 0 (n ∷ cs) ≡ pieces (at + length (front (n ∷ cs))) 0 (drop (length (front (n ∷ cs))) (n ∷ cs)))
    (sym space) refl

-- the places of the first piece are passed
passed_front : (at n c : ℕ) (cs : List ℕ) → 0 < n → n ≤ length (c ∷ cs)
    → pieces (at + 1) (n - 1) cs ≡ pieces (at + n) 0 (drop n (c ∷ cs))
passed_front at zero c cs some within = absurd (omega arith)
passed_front at (suc n) c cs some within =
    ap (λ m. pieces (at + 1) m cs) (omega arith)
    ∙ pieces-passed (at + 1) n cs (omega arith)
    ∙ ap (λ m. pieces m 0 (drop n cs)) (omega arith)

pub pieces-token : (at : ℕ) (xs : List ℕ) → 0 < length xs → (get_or xs 0 0 ≡ 32 → ⊥)
    → pieces at 0 xs ≡ record { from = at; bytes = front xs } ∷ pieces (at + length (front xs)) 0 (drop (length (front xs)) xs)
pieces-token at [] some no_space = absurd (omega arith)
pieces-token at (c ∷ cs) some no_space =
    let size : (0 < length (front (c ∷ cs))) × (length (front (c ∷ cs)) ≤ length (c ∷ cs)) = length-front (c ∷ cs) some in
    let passed : pieces (at + 1) (length (front (c ∷ cs)) - 1) cs ≡ pieces (at + length (front (c ∷ cs))) 0 (drop (length (front (c ∷ cs))) (c ∷ cs)) =
    passed_front at (length (front (c ∷ cs))) c cs size.0 size.1 in
    elim (eqb_tells c 32) [
      | inl space ↦ absurd (no_space space.1)
      | inr other ↦
          subst (λ (b : Bool).
          cond b (pieces (at + 1) 0 cs) (record { from = at; bytes = front (c ∷ cs) } ∷ pieces (at + 1) (length (front (c ∷ cs)) - 1) cs)
          ≡ record { from = at; bytes = front (c ∷ cs) } ∷ pieces (at + length (front (c ∷ cs))) 0 (drop (length (front (c ∷ cs))) (c ∷ cs)))
          (sym other.0)
          (ap (λ rest. record { from = at; bytes = front (c ∷ cs) } ∷ rest) passed)
    ]

-- tokens before those of the rest
abbrev pub after : List Token → Result (List Token) ℕ → Result (List Token) ℕ
after tokens (Ok others) = Ok (tokens ++ others)
after tokens (Err column) = Err column

pub after-with_piece : (tokens : List Token) (piece : Piece) (kind : TokenKind) (others : Result (List Token) ℕ)
    → after tokens (with_piece piece (Some kind) others) ≡ after (tokens ++ token_of piece kind ∷ []) others
after-with_piece tokens piece kind (Ok others) = ap Ok (sym (append_assoc tokens (token_of piece kind ∷ []) others))
after-with_piece tokens piece kind (Err column) = refl

-- the step of a space and of a piece, as the code takes them
pub step-space : (format : ℕ) (read : Result (List Token) ℕ) (tokens : List Token) (at : ℕ) (xs piece others : List ℕ)
    → 0 < length xs → get_or xs 0 0 ≡ 32 → piece ≡ front xs → others ≡ drop (length (front xs)) xs
    → read ≡ after tokens (tokens_of format (pieces at 0 xs))
    → read ≡ after tokens (tokens_of format (pieces (at + length piece) 0 others))
step-space format read tokens at xs piece others some space is_front are_others before =
    before
    ∙ ap (λ (ps : List Piece). after tokens (tokens_of format ps)) (pieces-space at xs some space)
    ∙ ap (λ (p : List ℕ). after tokens (tokens_of format (pieces (at + length p) 0 (drop (length (front xs)) xs)))) (sym is_front)
    ∙ ap (λ (r : List ℕ). after tokens (tokens_of format (pieces (at + length piece) 0 r))) (sym are_others)

pub step-piece : (format : ℕ) (read : Result (List Token) ℕ) (old new : List Token) (at : ℕ) (xs piece others : List ℕ)
    → 0 < length xs → (get_or xs 0 0 ≡ 32 → ⊥) → piece ≡ front xs → others ≡ drop (length (front xs)) xs
    → AddsPiece format old new (record { from = at; bytes = piece })
    → read ≡ after old (tokens_of format (pieces at 0 xs))
    → read ≡ after new (tokens_of format (pieces (at + length piece) 0 others))
step-piece format read old new at xs piece others some no_space is_front are_others (kind, (is_kind, is_new)) before =
    let Rest : List Piece = pieces (at + length piece) 0 others in
    before
    ∙ ap (λ (ps : List Piece). after old (tokens_of format ps)) (pieces-token at xs some no_space)
    ∙ ap (λ (p : List ℕ). after old (tokens_of format (record { from = at; bytes = p } ∷ pieces (at + length p) 0 (drop (length (front xs)) xs)))) (sym is_front)
    ∙ ap (λ (r : List ℕ). after old (tokens_of format (record { from = at; bytes = piece } ∷ pieces (at + length piece) 0 r))) (sym are_others)
    ∙ ap (λ (k : Option TokenKind). after old (with_piece (record { from = at; bytes = piece }) k (tokens_of format Rest))) is_kind
    ∙ after-with_piece old (record { from = at; bytes = piece }) kind (tokens_of format Rest)
    ∙ ap (λ (ts : List Token). after ts (tokens_of format Rest)) (sym is_new)

pub place-front : (at total : ℕ) (xs piece others : List ℕ) → 0 < length xs → piece ≡ front xs
    → others ≡ drop (length (front xs)) xs → at + length xs ≡ total → (at + length piece) + length others ≡ total
place-front at total xs piece others some is_front are_others before =
    let bounds : (0 < length (front xs)) × (length (front xs) ≤ length xs) = length-front xs some in
    let size : length piece ≡ length (front xs) = ap length is_front in
    let left : length others ≡ length (drop (length (front xs)) xs) = ap length are_others in
    omega (arith, bounds.0, bounds.1, length-drop (length (front xs)) xs)

-- at the text's end nothing is left to read
pub all_read : (format : ℕ) (read : Result (List Token) ℕ) (tokens : List Token) (at : ℕ) (xs : List ℕ) → length xs ≡ 0
    → read ≡ after tokens (tokens_of format (pieces at 0 xs)) → read ≡ Ok tokens
all_read format read tokens at [] ended before = before ∙ ap Ok (append-nil tokens)
all_read format read tokens at (c ∷ cs) ended before = absurd (omega arith)
