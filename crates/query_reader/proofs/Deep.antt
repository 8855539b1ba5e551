-- How deep the parentheses of what is spelled go.
use Rattle.std.proofs.Common.{◌≡◌, ℕ, ◌+◌, ◌-◌, ◌≤◌, max, List, [], ◌∷◌, ◌++◌, ap, ◌∙◌, arith}
use Rattle.query_reader.specs.declared.token.TokenKind.{TokenKind}
use Rattle.query_reader.specs.declared.token.TokenKind.TheVariants as tokens
use Rattle.query_reader.specs.Reading.{Lexeme}
use Rattle.query_reader.specs.Depth.{open_after, most_open}
use Rattle.query_reader.proofs.Balance.{opened, most-append, Balanced, IsFlat, flat-after}

-- the tokens open no more than so many parentheses beyond those that are open already
abbrev pub Deep : ℕ → List Lexeme → Type 0
Deep depth spelled = (count : ℕ) → most_open count spelled ≤ count + depth

pub deep-more : (depth more : ℕ) (spelled : List Lexeme) → depth ≤ more → Deep depth spelled → Deep more spelled
deep-more depth more spelled h deep count = omega (arith, deep count, h)

pub deep-flat : (depth : ℕ) (token : Lexeme) (others : List Lexeme) (kind : TokenKind) → token.kind ≡ kind → IsFlat kind
    → Deep depth others → Deep depth (token ∷ others)
deep-flat depth token others kind is_kind flat deep count =
    let same : most_open (open_after count token.kind) others ≡ most_open count others =
    ap (λ n. most_open n others) (ap (open_after count) is_kind ∙ flat-after kind count flat) in
    omega (arith, deep count)

pub deep-append : (depth other : ℕ) (front back : List Lexeme) → Balanced front → Deep depth front → Deep other back
    → Deep (max depth other) (front ++ back)
deep-append depth other front back balanced deep deep_too count =
    let same : most_open (opened count front) back ≡ most_open count back = ap (λ n. most_open n back) (balanced count) in
    omega (arith, most-append count front back, deep count, deep_too count)

pub deep-between : (depth : ℕ) (left right : Lexeme) (inner : List Lexeme) → left.kind ≡ tokens.Left → right.kind ≡ tokens.Right
    → Balanced inner → Deep depth inner → Deep (1 + depth) ((left ∷ inner) ++ right ∷ [])
deep-between depth left right inner is_left is_right balanced deep count =
    let first : most_open (open_after count left.kind) (inner ++ right ∷ []) ≡ most_open (count + 1) (inner ++ right ∷ []) =
    ap (λ n. most_open n (inner ++ right ∷ [])) (ap (open_after count) is_left) in
    let last : most_open (opened (count + 1) inner) (right ∷ []) ≡ most_open (count + 1) (right ∷ []) =
    ap (λ n. most_open n (right ∷ [])) (balanced (count + 1)) in
    let closed : open_after (count + 1) right.kind ≡ (count + 1) - 1 = ap (open_after (count + 1)) is_right in
    omega (arith, most-append (count + 1) inner (right ∷ []), deep (count + 1))
