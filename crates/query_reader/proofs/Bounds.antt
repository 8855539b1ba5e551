-- Tokens lie in their text.
use Rattle.std.proofs.Common.{◌≡◌, ℕ, zero, suc, ◌+◌, ◌<◌, ◌≤◌, List, [], ◌∷◌, ◌++◌, length, length-append, get_or, ap, subst, sym, arith}
use Rattle.query_reader.specs.declared.token.Token.{Token}
use Rattle.query_reader.specs.Spans.{HasTokens, AreTokensOf}

-- a token ends at or after its first byte, and in the text
pub record LiesWithin (end : ℕ) (token : Token) : Type 0 where
  pub ordered : token.from ≤ token.to
  pub inside : token.to ≤ end

lies_later : (near far : ℕ) (token : Token) → near ≤ far → LiesWithin near token → LiesWithin far token
lies_later near far token longer lies = record { ordered = lies.ordered; inside = omega (arith, lies.inside) }

pub tokens_within : (format at : ℕ) (text : List ℕ) (tokens : List Token) (After : ℕ → List ℕ → Type 0) → HasTokens format at text tokens After
    → (i : ℕ) (d : Token) → i < length tokens → LiesWithin (at + length text) (get_or tokens i d)
tokens_within format at text [] After spans i d within = absurd (omega arith)
tokens_within format at text (token ∷ others) After (gap, (bytes, (rest, (is_text, spaces, is_from, is_to, is_kind, are_others)))) zero d within =
    let size : length text ≡ length (gap ++ bytes ++ rest) = ap length is_text in
    record {
      ordered = omega arith;
      inside = omega (arith, length-append gap bytes, length-append (gap ++ bytes) rest);
    }
tokens_within format at text (token ∷ others) After (gap, (bytes, (rest, (is_text, spaces, is_from, is_to, is_kind, are_others)))) (suc i) d within =
    let size : length text ≡ length (gap ++ bytes ++ rest) = ap length is_text in
    lies_later (token.to + length rest) (at + length text) (get_or others i d)
    (omega (arith, length-append gap bytes, length-append (gap ++ bytes) rest))
    (tokens_within format token.to rest others After are_others i d (omega arith))

token_lies : (format : ℕ) (text : List ℕ) (tokens all : List Token) → tokens ≡ all → AreTokensOf format text all
    → (i : ℕ) (d : Token) → i < length tokens → LiesWithin (0 + length text) (get_or tokens i d)
token_lies format text tokens all same spans i d within =
    tokens_within format 0 text tokens _ (subst (λ (ts : List Token). AreTokensOf format text ts) (sym same) spans) i d within

pub token_ordered : (format : ℕ) (text : List ℕ) (tokens all : List Token) → tokens ≡ all → AreTokensOf format text all
    → (i : ℕ) (d : Token) → i < length tokens → (get_or tokens i d).from ≤ (get_or tokens i d).to
token_ordered format text tokens all same spans i d within = (token_lies format text tokens all same spans i d within).ordered

pub token_inside : (format : ℕ) (text : List ℕ) (tokens all : List Token) → tokens ≡ all → AreTokensOf format text all
    → (i : ℕ) (d : Token) → i < length tokens → (get_or tokens i d).to ≤ length text
token_inside format text tokens all same spans i d within =
    let lies : LiesWithin (0 + length text) (get_or tokens i d) = token_lies format text tokens all same spans i d within in
    omega (arith, lies.inside)
