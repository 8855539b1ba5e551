-- A short text kept in an array of 32 bytes.
use Rattle.std.specs.Prelude.{ℕ, ◌≡◌, ◌-◌, ◌≤◌, List, ◌++◌, length, take, drop, replicate, true}
use Rattle.std.proofs.Common.{◌∙◌, sym, ap, arith}
use Rattle.std.proofs.lemmas.List.{length-take-le, take-append-drop, drop-replicate}
use Rattle.uni_base.specs.Words.{is_word}

-- the text, then zeros up to 32 bytes
abbrev pub padded : List ℕ → List ℕ
padded text = text ++ replicate (32 - length text) 0

-- the first len of 32 bytes are a word, and the rest are zeros
pub record IsPadded (len : ℕ) (bytes : List ℕ) : Type 0 where
  pub whole : length bytes ≡ 32
  pub small : len ≤ 32
  pub zeros : drop len bytes ≡ replicate (32 - len) 0
  pub word : is_word (take len bytes) ≡ true

-- a padded text has its length and its bytes back
pub padded-len : (len : ℕ) (bytes : List ℕ) → IsPadded len bytes → length (take len bytes) ≡ len
padded-len len bytes h = length-take-le len bytes (omega (arith, h.whole, h.small))

pub padded-bytes : (len : ℕ) (bytes : List ℕ) → IsPadded len bytes → padded (take len bytes) ≡ bytes
padded-bytes len bytes h =
    ap (λ n. take len bytes ++ replicate (32 - n) 0) (padded-len len bytes h)
    ∙ ap (λ rest. take len bytes ++ rest) (sym h.zeros)
    ∙ take-append-drop len bytes

-- a text that is written over 32 zeros is padded
pub padded-written : (front text : List ℕ) → front ≡ text → front ++ drop (length text) (replicate 32 0) ≡ padded text
padded-written front text same =
    ap (λ xs. xs ++ drop (length text) (replicate 32 0)) same
    ∙ ap (λ rest. text ++ rest) (drop-replicate (length text) 32 0)
