-- A text in pieces, as it is cut and read.
use Rattle.std.proofs.Common.{◌≡◌, ◌<◌, ◌≤◌, ◌++◌, ◌∷◌, [], ◌==◌, ◌-◌, false, min, ℕ, List, Some, refl, sym, ◌∙◌, ap, arith, length, take, drop, length-take, length-drop, append-nil, append_assoc}
use Rattle.std.proofs.lemmas.Bool.Decides.{nat_tests}
use Rattle.std.proofs.lemmas.List.{take-append-le, drop-append-le}
use Rattle.std.proofs.lemmas.List.Folds.{drop_split}
use Rattle.std.specs.List.{slice_range}
use Rattle.uni_base.specs.Streams.{Reads}
use Rattle.bench_script.specs.Pieces.{joined_back, ArePieces}

-- a piece that comes to lie before the others
pub joined-push : (pieces : List (List ℕ)) (piece : List ℕ) → joined_back (pieces ++ piece ∷ []) ≡ piece ++ joined_back pieces
joined-push [] piece = sym (append-nil piece)
joined-push (p ∷ ps) piece = ap (λ xs. xs ++ p) (joined-push ps piece) ∙ append_assoc piece (joined_back ps) p

pub pieces-push : (pieces : List (List ℕ)) (piece : List ℕ) → ArePieces pieces → 0 < length piece → ArePieces (pieces ++ piece ∷ [])
pieces-push [] piece all some = (some, tt)
pieces-push (p ∷ ps) piece all some = (all.0, pieces-push ps piece all.1 some)

pub pieces-first : (pieces : List (List ℕ)) (piece : List ℕ) → ArePieces (pieces ++ piece ∷ []) → 0 < length piece
pieces-first [] piece all = all.0
pieces-first (p ∷ ps) piece all = pieces-first ps piece all.1

-- a piece of a text that is cut off
pub cut-more : (text : List ℕ) (pieces : List (List ℕ)) (from end : ℕ) → from ≤ end → joined_back pieces ≡ drop end text → joined_back (pieces ++ slice_range text from end ∷ []) ≡ drop from text
cut-more text pieces from end before joined =
    joined-push pieces (slice_range text from end) ∙ ap (λ xs. slice_range text from end ++ xs) joined ∙ sym (drop_split text from end before)

-- which is not empty
pub cut-some : (text : List ℕ) (from end : ℕ) → from < end → end ≤ length text → 0 < length (slice_range text from end)
cut-some text from end less within = omega (arith, less, within, length-take (end - from) (drop from text), length-drop from text)

none : (xs : List ℕ) → length xs ≡ 0 → xs ≡ []
none [] is = refl
none (x ∷ xs) is = absurd (omega (arith, is))

-- nothing was read for a buffer with room: nothing is left of the first piece
pub none-left : (first into after : List ℕ) (count : ℕ) → count ≡ min (length first) (length into) → (0 < count → ⊥) → after ≡ take count first ++ drop count into → (length after == 0) ≡ false → first ≡ []
none-left first into after count is nothing copied room =
    let zero : count ≡ 0 = grind (arith, nothing) in
    let same : after ≡ into = copied ∙ ap (λ n. take n first ++ drop n into) zero in
    let some : 0 < length after = grind (arith, nat_tests, room) in
    none first (omega (arith, is, zero, some, ap length same))

-- what is read of the first piece is read of the whole
pub reads-first : (first after later buffer : List ℕ) (n room : ℕ) → take n buffer ≡ take n first → after ≡ drop n first → n ≤ length first → (n ≡ 0 → 0 < room → first ++ later ≡ []) → Reads (Some (first ++ later)) (Some (after ++ later)) n buffer room
reads-first first after later buffer n room told passed within ends = (
  told ∙ sym (take-append-le n first later within),
  ap Some (ap (λ xs. xs ++ later) passed ∙ sym (drop-append-le n first later within)),
  ends,
)
