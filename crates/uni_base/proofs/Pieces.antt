-- Going on to the next piece.
use Rattle.std.proofs.Common.{◌≡◌, ℕ, ◌+◌, ◌≤◌, ◌<◌, min, List, [], ◌∷◌, ◌++◌, length, take, drop, get_or, Some, ◌∙◌, ap, sym, refl, arith}
use Rattle.std.specs.List.{concat}
use Rattle.std.proofs.lemmas.List.{drop_more, drop_all, length-drop, take-append-le, take-take, drop-append-le, length-take-le}
use Rattle.uni_base.specs.Streams.{Reads}
use Rattle.uni_base.specs.MemoryStreams.{unread, current, cut}

-- the pieces from a place on begin with the one in that place
pub from-place : (pieces : List (List ℕ)) (i : ℕ) (piece : List ℕ) → i < length pieces → piece ≡ get_or pieces i piece
    → drop i pieces ≡ piece ∷ drop (i + 1) pieces
from-place pieces i piece h e = drop_more pieces i piece h ∙ ap (λ p. p ∷ drop (i + 1) pieces) (sym e)

-- a piece that has a byte is not passed over
pub unread-some : (bytes : List ℕ) (rest : List (List ℕ)) → 0 < length bytes → unread (bytes ∷ rest) ≡ bytes ∷ rest
unread-some [] rest h = absurd (omega arith)
unread-some (byte ∷ bytes) rest h = refl

pub unread-here : (pieces : List (List ℕ)) (i : ℕ) (piece : List ℕ) (at : ℕ) → i < length pieces → piece ≡ get_or pieces i piece → at < length piece
    → unread (cut at (drop i pieces)) ≡ cut at (drop i pieces)
unread-here pieces i piece at h e d =
    ap (λ ps. unread (cut at ps)) (from-place pieces i piece h e)
    ∙ unread-some (drop at piece) (drop (i + 1) pieces) (omega (arith, length-drop at piece))
    ∙ sym (ap (cut at) (from-place pieces i piece h e))

-- and a read of the first piece that has a byte reads the first bytes of all
pub concat-unread : (pieces : List (List ℕ)) → concat (unread pieces) ≡ concat pieces
concat-unread [] = refl
concat-unread ([] ∷ rest) = concat-unread rest
concat-unread ((byte ∷ bytes) ∷ rest) = refl

pub take-concat : (pieces : List (List ℕ)) (n : ℕ) → n ≤ length (current pieces) → take n (concat pieces) ≡ take n (current pieces)
take-concat [] n h = refl
take-concat (piece ∷ rest) n h = take-append-le n piece (concat rest) h

pub drop-concat : (pieces : List (List ℕ)) (n : ℕ) → n ≤ length (current pieces) → concat (cut n pieces) ≡ drop n (concat pieces)
drop-concat [] n h = sym (drop_all n [] (omega arith))
drop-concat (piece ∷ rest) n h = sym (drop-append-le n piece (concat rest) h)

pub none-left : (pieces : List (List ℕ)) → length (current (unread pieces)) ≡ 0 → concat pieces ≡ []
none-left [] h = refl
none-left ([] ∷ rest) h = none-left rest h
none-left ((byte ∷ bytes) ∷ rest) h = absurd (omega arith)

pub read-front : (buffer bytes old : List ℕ) (n : ℕ) → n ≤ length bytes → buffer ≡ take n bytes ++ drop n old → take n buffer ≡ take n bytes
read-front buffer bytes old n h e =
    ap (take n) e
    ∙ take-append-le n (take n bytes) (drop n old) (omega (arith, length-take-le n bytes h))
    ∙ take-take n n bytes (omega arith)

pub reads-pieces : (pieces after : List (List ℕ)) (n : ℕ) (buffer old : List ℕ) → n ≡ min (length (current (unread pieces))) (length old)
    → buffer ≡ take n (current (unread pieces)) ++ drop n old → after ≡ cut n (unread pieces)
    → Reads (Some (concat pieces)) (Some (concat after)) n buffer (length old)
reads-pieces pieces after n buffer old h e a =
    let within : n ≤ length (current (unread pieces)) = omega arith in (
      read-front buffer (current (unread pieces)) old n within e
          ∙ sym (ap (take n) (sym (concat-unread pieces)) ∙ take-concat (unread pieces) n within),
      ap Some (ap concat a ∙ drop-concat (unread pieces) n within ∙ ap (drop n) (concat-unread pieces)),
      λ z room. none-left pieces (omega arith),
    )
