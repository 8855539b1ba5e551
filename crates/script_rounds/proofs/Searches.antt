-- What a search for an LF finds.
use Rattle.std.proofs.Common.{◌≡◌, ◌<◌, ℕ, ◌+◌, ◌==◌, ◌||◌, Bool, true, false, List, Some, length, take, drop, get_or, refl, sym, ◌∙◌, ap, arith, ◌++◌}
use Rattle.std.specs.Prelude.{slice_get}
use Rattle.std.proofs.Math.Seq.{take-add}
use Rattle.std.proofs.lemmas.Bool.{eqb-true}
use Rattle.std.proofs.lemmas.List.{get_or-drop, get_or-take, length-drop, length-take, take-append-drop}
use Rattle.std.proofs.lemmas.List.Elements.{All-from_get_or}
use Rattle.std.proofs.lemmas.List.Folds.{list_any_none, list_any-append}
use Rattle.std.proofs.lemmas.Option.{slice_get-get_or}
use Rattle.memchr.specs.Find.{Nowhere, NoneBefore, Passes, is_byte}
use Rattle.uni_base.specs.Lines.{has_lf}

not_true : (b : Bool) → (b ≡ true → ⊥) → b ≡ false
not_true true never = absurd (never refl)
not_true false never = refl

-- no byte is an LF
no_lf : (bytes : List ℕ) → ((i : ℕ) → i < length bytes → (get_or bytes i 0 == 10) ≡ true → ⊥) → has_lf bytes ≡ false
no_lf bytes none = list_any_none (λ b. b == 10) bytes
    (All-from_get_or (λ b. (b == 10) ≡ false) bytes 0 (λ i within. not_true (get_or bytes i 0 == 10) (none i within)))

-- neither in one part nor in the next
pub no_lf-append : (xs ys : List ℕ) → has_lf xs ≡ false → has_lf ys ≡ false → has_lf (xs ++ ys) ≡ false
no_lf-append xs ys first second = list_any-append (λ b. b == 10) xs ys ∙ ap (λ t. t || has_lf ys) first ∙ second

pub none_after : (bytes : List ℕ) (searched : ℕ) → has_lf (take searched bytes) ≡ false
    → Nowhere (Passes (is_byte 10) (drop searched bytes)) 0 (length (drop searched bytes)) → has_lf bytes ≡ false
none_after bytes searched before none =
    ap has_lf (sym (take-append-drop searched bytes))
    ∙ no_lf-append (take searched bytes) (drop searched bytes) before (no_lf (drop searched bytes) (λ i within. none i (omega arith) within))

pub found_after : (bytes : List ℕ) (searched place : ℕ) → has_lf (take searched bytes) ≡ false
    → NoneBefore (Passes (is_byte 10) (drop searched bytes)) 0 (length (drop searched bytes)) place
    → Passes (is_byte 10) (drop searched bytes) place
    → (has_lf (take (searched + place) bytes) ≡ false) × (slice_get bytes (searched + place) ≡ Some 10)
found_after bytes searched place before none here = (clear, at)
  where
    rest : List ℕ
    rest = drop searched bytes

    within : searched + place < length bytes
    within = omega (arith, none.high, length-drop searched bytes)

    front : has_lf (take place rest) ≡ false
    front = no_lf (take place rest) (λ i low passes.
        let below : i < place = omega (arith, low, length-take place rest) in
        none.before i (omega arith) below (ap (λ b. b == 10) (sym (get_or-take place rest i 0 below)) ∙ passes))

    clear : has_lf (take (searched + place) bytes) ≡ false
    clear = ap has_lf (take-add searched place bytes) ∙ no_lf-append (take searched bytes) (take place rest) before front

    at : slice_get bytes (searched + place) ≡ Some 10
    at =
        slice_get-get_or bytes (searched + place) 0 within
        ∙ ap (λ b. Some b) (sym (get_or-drop searched bytes place 0) ∙ eqb-true (get_or rest place 0) 10 here)
