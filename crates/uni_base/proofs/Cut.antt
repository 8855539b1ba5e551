-- A text with a separator, and one with none.
use Rattle.std.proofs.lemmas.Bool.{or_parts}
use Rattle.std.proofs.Common.{◌≡◌, ℕ, ◌<◌, ◌==◌, false, List, [], ◌∷◌, length, get_or, take, drop, Some, None, refl, eq-eqb, arith, zero, suc, ◌+◌, ◌-◌, add-one}
use Rattle.std.proofs.lemmas.List.{length-drop, take_all}
use Rattle.std.specs.List.{list_any}
use Rattle.uni_base.specs.Fields.{cut_at}

-- the first separator stands at i
pub found : (separator : ℕ) (text : List ℕ) (i : ℕ) → i < length text → list_any (λ c. c == separator) (take i text) ≡ false → get_or text i 0 ≡ separator
    → cut_at separator text ≡ Some (take i text, drop (suc i) text)
found separator [] i here none at = absurd (omega arith)
found separator (c ∷ cs) zero here none at = rw (eq-eqb c separator at) refl
found separator (c ∷ cs) (suc i) here none at =
    let parts = or_parts (c == separator) (list_any (λ x. x == separator) (take i cs)) none in
    let rest = found separator cs i (omega arith) parts.1 at in
    rw (parts.0, rest) refl

-- so the two parts are those before it and after it
pub cut_here : (separator : ℕ) (text : List ℕ) (i : ℕ) → i < length text → list_any (λ c. c == separator) (take i text) ≡ false → get_or text i 0 ≡ separator
    → cut_at separator text ≡ Some (take i text, take (length text - (i + 1)) (drop (i + 1) text))
cut_here separator text i here none at =
    let e : take (length text - (i + 1)) (drop (i + 1) text) ≡ drop (i + 1) text = take_all (length text - (i + 1)) (drop (i + 1) text) (omega (arith, length-drop (i + 1) text)) in
    rw (e, add-one) (found separator text i here none at)

-- no separator, no cut
pub absent : (separator : ℕ) (text : List ℕ) → list_any (λ c. c == separator) text ≡ false → cut_at separator text ≡ None
absent separator [] none = refl
absent separator (c ∷ cs) none =
    let parts = or_parts (c == separator) (list_any (λ x. x == separator) cs) none in
    rw (parts.0, absent separator cs parts.1) refl
