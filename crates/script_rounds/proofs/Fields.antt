-- Texts that are cut at their spaces.
use Rattle.std.proofs.Common.{◌≡◌, ◌≤◌, ℕ, ◌==◌, Bool, true, false, List, [], ◌∷◌, length, Option, None, Some, ap, refl, arith}
use Rattle.std.specs.Prelude.{if◌then◌else◌}
use Rattle.std.specs.Option.{option_map}
use Rattle.uni_base.specs.Fields.{cut_at}

-- what stands after a separator is no longer than the text
pub cut_at-short : (separator : ℕ) (text : List ℕ) (parts : List ℕ × List ℕ) → cut_at separator text ≡ Some parts → length parts.1 ≤ length text
cut_at-short separator [] parts is = cc
cut_at-short separator (c ∷ text) parts is = by (c == separator) (cut_at separator text) is (λ later. cut_at-short separator text later)
  where
    by : (here : Bool) (rest : Option (List ℕ × List ℕ))
        → (if here then Some ([], text) else option_map (λ (p : List ℕ × List ℕ). (c ∷ p.0, p.1)) rest) ≡ Some parts
        → ((later : List ℕ × List ℕ) → rest ≡ Some later → length later.1 ≤ length text) → length parts.1 ≤ length (c ∷ text)
    by true rest e later =
        let same : text ≡ parts.1 = cc in
        omega (arith, ap (length {A = ℕ}) same)
    by false None e later = cc
    by false (Some p) e later =
        let same : p.1 ≡ parts.1 = cc in
        omega (arith, later p refl, ap (length {A = ℕ}) same)
