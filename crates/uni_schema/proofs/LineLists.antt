-- Lines, one after another.
use Rattle.std.proofs.Common.{◌≡◌, ◌+◌, ℕ, zero, suc, Bool, true, false, List, [], ◌∷◌, ◌++◌, map, take, Some, slice_get, cond, refl, ap, sym, ◌∙◌, append_assoc, add-one}
use Rattle.std.proofs.lemmas.List.{map-append}
use Rattle.uni_schema.specs.Print.{deny_line, deny_lines}
use Rattle.uni_base.specs.Lines.{lined}
use Rattle.uni_base.proofs.LineLaws.{lined-append}
use Rattle.uni_schema.specs.declared.schema.TypeDef.{TypeDef}

-- one element more, at its place
take_next : {X : Type 0} (xs : List X) (n : ℕ) (x : X) → slice_get xs n ≡ Some x → take (n + 1) xs ≡ take n xs ++ x ∷ []
take_next {X = X} xs n x at = rw add-one (by xs n at)
  where
    by : (ys : List X) (m : ℕ) → slice_get ys m ≡ Some x → take (suc m) ys ≡ take m ys ++ x ∷ []
    by [] m at = cc
    by (y ∷ ys) zero at = let one : y ≡ x = cc in ap (λ z. z ∷ []) one
    by (y ∷ ys) (suc m) at = ap (λ zs. y ∷ zs) (by ys m at)

pub lined_next : {X : Type 0} (line : X → List ℕ) (xs : List X) (n : ℕ) (x : X) → slice_get xs n ≡ Some x
    → lined (map line (take (n + 1) xs)) ≡ lined (map line (take n xs)) ++ lined (line x ∷ [])
lined_next line xs n x at =
    ap (λ ys. lined (map line ys)) (take_next xs n x at)
    ∙ ap lined (map-append line (take n xs) (x ∷ []))
    ∙ lined-append (map line (take n xs)) (line x ∷ [])

deny_lines-append : (xs ys : List TypeDef) → deny_lines (xs ++ ys) ≡ deny_lines xs ++ deny_lines ys
deny_lines-append [] ys = refl
deny_lines-append (x ∷ xs) ys = by x.deny (deny_lines-append xs ys)
  where
    by : (deny : Bool) → deny_lines (xs ++ ys) ≡ deny_lines xs ++ deny_lines ys
        → cond deny (deny_line x ∷ deny_lines (xs ++ ys)) (deny_lines (xs ++ ys)) ≡ cond deny (deny_line x ∷ deny_lines xs) (deny_lines xs) ++ deny_lines ys
    by true rest = ap (λ ls. deny_line x ∷ ls) rest
    by false rest = rest

pub deny_next : (xs : List TypeDef) (n : ℕ) (x : TypeDef) → slice_get xs n ≡ Some x → lined (deny_lines (take (n + 1) xs)) ≡ lined (deny_lines (take n xs)) ++ lined (deny_lines (x ∷ []))
deny_next xs n x at =
    ap (λ ys. lined (deny_lines ys)) (take_next xs n x at)
    ∙ ap lined (deny_lines-append (take n xs) (x ∷ []))
    ∙ lined-append (deny_lines (take n xs)) (deny_lines (x ∷ []))

regroup : (f v t d b : List ℕ) → (((([] ++ f) ++ v) ++ t) ++ d) ++ b ≡ f ++ (v ++ (t ++ (d ++ b)))
regroup f v t d b = simp append_assoc

-- the parts of a text, added one after another
pub whole_text : (first : List ℕ) (vs ts ds : List (List ℕ)) (last : List ℕ) (t₀ t₁ t₂ t₃ t₄ t₅ : List ℕ) → t₀ ≡ [] → t₁ ≡ t₀ ++ lined (first ∷ []) → t₂ ≡ t₁ ++ lined vs → t₃ ≡ t₂ ++ lined ts
    → t₄ ≡ t₃ ++ lined ds → t₅ ≡ t₄ ++ lined (last ∷ []) → t₅ ≡ lined (first ∷ (vs ++ (ts ++ (ds ++ last ∷ []))))
whole_text first vs ts ds last t₀ t₁ t₂ t₃ t₄ t₅ e₀ e₁ e₂ e₃ e₄ e₅ =
    e₅ ∙ ap (λ x. x ++ lined (last ∷ [])) (e₄ ∙ ap (λ x. x ++ lined ds) (e₃ ∙ ap (λ x. x ++ lined ts) (e₂ ∙ ap (λ x. x ++ lined vs) (e₁ ∙ ap (λ x. x ++ lined (first ∷ [])) e₀))))
    ∙ regroup (lined (first ∷ [])) (lined vs) (lined ts) (lined ds) (lined (last ∷ []))
    ∙ sym (lined-append (first ∷ []) (vs ++ (ts ++ (ds ++ last ∷ [])))
    ∙ ap (λ x. lined (first ∷ []) ++ x) (lined-append vs (ts ++ (ds ++ last ∷ []))
    ∙ ap (λ x. lined vs ++ x) (lined-append ts (ds ++ last ∷ [])
    ∙ ap (λ x. lined ts ++ x) (lined-append ds (last ∷ [])))))
