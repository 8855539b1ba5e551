-- Whether an edge of a type that denies leads to a viewer, type by type.
use Rattle.std.proofs.Common.{◌≡◌, ◌+◌, ◌≤◌, ◌||◌, ℕ, zero, suc, Bool, true, false, if◌then◌else◌, List, [], ◌∷◌, length, drop, Some, slice_get, ◌∙◌, ap, arith}
use Rattle.std.specs.List.{list_any}
use Rattle.std.proofs.lemmas.List.{drop_all}
use Rattle.uni_base.specs.declared.edge.Key.TheVariants.{Id}
use Rattle.uni_schema.specs.declared.schema.TypeDef.{TypeDef}
use Rattle.uni_table.specs.Contents.{Contents, has_edge}
use Rattle.uni_meaning.specs.Hits.{edge_to}
use Rattle.uni_meaning.specs.Policy.{denials_from}

-- whether an edge of a type leads from an owner to a viewer
abbrev pub leads : Contents → ℕ → ℕ → ℕ → Bool
leads table viewer owner number = has_edge table (edge_to number (Id owner) viewer)

at_drop : {X : Type 0} (xs : List X) (n : ℕ) (x : X) → slice_get xs n ≡ Some x → drop n xs ≡ x ∷ drop (n + 1) xs
at_drop [] n x e = cc
at_drop (y ∷ xs) zero x e = let same : y ≡ x = cc in ap (λ z. z ∷ xs) same
at_drop (y ∷ xs) (suc n) x e = let more : suc (n + 1) ≡ suc n + 1 = omega arith in at_drop xs n x e ∙ ap (λ m. x ∷ drop m (y ∷ xs)) more

module _ (f : ℕ → Bool) (types : List TypeDef) (n : ℕ) where
  abbrev rest : List ℕ
  rest = denials_from (n + 1) (drop (n + 1) types)

  module _ (def : TypeDef) (at : slice_get types n ≡ Some def) where
    with : (b : Bool) → def.deny ≡ b → denials_from n (drop n types) ≡ (if b then n ∷ rest else rest)
    with b deny = ap (denials_from n) (at_drop types n def at) ∙ ap (λ c. if c then n ∷ rest else rest) deny

    pub denied_here : def.deny ≡ true → f n ≡ true → list_any f (denials_from n (drop n types)) ≡ true
    denied_here deny there = ap (list_any f) (with true deny) ∙ ap (λ b. b || list_any f rest) there

    pub passed_here : def.deny ≡ true → f n ≡ false → list_any f (denials_from n (drop n types)) ≡ list_any f (denials_from (n + 1) (drop (n + 1) types))
    passed_here deny none = ap (list_any f) (with true deny) ∙ ap (λ b. b || list_any f rest) none

    pub passed_by : def.deny ≡ false → list_any f (denials_from n (drop n types)) ≡ list_any f (denials_from (n + 1) (drop (n + 1) types))
    passed_by deny = ap (list_any f) (with false deny)

  pub none_left : length types ≤ n → list_any f (denials_from n (drop n types)) ≡ false
  none_left out = ap (λ (ts : List TypeDef). list_any f (denials_from n ts)) (drop_all n types out)
