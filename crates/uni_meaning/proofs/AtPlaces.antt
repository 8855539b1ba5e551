-- What is read at the places of lists.
use Rattle.std.proofs.Common.{◌≡◌, ℕ, zero, suc, ◌+◌, Bool, true, false, eqb, ◌&&◌, if◌then◌else◌, List, [], ◌∷◌, ◌++◌, Some, ◌||◌, ◌<◌, refl, sym, ◌∙◌, ap, append_assoc, append-nil, arith, drop, drop-cons, get_or, length, slice_get}
use Rattle.std.specs.List.{flat_map, list_any, range_with_len, starts_with}
use Rattle.uni_schema.specs.declared.schema.TypeDef.{TypeDef}
use Rattle.uni_meaning.specs.Policy.{denials_from}
use Rattle.uni_meaning.specs.Prefixes.{begins_with}

-- an item with what follows it
pub at_drop : {X : Type 0} (xs : List X) (n : ℕ) (x : X) → slice_get xs n ≡ Some x → drop n xs ≡ x ∷ drop (n + 1) xs
at_drop [] n x e = cc
at_drop (y ∷ xs) zero x e = let same : y ≡ x = cc in ap (λ z. z ∷ xs) same
at_drop (y ∷ xs) (suc n) x e = let more : suc (n + 1) ≡ suc n + 1 = omega arith in at_drop xs n x e ∙ ap (λ m. x ∷ drop m (y ∷ xs)) more

-- one type more
pub denials_step : (types : List TypeDef) (n : ℕ) (def : TypeDef) → slice_get types n ≡ Some def
    → denials_from n (drop n types) ≡ (if def.deny then n ∷ denials_from (n + 1) (drop (n + 1) types) else denials_from (n + 1) (drop (n + 1) types))
denials_step types n def e = ap (denials_from n) (at_drop types n def e)

pub begins_is : (from text : List ℕ) → starts_with eqb text from ≡ begins_with from text
begins_is [] text = refl
begins_is (b ∷ bs) [] = refl
begins_is (b ∷ bs) (c ∷ cs) = ap (λ rest. eqb b c && rest) (begins_is bs cs)

module _ {X : Type 0} (p : X → Bool) where
  -- whether some of the items from a place on pass a test, of which the first one does or does not
  pub any_here : (xs : List X) (n : ℕ) (d : X) → n < length xs → p (get_or xs n d) ≡ true → list_any p (drop n xs) ≡ true
  any_here xs n d within passes = ap (list_any p) (drop-cons xs n d within) ∙ ap (λ b. b || list_any p (drop (suc n) xs)) passes

  pub any_past : (xs : List X) (n : ℕ) (d : X) → n < length xs → p (get_or xs n d) ≡ false → list_any p (drop n xs) ≡ list_any p (drop (n + 1) xs)
  any_past xs n d within fails =
      let next : suc n ≡ n + 1 = omega arith in
      ap (list_any p) (drop-cons xs n d within) ∙ ap (λ b. b || list_any p (drop (suc n) xs)) fails ∙ ap (λ m. list_any p (drop m xs)) next

-- the lists of one number more
pub flat_map-range_more : {X : Type 0} (f : ℕ → List X) (a n : ℕ) → flat_map f (range_with_len a (n + 1)) ≡ flat_map f (range_with_len a n) ++ f (a + n)
flat_map-range_more f a zero = let e : a ≡ a + 0 = omega arith in append-nil (f a) ∙ ap f e
flat_map-range_more f a (suc n) =
    let e : (a + 1) + n ≡ a + suc n = omega arith in
    let more : suc n + 1 ≡ suc (n + 1) = omega arith in
    ap (λ m. flat_map f (range_with_len a m)) more ∙ ap (λ ys. f a ++ ys) (flat_map-range_more f (a + 1) n ∙ ap (λ m. flat_map f (range_with_len (a + 1) n) ++ f m) e)
    ∙ sym (append_assoc (f a) (flat_map f (range_with_len (a + 1) n)) (f (a + suc n)))
