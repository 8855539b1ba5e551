-- Items that are added to a list, part by part.
use Rattle.std.proofs.Common.{◌≡◌, ◌++◌, ◌&&◌, ◌||◌, not, Bool, true, false, List, [], ◌∷◌, cond, refl, sym, ◌∙◌, ap, subst, map, filter, append-nil, append_assoc, Result}
use Rattle.std.proofs.lemmas.Bool.{and_parts}
use Rattle.std.proofs.lemmas.List.{map-append}
use Rattle.std.proofs.lemmas.List.Sorted.{IsPermutation-refl, IsPermutation-trans, IsPermutation-append, IsPermutation-filter_both, IsPermutation-map}
use Rattle.std.specs.List.{list_all}
use Rattle.std.specs.List.Sorted.{IsPermutation}
use Rattle.std.specs.Result.{IfOk}
use Rattle.std.specs.declared.result.Result.TheVariants.{Ok, Err}
use Rattle.uni_table.specs.Added.{Adds}

module _ {X : Type 0} where
  -- a filter that agrees with another on what passes a test leaves the same
  pub filter-agree : (all p q : X → Bool) → ((x : X) → all x ≡ true → p x ≡ q x) → (xs : List X) → list_all all xs ≡ true → filter p xs ≡ filter q xs
  filter-agree all p q agree [] each = refl
  filter-agree all p q agree (x ∷ xs) each =
      let parts = and_parts (all x) (list_all all xs) each in
      rw (agree x parts.0) (ap (λ (ys : List X). cond (q x) (x ∷ ys) ys) (filter-agree all p q agree xs parts.1))

  -- one that agrees everywhere does
  pub filter-same : (p q : X → Bool) → ((x : X) → p x ≡ q x) → (xs : List X) → filter p xs ≡ filter q xs
  filter-same p q agree [] = refl
  filter-same p q agree (x ∷ xs) = rw (agree x) (ap (λ (ys : List X). cond (q x) (x ∷ ys) ys) (filter-same p q agree xs))

  -- a filter of what a filter leaves
  pub filter-twice : (p q : X → Bool) (xs : List X) → filter p (filter q xs) ≡ filter (λ x. q x && p x) xs
  filter-twice p q [] = refl
  filter-twice p q (x ∷ xs) =
      elim (q x) as (λ b. filter p (cond b (x ∷ filter q xs) (filter q xs)) ≡ cond (b && p x) (x ∷ filter (λ y. q y && p y) xs) (filter (λ y. q y && p y) xs)) [
        | true ↦ ap (λ ys. cond (p x) (x ∷ ys) ys) (filter-twice p q xs)
        | false ↦ filter-twice p q xs
      ]

  -- where nothing passes, nothing is left
  pub filter-none : (p : X → Bool) → ((x : X) → p x ≡ false) → (xs : List X) → filter p xs ≡ []
  filter-none p none [] = refl
  filter-none p none (x ∷ xs) = rw (none x) (filter-none p none xs)

  -- what passes one of two tests that no item passes both of
  pub either-apart : (p q r : X → Bool) → ((x : X) → p x ≡ true → q x ≡ false) → ((x : X) → r x ≡ (p x || q x)) → (xs : List X) → IsPermutation (filter r xs) (filter p xs ++ filter q xs)
  either-apart p q r apart both xs =
      subst (IsPermutation (filter r xs)) (λ i. ones i ++ others i) (IsPermutation-filter_both p (λ x. not (p x)) (λ x. refl) (filter r xs))
    where
      first : (x : X) (a b : Bool) → r x ≡ (a || b) → (r x && a) ≡ a
      first x true b e = rw e refl
      first x false b e = by (r x)
        where
          by : (c : Bool) → (c && false) ≡ false
          by true = refl
          by false = refl

      second : (x : X) (a b : Bool) → r x ≡ (a || b) → (a ≡ true → b ≡ false) → (r x && not a) ≡ b
      second x true b e far = rw (e, far refl) refl
      second x false true e far = rw e refl
      second x false false e far = rw e refl

      ones : filter p (filter r xs) ≡ filter p xs
      ones = filter-twice p r xs ∙ filter-same (λ x. r x && p x) p (λ x. first x (p x) (q x) (both x)) xs

      others : filter (λ x. not (p x)) (filter r xs) ≡ filter q xs
      others = filter-twice (λ x. not (p x)) r xs ∙ filter-same (λ x. r x && not (p x)) q (λ x. second x (p x) (q x) (both x) (apart x)) xs

  -- nothing is added
  pub adds_none : (xs : List X) → Adds xs xs []
  adds_none xs = record { added = []; is = sym (append-nil xs); same = IsPermutation-refl [] }

  -- some items are added, then others
  pub adds_both : (a b c xs ys : List X) → Adds a b xs → Adds b c ys → Adds a c (xs ++ ys)
  adds_both a b c xs ys f g = record {
    added = f.added ++ g.added;
    is = g.is ∙ ap (λ (zs : List X). zs ++ g.added) f.is ∙ append_assoc a f.added g.added;
    same = IsPermutation-append xs f.added ys g.added f.same g.same;
  }

  -- the same items in another order
  pub adds_in_order : (a b xs ys : List X) → IsPermutation ys xs → Adds a b xs → Adds a b ys
  adds_in_order a b xs ys other f = record { added = f.added; is = f.is; same = IsPermutation-trans ys xs f.added other f.same }

module _ {X Y : Type 0} (f : X → Y) where
  -- what f makes of the items that pass one of two tests which no item passes both of
  pub adds_either : (p q r : X → Bool) → ((x : X) → p x ≡ true → q x ≡ false) → ((x : X) → r x ≡ (p x || q x)) → (xs : List X) (a b c : List Y)
      → Adds a b (map f (filter p xs)) → Adds b c (map f (filter q xs)) → Adds a c (map f (filter r xs))
  adds_either p q r apart both xs a b c one other =
      adds_in_order a c (map f (filter p xs) ++ map f (filter q xs)) (map f (filter r xs))
      (subst (IsPermutation (map f (filter r xs))) (map-append f (filter p xs) (filter q xs)) (IsPermutation-map f (filter r xs) (filter p xs ++ filter q xs) (either-apart p q r apart both xs)))
      (adds_both a b c (map f (filter p xs)) (map f (filter q xs)) one other)

-- what is added to nothing is all there is
pub adds_all : {X : Type 0} (new items : List X) → Adds [] new items → IsPermutation items new
adds_all new items f = subst (IsPermutation items) (sym f.is) f.same

-- what follows from two facts on an answer's value
pub ok_both : {X E : Type 0} (r : Result X E) (P Q R : X → Type 0) → ((x : X) → P x → Q x → R x) → IfOk r P → IfOk r Q → IfOk r R
ok_both (Ok x) P Q R both p q = both x p q
ok_both (Err e) P Q R both p q = tt
