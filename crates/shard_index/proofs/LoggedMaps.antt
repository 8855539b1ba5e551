-- What a log's map has at a key, by all rows of the log.
use Rattle.std.proofs.Common.{◌≡◌, Bool, true, false, cond, ◌||◌, List, [], ◌∷◌, ◌++◌, reverse, Option, None, Some, refl, sym, ◌∙◌, ap, subst}
use Rattle.std.proofs.lemmas.List.{reverse-append}
use Rattle.std.specs.Cmp.{IsTotalOrder}
use Rattle.std.specs.declared.cmp.Ordering.{Ordering}
use Rattle.std.specs.declared.cmp.Ordering.TheVariants.{Less, Equal, Greater}
use Rattle.std.specs.FinMap as finite
use Rattle.std.specs.FinMap.Entries.{find}
use Rattle.std.specs.List.{AllByRecursion, list_any}
use Rattle.std.specs.Ordering.{eq_by_cmp, is_eq}
use Rattle.layer_base.specs.Layers.{from_log}

pub equal_of : (o : Ordering) → is_eq o ≡ true → o ≡ Equal
equal_of Less e = cc
equal_of Equal e = refl
equal_of Greater e = cc

all-append : {X : Type 0} (P : X → Type 0) (xs ys : List X) → AllByRecursion P xs → AllByRecursion P ys → AllByRecursion P (xs ++ ys)
all-append P [] ys one other = other
all-append P (x ∷ xs) ys one other = (one.0, all-append P xs ys one.1 other)

pub all-reverse : {X : Type 0} (P : X → Type 0) (xs : List X) → AllByRecursion P xs → AllByRecursion P (reverse xs)
all-reverse P [] all = tt
all-reverse P (x ∷ xs) all = subst (AllByRecursion P) (sym (reverse-append (x ∷ []) xs)) (all-append P (reverse xs) (x ∷ []) (all-reverse P xs all.1) (all.0, tt))

any-append : {X : Type 0} (p : X → Bool) (xs ys : List X) → list_any p (xs ++ ys) ≡ (list_any p xs || list_any p ys)
any-append p [] ys = refl
any-append p (x ∷ xs) ys = elim (p x) as (λ b. (b || list_any p (xs ++ ys)) ≡ ((b || list_any p xs) || list_any p ys)) [ true ↦ refl | false ↦ any-append p xs ys ]

any-reverse : {X : Type 0} (p : X → Bool) (xs : List X) → list_any p (reverse xs) ≡ list_any p xs
any-reverse p [] = refl
any-reverse p (x ∷ xs) = ap (list_any p) (reverse-append (x ∷ []) xs) ∙ any-append p (reverse xs) (x ∷ []) ∙ ap (λ b. b || (p x || false)) (any-reverse p xs) ∙ turned (list_any p xs) (p x)
  where
    turned : (a b : Bool) → (a || (b || false)) ≡ (b || a)
    turned true true = refl
    turned true false = refl
    turned false true = refl
    turned false false = refl

module _ {K X : Type 0} (R : K → K → Ordering) (q : K) (answer : Option X) where
  -- rows at a key all say one thing of it
  abbrev pub Agree : List (K × X) → Type 0
  Agree rows = AllByRecursion (λ row. eq_by_cmp R q row.0 ≡ true → answer ≡ Some row.1) rows

  -- whether a row stands at the key
  abbrev pub stands_there : List (K × X) → Bool
  stands_there rows = list_any (λ row. eq_by_cmp R q row.0) rows

  pub found : (rows : List (K × X)) → Agree rows → (stands_there rows ≡ false → answer ≡ None) → find R q rows ≡ answer
  found [] agree missing = sym (missing refl)
  found (row ∷ rows) agree missing = by (eq_by_cmp R q row.0) refl (found rows agree.1)
    where
      by : (b : Bool) → eq_by_cmp R q row.0 ≡ b → ((stands_there rows ≡ false → answer ≡ None) → find R q rows ≡ answer) → cond b (Some row.1) (find R q rows) ≡ answer
      by true t rest = sym (agree.0 t)
      by false t rest = rest (λ e. missing (ap (λ b. b || stands_there rows) t ∙ e))

  pub logged_is : IsTotalOrder R → (rows : List (K × X)) → Agree rows → (stands_there rows ≡ false → answer ≡ None) → finite.get (from_log {R = R} rows) q ≡ answer
  logged_is o rows agree missing =
      finite.get-from_entries o (reverse rows) q
      ∙ found (reverse rows) (all-reverse (λ row. eq_by_cmp R q row.0 ≡ true → answer ≡ Some row.1) rows agree) (λ e. missing (sym (any-reverse (λ row. eq_by_cmp R q row.0) rows) ∙ e))
