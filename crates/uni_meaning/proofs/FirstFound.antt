-- How an entity stands under several of which one is enough.
use Rattle.std.proofs.Common.{◌≡◌, ◌||◌, Bool, true, false, if◌then◌else◌, List, [], ◌∷◌, ◌++◌, Option, None, Some, refl, sym, ◌∙◌, ap, map}
use Rattle.std.specs.List.{Contains, list_any}
use Rattle.std.specs.Option.{option_or}
use Rattle.uni_base.specs.declared.edge.EdgeRef.{EdgeRef}
use Rattle.uni_table.proofs.Listed.{first_is, later_is}
use Rattle.uni_meaning.specs.Firsts.{first_given}
use Rattle.uni_meaning.specs.Standings.{either, first_of, is_found, is_shown, shown_as}
use Rattle.uni_meaning.specs.declared.standing.Standing.{Standing}
use Rattle.uni_meaning.specs.declared.standing.Standing.TheVariants.{Missed, Hidden, Shown}
use Rattle.uni_meaning.proofs.Combined.{either_assoc, either_missed}

-- one more at the end
pub first_of-push : (ss : List Standing) (s : Standing) → first_of (ss ++ s ∷ []) ≡ either (first_of ss) s
first_of-push [] s = either_missed s
first_of-push (a ∷ ss) s = ap (either a) (first_of-push ss s) ∙ either_assoc a (first_of ss) s

-- what is found takes the place of what is not shown
pub either_unshown : (a s : Standing) → is_shown a ≡ false → is_found s ≡ true → either a s ≡ s
either_unshown Missed s h f = refl
either_unshown Hidden Missed h f = cc
either_unshown Hidden Hidden h f = refl
either_unshown Hidden (Shown edges) h f = refl
either_unshown (Shown edges) s h f = cc

-- what is shown stays
pub either_shown : (a s : Standing) → is_shown a ≡ true → either a s ≡ a
either_shown Missed s h = cc
either_shown Hidden s h = cc
either_shown (Shown edges) s h = refl

-- one standing again and again is that one
pub either_same : (s : Standing) → either s s ≡ s
either_same Missed = refl
either_same Hidden = refl
either_same (Shown edges) = refl

hidden_first : (o : Option (List EdgeRef)) → either Hidden (shown_as o) ≡ shown_as o
hidden_first None = refl
hidden_first (Some edges) = refl

module _ {X : Type 0} (p : X → Bool) (g : X → Option (List EdgeRef)) (none : (x : X) → p x ≡ false → g x ≡ None) where
  -- where no item passes, nothing is given
  none_given : (xs : List X) → list_any p xs ≡ false → first_given g xs ≡ None
  none_given [] e = refl
  none_given (x ∷ xs) e = by (p x) refl e (none_given xs)
    where
      by : (b : Bool) → p x ≡ b → (b || list_any p xs) ≡ false → (list_any p xs ≡ false → first_given g xs ≡ None) → option_or (g x) (first_given g xs) ≡ None
      by true f h rest = cc
      by false f h rest = ap (λ o. option_or o (first_given g xs)) (none x f) ∙ rest h

  -- of the items that pass, the first that is given something tells what is shown
  pub first_of-given : (xs : List X) → first_of (map (λ x. if p x then shown_as (g x) else Missed) xs) ≡ (if list_any p xs then shown_as (first_given g xs) else Missed)
  first_of-given [] = refl
  first_of-given (x ∷ xs) = by (p x) refl (first_of-given xs)
    where
      rest : Standing
      rest = first_of (map (λ y. if p y then shown_as (g y) else Missed) xs)

      whole : Bool → Standing
      whole b = if b then shown_as (first_given g xs) else Missed

      found : (o : Option (List EdgeRef)) (b : Bool) → list_any p xs ≡ b → rest ≡ whole b → either (shown_as o) rest ≡ shown_as (option_or o (first_given g xs))
      found (Some edges) b e h = refl
      found None true e h = ap (either Hidden) h ∙ hidden_first (first_given g xs)
      found None false e h = ap (either Hidden) h ∙ ap shown_as (sym (none_given xs e))

      by : (b : Bool) → p x ≡ b → rest ≡ whole (list_any p xs) → either (if b then shown_as (g x) else Missed) rest ≡ (if b || list_any p xs then shown_as (option_or (g x) (first_given g xs)) else Missed)
      by true f h = found (g x) (list_any p xs) refl h
      by false f h = h ∙ ap (λ (o : Option (List EdgeRef)). if list_any p xs then shown_as (option_or o (first_given g xs)) else Missed) (sym (none x f))

-- where those that pass stand in one way, so it stands under all of them
module _ {X : Type 0} (p : X → Bool) (s : X → Standing) (one : Standing) where
  pub first_of-one : (xs : List X) → ((x : X) → Contains xs x → p x ≡ true → s x ≡ one) → first_of (map (λ x. if p x then s x else Missed) xs) ≡ (if list_any p xs then one else Missed)
  first_of-one [] same = refl
  first_of-one (x ∷ xs) same = by (p x) refl (first_of-one xs (λ y h. same y (later_is x xs y h)))
    where
      rest : Standing
      rest = first_of (map (λ y. if p y then s y else Missed) xs)

      again : (b : Bool) → rest ≡ (if b then one else Missed) → either one rest ≡ one
      again true h = ap (either one) h ∙ either_same one
      again false h = ap (either one) h ∙ either_missed one

      by : (b : Bool) → p x ≡ b → rest ≡ (if list_any p xs then one else Missed) → either (if b then s x else Missed) rest ≡ (if b || list_any p xs then one else Missed)
      by true f h = ap (λ t. either t rest) (same x (first_is x xs) f) ∙ again (list_any p xs) h
      by false f h = h
