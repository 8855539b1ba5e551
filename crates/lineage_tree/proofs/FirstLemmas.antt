-- The first list that is accepted whole, among those that a tree stands for.
use Rattle.std.proofs.Common.{◌≡◌, Bool, true, false, ◌&&◌, ◌||◌, cond, List, [], ◌∷◌, ◌++◌, Option, None, Some, refl, sym, ◌∙◌, ap, map, find, unwrap_or, append_assoc}
use Rattle.std.specs.List.{list_any, list_all}
use Rattle.std.specs.Option.{option_map}
use Rattle.std.proofs.lemmas.List.{map-append}
use Rattle.std.proofs.lemmas.List.Folds.{list_any-append, list_all-append}
use Rattle.uni_base.specs.declared.edge.EdgeRef.{EdgeRef}
use Rattle.uni_base.specs.declared.edge.Held.{Held}
use Rattle.lineage_tree.specs.Accepted.{some_accepted, first_accepted, first_or_none, edges_of}
use Rattle.lineage_tree.specs.Lists.{joined}
use Rattle.lineage_tree.proofs.AcceptedLemmas.{some_joined}

module _ {X : Type 0} (p : X → Bool) where
  find_append_some : (xs ys : List X) (x : X) → find p xs ≡ Some x → find p (xs ++ ys) ≡ Some x
  find_append_some [] ys x e = cc
  find_append_some (y ∷ xs) ys x e = by (p y) (find_append_some xs ys x) e
    where
      by : (b : Bool) → (find p xs ≡ Some x → find p (xs ++ ys) ≡ Some x) → cond b (Some y) (find p xs) ≡ Some x → cond b (Some y) (find p (xs ++ ys)) ≡ Some x
      by true later e = e
      by false later e = later e

  find_append_none : (xs ys : List X) → find p xs ≡ None → find p (xs ++ ys) ≡ find p ys
  find_append_none [] ys e = refl
  find_append_none (y ∷ xs) ys e = by (p y) (find_append_none xs ys) e
    where
      by : (b : Bool) → (find p xs ≡ None → find p (xs ++ ys) ≡ find p ys) → cond b (Some y) (find p xs) ≡ None → cond b (Some y) (find p (xs ++ ys)) ≡ find p ys
      by true later e = absurd cc
      by false later e = later e

  found : (d : X) (xs : List X) → list_any p xs ≡ true → find p xs ≡ Some (unwrap_or (find p xs) d)
  found d [] e = cc
  found d (x ∷ xs) e = by (p x) (found d xs) e
    where
      by : (b : Bool) → (list_any p xs ≡ true → find p xs ≡ Some (unwrap_or (find p xs) d)) → (b || list_any p xs) ≡ true → cond b (Some x) (find p xs) ≡ Some (unwrap_or (cond b (Some x) (find p xs)) d)
      by true later e = refl
      by false later e = later e

  not_found : (xs : List X) → list_any p xs ≡ false → find p xs ≡ None
  not_found [] e = refl
  not_found (x ∷ xs) e = by (p x) (not_found xs) e
    where
      by : (b : Bool) → (list_any p xs ≡ false → find p xs ≡ None) → (b || list_any p xs) ≡ false → cond b (Some x) (find p xs) ≡ None
      by true later e = absurd cc
      by false later e = later e

module _ (accepts : Held → Bool) where
  abbrev whole : List Held → Bool
  whole list = list_all accepts list

  -- what is accepted first, where something is, and where nothing is
  pub first_is : (lists : List (List Held)) → some_accepted accepts lists ≡ true → first_accepted accepts lists ≡ Some (first_or_none accepts lists)
  first_is lists some = found whole [] lists some

  pub first_none : (lists : List (List Held)) → some_accepted accepts lists ≡ false → first_accepted accepts lists ≡ None
  first_none lists none = not_found whole lists none

  find_after : (first : List Held) (seconds : List (List Held)) → whole first ≡ true → find whole (map (λ second. first ++ second) seconds) ≡ option_map (λ second. first ++ second) (find whole seconds)
  find_after first [] e = refl
  find_after first (second ∷ seconds) e =
      ap (λ b. cond b (Some (first ++ second)) (find whole (map (λ s. first ++ s) seconds))) (list_all-append accepts first second ∙ ap (λ b. b && whole second) e)
      ∙ by (whole second) (find_after first seconds e)
    where
      by : (b : Bool) → find whole (map (λ s. first ++ s) seconds) ≡ option_map (λ s. first ++ s) (find whole seconds)
          → cond b (Some (first ++ second)) (find whole (map (λ s. first ++ s) seconds)) ≡ option_map (λ s. first ++ s) (cond b (Some second) (find whole seconds))
      by true later = refl
      by false later = later

  find_after_none : (first : List Held) (seconds : List (List Held)) → whole first ≡ false → find whole (map (λ second. first ++ second) seconds) ≡ None
  find_after_none first [] e = refl
  find_after_none first (second ∷ seconds) e =
      ap (λ b. cond b (Some (first ++ second)) (find whole (map (λ s. first ++ s) seconds))) (list_all-append accepts first second ∙ ap (λ b. b && whole second) e) ∙ find_after_none first seconds e

  found_joined : (firsts seconds : List (List Held)) (f s : List Held) → find whole firsts ≡ Some f → find whole seconds ≡ Some s → find whole (joined firsts seconds) ≡ Some (f ++ s)
  found_joined [] seconds f s e g = cc
  found_joined (x ∷ firsts) seconds f s e g = by (whole x) refl (found_joined firsts seconds f s) e
    where
      by : (b : Bool) → whole x ≡ b → (find whole firsts ≡ Some f → find whole seconds ≡ Some s → find whole (joined firsts seconds) ≡ Some (f ++ s)) → cond b (Some x) (find whole firsts) ≡ Some f
          → find whole (joined (x ∷ firsts) seconds) ≡ Some (f ++ s)
      by true w later h =
          let is : x ≡ f = cc in
          find_append_some whole (map (λ t. x ++ t) seconds) (joined firsts seconds) (f ++ s)
          (find_after x seconds w ∙ ap (option_map (λ t. x ++ t)) g ∙ ap (λ (l : List Held). Some (l ++ s)) is)
      by false w later h = find_append_none whole (map (λ t. x ++ t) seconds) (joined firsts seconds) (find_after_none x seconds w) ∙ later h g

  both_true : (a b : Bool) → (a && b) ≡ true → (a ≡ true) × (b ≡ true)
  both_true true b e = (refl, e)
  both_true false b e = absurd cc

  -- a list of every member: the first of each, joined
  module _ (firsts seconds : List (List Held)) (some : some_accepted accepts (joined firsts seconds) ≡ true) where
    halves : (some_accepted accepts firsts ≡ true) × (some_accepted accepts seconds ≡ true)
    halves = both_true (some_accepted accepts firsts) (some_accepted accepts seconds) (sym (some_joined accepts firsts seconds) ∙ some)

    pub head_some : some_accepted accepts firsts ≡ true
    head_some = halves.0

    pub rest_some : some_accepted accepts seconds ≡ true
    rest_some = halves.1

    pub first-joined : first_or_none accepts (joined firsts seconds) ≡ first_or_none accepts firsts ++ first_or_none accepts seconds
    first-joined =
        ap (λ (o : Option (List Held)). unwrap_or o [])
        (found_joined firsts seconds (first_or_none accepts firsts) (first_or_none accepts seconds) (first_is firsts head_some) (first_is seconds rest_some))

  -- a list of some member
  module _ (firsts seconds : List (List Held)) where
    pub first-here : some_accepted accepts firsts ≡ true → first_or_none accepts (firsts ++ seconds) ≡ first_or_none accepts firsts
    first-here some = ap (λ (o : Option (List Held)). unwrap_or o []) (find_append_some whole firsts seconds (first_or_none accepts firsts) (first_is firsts some))

    pub first-later : some_accepted accepts firsts ≡ false → first_or_none accepts (firsts ++ seconds) ≡ first_or_none accepts seconds
    first-later none = ap (λ (o : Option (List Held)). unwrap_or o []) (find_append_none whole firsts seconds (not_found whole firsts none))

    pub some-later : some_accepted accepts firsts ≡ false → some_accepted accepts (firsts ++ seconds) ≡ true → some_accepted accepts seconds ≡ true
    some-later none some = ap (λ b. b || some_accepted accepts seconds) (sym none) ∙ sym (list_any-append whole firsts seconds) ∙ some

  -- an edge
  pub first-edge : (held : Held) → some_accepted accepts ((held ∷ []) ∷ []) ≡ true → first_or_none accepts ((held ∷ []) ∷ []) ≡ held ∷ []
  first-edge held some = by (accepts held) some
    where
      by : (b : Bool) → ((b && true) || false) ≡ true → unwrap_or (cond (b && true) (Some (held ∷ [])) None) [] ≡ held ∷ []
      by true e = refl
      by false e = absurd cc

-- the edges of one list after those of another
pub edges_append : (olds mids news : List EdgeRef) (xs ys zs : List Held) → mids ≡ olds ++ edges_of xs → news ≡ mids ++ edges_of ys → zs ≡ xs ++ ys → news ≡ olds ++ edges_of zs
edges_append olds mids news xs ys zs e f g =
    f ∙ ap (λ (es : List EdgeRef). es ++ edges_of ys) e ∙ append_assoc olds (edges_of xs) (edges_of ys)
    ∙ ap (λ (es : List EdgeRef). olds ++ es) (sym (map-append (λ (held : Held). held.edge) xs ys) ∙ ap edges_of (sym g))
