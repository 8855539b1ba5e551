-- Words in the order of their bytes, parted at a word.
use Rattle.std.proofs.Common.{◌≡◌, ℕ, Bool, true, false, not, cond, ◌||◌, List, [], ◌∷◌, ◌++◌, filter, refl, sym, ◌∙◌, ap, subst, All}
use Rattle.std.specs.List.{list_any}
use Rattle.std.specs.List.Sorted.{IsStrictlySortedBy}
use Rattle.std.specs.declared.cmp.Ordering.{Ordering}
use Rattle.std.specs.declared.cmp.Ordering.TheVariants.{Less, Equal, Greater}
use Rattle.std.specs.Ordering.{is_lt, is_eq, nat_cmp, ordering_reverse}
use Rattle.std.specs.Cmp.{tied_itself}
use Rattle.std.specs.Cmp.Lexicographic.{slice_cmp, nat_list_cmp_total}
use Rattle.std.proofs.lemmas.Map.Lookups.{exact_bytes}
use Rattle.std.proofs.lemmas.Map.Keys.{sorted_tail}
use Rattle.std.proofs.lemmas.Map.Views.{All-after_first}
use Rattle.std.proofs.lemmas.List.Elements.{All-head, All-tail}
use Rattle.layer_stack.specs.Words.{is_word_before, is_word_from}

-- whether a word is one
abbrev pub is_word_at : List ℕ → List ℕ → Bool
is_word_at word other = is_eq (slice_cmp nat_cmp word other)

pub is_word_at-same : (word other : List ℕ) → is_word_at word other ≡ true → word ≡ other
is_word_at-same word other e = by (slice_cmp nat_cmp word other) refl e
  where
    by : (o : Ordering) → slice_cmp nat_cmp word other ≡ o → is_eq o ≡ true → word ≡ other
    by Less f h = cc
    by Equal f h = exact_bytes word other f
    by Greater f h = cc

pub before_itself : (word : List ℕ) → is_word_before word word ≡ false
before_itself word = ap is_lt (tied_itself nat_list_cmp_total word)

pub less_before : (a b : List ℕ) → slice_cmp nat_cmp a b ≡ Less → is_word_before a b ≡ true
less_before a b e = ap is_lt e

turned : (a b : List ℕ) (o : Ordering) → slice_cmp nat_cmp a b ≡ o → slice_cmp nat_cmp b a ≡ ordering_reverse o
turned a b o e = nat_list_cmp_total.antisymm b a ∙ ap ordering_reverse e

-- filters by tests that agree at each item
pub filter_alike : {X : Type 0} (p q : X → Bool) (xs : List X) → All (λ x. p x ≡ q x) xs → filter p xs ≡ filter q xs
filter_alike p q [] all = refl
filter_alike {X} p q (x ∷ xs) all =
    let rest = filter_alike p q xs (All-tail (λ (y : X). p y ≡ q y) x xs all) in
    let here = All-head (λ (y : X). p y ≡ q y) x xs all in
    λ i. cond (here i) (x ∷ rest i) (rest i)

pub filter_none : {X : Type 0} (xs : List X) → filter (λ x. false) xs ≡ []
filter_none [] = refl
filter_none (x ∷ xs) = filter_none xs

pub filter_every : {X : Type 0} (xs : List X) → filter (λ x. true) xs ≡ xs
filter_every [] = refl
filter_every {X} (x ∷ xs) = ap (λ (ys : List X). x ∷ ys) (filter_every xs)

module _ (word : List ℕ) where
  abbrev pub comes_before : List ℕ → Bool
  comes_before other = is_word_before other word

  abbrev pub is_not_after : List ℕ → Bool
  is_not_after other = not (is_word_before word other)

  -- a list without the word has as many up to it as before it
  pub up_to-without : (xs : List (List ℕ)) → list_any (is_word_at word) xs ≡ false → filter is_not_after xs ≡ filter comes_before xs
  up_to-without [] none = refl
  up_to-without (x ∷ xs) none = by (slice_cmp nat_cmp word x) refl none (up_to-without xs)
    where
      by : (o : Ordering) → slice_cmp nat_cmp word x ≡ o → (is_eq o || list_any (is_word_at word) xs) ≡ false → (list_any (is_word_at word) xs ≡ false → filter is_not_after xs ≡ filter comes_before xs)
          → cond (not (is_lt o)) (x ∷ filter is_not_after xs) (filter is_not_after xs) ≡ cond (is_word_before x word) (x ∷ filter comes_before xs) (filter comes_before xs)
      by Less e n rest = rest n ∙ ap (λ r. cond (is_lt r) (x ∷ filter comes_before xs) (filter comes_before xs)) (sym (turned word x Less e))
      by Equal e n rest = cc
      by Greater e n rest = ap (λ (ys : List (List ℕ)). x ∷ ys) (rest n) ∙ ap (λ r. cond (is_lt r) (x ∷ filter comes_before xs) (filter comes_before xs)) (sym (turned word x Greater e))

  -- all of a list come after the word
  none_up_to : (xs : List (List ℕ)) → All (λ x. slice_cmp nat_cmp word x ≡ Less) xs → filter is_not_after xs ≡ []
  none_up_to xs all = filter_alike is_not_after (λ x. false) xs (λ k d fits. ap (λ o. not (is_lt o)) (all k d fits)) ∙ filter_none xs

  none_before : (xs : List (List ℕ)) → All (λ x. slice_cmp nat_cmp word x ≡ Less) xs → filter comes_before xs ≡ []
  none_before xs all = filter_alike comes_before (λ x. false) xs (λ k d fits. ap is_lt (turned word _ Less (all k d fits))) ∙ filter_none xs

  none_at : (xs : List (List ℕ)) → All (λ x. slice_cmp nat_cmp word x ≡ Less) xs → list_any (is_word_at word) xs ≡ false
  none_at [] all = refl
  none_at (x ∷ xs) all =
      ap (λ o. is_eq o || list_any (is_word_at word) xs) (All-head (λ (y : List ℕ). slice_cmp nat_cmp word y ≡ Less) x xs all) ∙ none_at xs (All-tail (λ (y : List ℕ). slice_cmp nat_cmp word y ≡ Less) x xs all)

  -- a list with the word has it after what comes before it
  pub up_to-with : (xs : List (List ℕ)) → IsStrictlySortedBy (slice_cmp nat_cmp) xs → list_any (is_word_at word) xs ≡ true → filter is_not_after xs ≡ filter comes_before xs ++ word ∷ []
  up_to-with [] sorted has = cc
  up_to-with (x ∷ xs) sorted has = by (slice_cmp nat_cmp word x) refl has (up_to-with xs (sorted_tail (slice_cmp nat_cmp) x xs sorted))
    where
      after : All (λ y. slice_cmp nat_cmp x y ≡ Less) xs
      after = All-after_first (slice_cmp nat_cmp) x xs sorted

      by : (o : Ordering) → slice_cmp nat_cmp word x ≡ o → (is_eq o || list_any (is_word_at word) xs) ≡ true → (list_any (is_word_at word) xs ≡ true → filter is_not_after xs ≡ filter comes_before xs ++ word ∷ [])
          → cond (not (is_lt o)) (x ∷ filter is_not_after xs) (filter is_not_after xs) ≡ cond (is_word_before x word) (x ∷ filter comes_before xs) (filter comes_before xs) ++ word ∷ []
      by Less e h rest =
          let all : All (λ y. slice_cmp nat_cmp word y ≡ Less) xs = λ k d fits. nat_list_cmp_total.trans word x _ e (after k d fits) in
          let no : true ≡ false = sym h ∙ none_at xs all in absurd cc
      by Equal e h rest =
          let is = exact_bytes word x e in
          let all : All (λ y. slice_cmp nat_cmp word y ≡ Less) xs = subst (λ (w : List ℕ). All (λ y. slice_cmp nat_cmp w y ≡ Less) xs) (sym is) after in
          (λ i. sym is i ∷ none_up_to xs all i)
          ∙ ap (λ (ys : List (List ℕ)). ys ++ word ∷ []) (sym (ap (λ r. cond (is_lt r) (x ∷ filter comes_before xs) (filter comes_before xs)) (turned word x Equal e) ∙ none_before xs all))
      by Greater e h rest =
          ap (λ (ys : List (List ℕ)). x ∷ ys) (rest h)
          ∙ ap (λ (ys : List (List ℕ)). ys ++ word ∷ []) (sym (ap (λ r. cond (is_lt r) (x ∷ filter comes_before xs) (filter comes_before xs)) (turned word x Greater e)))

-- what comes before a place, and a word from there on
pub passed_before : (strict : Bool) (at other word : List ℕ) → is_word_from strict at other ≡ false → is_word_from strict at word ≡ true → is_word_before other word ≡ true
passed_before true at other word p q = by (slice_cmp nat_cmp at other) refl (slice_cmp nat_cmp at word) refl p q
  where
    by : (o : Ordering) → slice_cmp nat_cmp at other ≡ o → (r : Ordering) → slice_cmp nat_cmp at word ≡ r → is_lt o ≡ false → is_lt r ≡ true → is_word_before other word ≡ true
    by Less e r f g h = cc
    by Equal e Less f g h = let is = exact_bytes at other e in ap (λ (w : List ℕ). is_word_before w word) (sym is) ∙ ap is_lt f
    by Equal e Equal f g h = cc
    by Equal e Greater f g h = cc
    by Greater e Less f g h = ap is_lt (nat_list_cmp_total.trans other at word (turned at other Greater e) f)
    by Greater e Equal f g h = cc
    by Greater e Greater f g h = cc
passed_before false at other word p q = by (slice_cmp nat_cmp other at) refl (slice_cmp nat_cmp word at) refl p q
  where
    by : (o : Ordering) → slice_cmp nat_cmp other at ≡ o → (r : Ordering) → slice_cmp nat_cmp word at ≡ r → not (is_lt o) ≡ false → not (is_lt r) ≡ true → is_word_before other word ≡ true
    by Less e Less f g h = cc
    by Less e Equal f g h = let is = exact_bytes word at f in ap (is_word_before other) is ∙ ap is_lt e
    by Less e Greater f g h = ap is_lt (nat_list_cmp_total.trans other at word e (turned word at Greater f))
    by Equal e r f g h = cc
    by Greater e r f g h = cc
