-- Values with keys in rank order, and the first of them: of several lists no more is needed than the first of
-- each.
use Rattle.std.proofs.Common.{◌≡◌, ℕ, zero, suc, Bool, true, false, if◌then◌else◌, List, [], ◌∷◌, ◌++◌, map, take, refl, sym, ◌∙◌, ap, subst, arith}
use Rattle.std.proofs.lemmas.List.{take-map, take-take}
use Rattle.std.proofs.lemmas.List.Elements.{All-nil, All-take, All-weaker}
use Rattle.std.specs.List.{AllByRecursion, IsDistinct}
use Rattle.std.specs.Ordering.{eq_by_cmp, is_eq}
use Rattle.uni_base.specs.declared.entity.DocKey.{DocKey}
use Rattle.uni_base.specs.Cursors.{is_before, IsRanked}
use Rattle.uni_base.specs.RankOrder.{doc_cmp}
use Rattle.uni_base.proofs.RankedLemmas.{IsBeforeAll, IsBeforeAll-cons, IsBeforeAll-head, IsBeforeAll-tail, Standing, standing, before, same, after, is_before_back, is_before_trans, is_eq_self}

-- the first of keys in rank order are in rank order
pub ranked-take : (n : ℕ) (ks : List DocKey) → IsRanked ks → IsRanked (take n ks)
ranked-take zero ks rank = tt
ranked-take (suc n) [] rank = tt
ranked-take (suc n) (k ∷ ks) rank = (All-take (λ x. is_before k x ≡ true) n ks rank.0, ranked-take n ks rank.1)

-- a key differs from each of a list
abbrev Differs : DocKey → List DocKey → Type 0
Differs k ks = AllByRecursion (λ x. is_eq (doc_cmp k x) ≡ false) ks

module _ {X : Type 0} (key : X → DocKey) where
  -- a value at its place, before the first that comes after it
  abbrev pub put : X → List X → List X
  put h [] = h ∷ []
  put h (x ∷ xs) = if is_before (key h) (key x) then h ∷ x ∷ xs else x ∷ put h xs

  -- values at their places among others, the last of them first
  abbrev pub put_all : List X → List X → List X
  put_all [] ys = ys
  put_all (x ∷ xs) ys = put x (put_all xs ys)

  -- values in rank order
  abbrev pub ordered : List X → List X
  ordered xs = put_all xs []

  put_all-append : (xs ys zs : List X) → put_all (xs ++ ys) zs ≡ put_all xs (put_all ys zs)
  put_all-append [] ys zs = refl
  put_all-append (x ∷ xs) ys zs = ap (put x) (put_all-append xs ys zs)

  -- ---- as many values are told by as many

  -- the values that stay before a value at its place
  abbrev front : X → List X → List X
  front t [] = []
  front t (x ∷ xs) = if is_before (key t) (key x) then [] else x ∷ front t xs

  -- a later value does not come among them
  front-put : (t k : X) (xs : List X) → is_before (key t) (key k) ≡ true → front t (put k xs) ≡ front t xs
  front-put t k [] lt = ap (λ b. if b then [] else k ∷ []) lt
  front-put t k (x ∷ xs) lt = over (front-put t k xs lt) (is_before (key k) (key x)) refl
    where
      over : front t (put k xs) ≡ front t xs → (b : Bool) → is_before (key k) (key x) ≡ b → front t (if b then k ∷ x ∷ xs else x ∷ put k xs) ≡ front t (x ∷ xs)
      over rest true less =
          ap (λ b. if b then [] else k ∷ front t (x ∷ xs)) lt
          ∙ sym (ap (λ b. if b then [] else x ∷ front t xs) (is_before_trans (key t) (key k) (key x) lt less))
      over rest false less = ap (λ (ys : List X). if is_before (key t) (key x) then [] else x ∷ ys) rest

  front-put_all : (t : X) (xs ys : List X) → IsBeforeAll (key t) (map key xs) → front t (put_all xs ys) ≡ front t ys
  front-put_all t [] ys all = refl
  front-put_all t (x ∷ xs) ys all =
      front-put t x (put_all xs ys) (IsBeforeAll-head (key t) (key x) (map key xs) all) ∙ front-put_all t xs ys (IsBeforeAll-tail (key t) (key x) (map key xs) all)

  fewer : (n : ℕ) (xs ys : List X) → take (suc n) xs ≡ take (suc n) ys → take n xs ≡ take n ys
  fewer n xs ys alike = sym (take-take n (suc n) xs (omega arith)) ∙ ap (take n) alike ∙ take-take n (suc n) ys (omega arith)

  abbrev first_value : X → List X → X
  first_value d [] = d
  first_value d (x ∷ xs) = x

  abbrev later_values : List X → List X
  later_values [] = []
  later_values (x ∷ xs) = xs

  put-same : (n : ℕ) (t : X) (xs ys : List X) → take n xs ≡ take n ys → take n (put t xs) ≡ take n (put t ys)
  put-same zero t xs ys alike = refl
  put-same (suc n) t [] [] alike = refl
  put-same (suc n) t [] (y ∷ ys) alike = absurd cc
  put-same (suc n) t (x ∷ xs) [] alike = absurd cc
  put-same (suc n) t (x ∷ xs) (y ∷ ys) alike =
      let head : x ≡ y = ap (first_value x) alike in
      let tail : take n xs ≡ take n ys = ap later_values alike in
      over head (put-same n t xs ys tail) (is_before (key t) (key x)) ∙ (λ i. take (suc n) (if is_before (key t) (key (head i)) then t ∷ y ∷ ys else y ∷ put t ys))
    where
      over : x ≡ y → take n (put t xs) ≡ take n (put t ys) → (b : Bool) → take (suc n) (if b then t ∷ x ∷ xs else x ∷ put t xs) ≡ take (suc n) (if b then t ∷ y ∷ ys else y ∷ put t ys)
      over head rest true = ap (λ (zs : List X). t ∷ zs) (fewer n (x ∷ xs) (y ∷ ys) alike)
      over head rest false = λ i. head i ∷ rest i

  put_all-same : (n : ℕ) (xs ys zs : List X) → take n ys ≡ take n zs → take n (put_all xs ys) ≡ take n (put_all xs zs)
  put_all-same n [] ys zs alike = alike
  put_all-same n (x ∷ xs) ys zs alike = put-same n x (put_all xs ys) (put_all xs zs) (put_all-same n xs ys zs alike)

  -- and one more, where the same values stay before it
  put-more : (n : ℕ) (t : X) (xs ys : List X) → front t xs ≡ front t ys → take n xs ≡ take n ys → take (suc n) (put t xs) ≡ take (suc n) (put t ys)
  put-more n t [] [] ahead alike = refl
  put-more n t [] (y ∷ ys) ahead alike = over (is_before (key t) (key y)) refl
    where
      over : (b : Bool) → is_before (key t) (key y) ≡ b → take (suc n) (put t []) ≡ take (suc n) (put t (y ∷ ys))
      over true less = ap (λ (zs : List X). t ∷ zs) alike ∙ sym (ap (take (suc n)) (ap (λ b. if b then t ∷ y ∷ ys else y ∷ put t ys) less))
      over false less = let stays : [] ≡ y ∷ front t ys = ahead ∙ ap (λ b. if b then [] else y ∷ front t ys) less in absurd cc
  put-more n t (x ∷ xs) [] ahead alike = over (is_before (key t) (key x)) refl
    where
      over : (b : Bool) → is_before (key t) (key x) ≡ b → take (suc n) (put t (x ∷ xs)) ≡ take (suc n) (put t [])
      over true less = ap (take (suc n)) (ap (λ b. if b then t ∷ x ∷ xs else x ∷ put t xs) less) ∙ ap (λ (zs : List X). t ∷ zs) alike
      over false less = let stays : x ∷ front t xs ≡ [] = sym (ap (λ b. if b then [] else x ∷ front t xs) less) ∙ ahead in absurd cc
  put-more n t (x ∷ xs) (y ∷ ys) ahead alike = over (is_before (key t) (key x)) (is_before (key t) (key y)) ahead (λ m less few. put-more m t xs ys less few)
    where
      over : (a b : Bool) → (if a then [] else x ∷ front t xs) ≡ (if b then [] else y ∷ front t ys) → ((m : ℕ) → front t xs ≡ front t ys → take m xs ≡ take m ys → take (suc m) (put t xs) ≡ take (suc m) (put t ys))
          → take (suc n) (if a then t ∷ x ∷ xs else x ∷ put t xs) ≡ take (suc n) (if b then t ∷ y ∷ ys else y ∷ put t ys)
      over true true e goes = ap (λ (zs : List X). t ∷ zs) alike
      over true false e goes = absurd cc
      over false true e goes = absurd cc
      over false false e goes = λ i. ap (first_value x) e i ∷ rest n alike i
        where
          rest : (m : ℕ) → take m (x ∷ xs) ≡ take m (y ∷ ys) → take m (put t xs) ≡ take m (put t ys)
          rest zero few = refl
          rest (suc m) few = goes m (ap later_values e) (ap later_values few)

  -- of values in rank order as many are needed as are wanted
  pub put_all-first : (n : ℕ) (xs ys : List X) → IsRanked (map key xs) → take n (put_all (take n xs) ys) ≡ take n (put_all xs ys)
  put_all-first zero xs ys rank = refl
  put_all-first (suc n) [] ys rank = refl
  put_all-first (suc n) (x ∷ xs) ys rank =
      put-more n x (put_all (take n xs) ys) (put_all xs ys)
      (front-put_all x (take n xs) ys (subst (IsBeforeAll (key x)) (take-map key n xs) (All-take (λ k. is_before (key x) k ≡ true) n (map key xs) rank.0)) ∙ sym (front-put_all x xs ys rank.0))
      (put_all-first n xs ys rank.1)

  -- the first of two lists, the second of which is told as far
  pub first_of_both : (n : ℕ) (xs ys zs : List X) → IsRanked (map key xs) → take n (ordered ys) ≡ take n (ordered zs) → take n (ordered (take n xs ++ ys)) ≡ take n (ordered (xs ++ zs))
  first_of_both n xs ys zs rank alike =
      ap (take n) (put_all-append (take n xs) ys [])
      ∙ put_all-same n (take n xs) (ordered ys) (ordered zs) alike
      ∙ put_all-first n xs (ordered zs) rank
      ∙ sym (ap (take n) (put_all-append xs zs []))

  -- ---- the order in which values with other keys come to their places does not matter

  put-swap : (a b : X) (zs : List X) → is_before (key a) (key b) ≡ true → put a (put b zs) ≡ put b (put a zs)
  put-swap a b [] less =
      ap (λ c. if c then a ∷ b ∷ [] else b ∷ a ∷ []) less ∙ sym (ap (λ c. if c then b ∷ a ∷ [] else a ∷ b ∷ []) (is_before_back (key a) (key b) less))
  put-swap a b (z ∷ zs) less = over (is_before (key b) (key z)) (is_before (key a) (key z)) refl refl (put-swap a b zs less)
    where
      over : (c d : Bool) → is_before (key b) (key z) ≡ c → is_before (key a) (key z) ≡ d → put a (put b zs) ≡ put b (put a zs)
          → put a (if c then b ∷ z ∷ zs else z ∷ put b zs) ≡ put b (if d then a ∷ z ∷ zs else z ∷ put a zs)
      over true true e f rest =
          ap (λ x. if x then a ∷ b ∷ z ∷ zs else b ∷ put a (z ∷ zs)) less
          ∙ sym (ap (λ x. if x then b ∷ a ∷ z ∷ zs else a ∷ put b (z ∷ zs)) (is_before_back (key a) (key b) less)
          ∙ ap (λ x. a ∷ (if x then b ∷ z ∷ zs else z ∷ put b zs)) e)
      over true false e f rest = absurd (let through = is_before_trans (key a) (key b) (key z) less e in cc)
      over false true e f rest =
          ap (λ x. if x then a ∷ z ∷ put b zs else z ∷ put a (put b zs)) f
          ∙ sym (ap (λ x. if x then b ∷ a ∷ z ∷ zs else a ∷ put b (z ∷ zs)) (is_before_back (key a) (key b) less)
          ∙ ap (λ x. a ∷ (if x then b ∷ z ∷ zs else z ∷ put b zs)) e)
      over false false e f rest =
          ap (λ x. if x then a ∷ z ∷ put b zs else z ∷ put a (put b zs)) f
          ∙ ap (λ (l : List X). z ∷ l) rest
          ∙ sym (ap (λ x. if x then b ∷ z ∷ put a zs else z ∷ put b (put a zs)) e)

  put-apart : (a b : X) (zs : List X) → is_eq (doc_cmp (key a) (key b)) ≡ false → put a (put b zs) ≡ put b (put a zs)
  put-apart a b zs other = by (standing (key a) (key b))
    where
      by : Standing (key a) (key b) → put a (put b zs) ≡ put b (put a zs)
      by (before less _ _ _) = put-swap a b zs less
      by (same e) = absurd (let own = subst (λ (k : DocKey). is_eq (doc_cmp (key a) k) ≡ true) e (is_eq_self (key a)) in cc)
      by (after more _ _ _) = sym (put-swap b a zs more)

  put_all-put : (x : X) (ys zs : List X) → Differs (key x) (map key ys) → put_all (put x ys) zs ≡ put x (put_all ys zs)
  put_all-put x [] zs other = refl
  put_all-put x (y ∷ ys) zs other = over (is_before (key x) (key y)) (put_all-put x ys zs other.1)
    where
      over : (b : Bool) → put_all (put x ys) zs ≡ put x (put_all ys zs) → put_all (if b then x ∷ y ∷ ys else y ∷ put x ys) zs ≡ put x (put_all (y ∷ ys) zs)
      over true rest = refl
      over false rest = ap (put y) rest ∙ sym (put-apart x y (put_all ys zs) other.0)

  -- what is true of the keys of values is true at their places
  module _ (P : DocKey → Type 0) where
    all-put : (x : X) (ys : List X) → P (key x) → AllByRecursion P (map key ys) → AllByRecursion P (map key (put x ys))
    all-put x [] here all = (here, tt)
    all-put x (y ∷ ys) here all = over (is_before (key x) (key y)) (all-put x ys here all.1)
      where
        over : (b : Bool) → AllByRecursion P (map key (put x ys)) → AllByRecursion P (map key (if b then x ∷ y ∷ ys else y ∷ put x ys))
        over true rest = (here, all)
        over false rest = (all.0, rest)

    pub all-ordered : (xs : List X) → AllByRecursion P (map key xs) → AllByRecursion P (map key (ordered xs))
    all-ordered [] all = tt
    all-ordered (x ∷ xs) all = all-put x (ordered xs) all.0 (all-ordered xs all.1)

  ordered-again : (xs zs : List X) → IsDistinct (eq_by_cmp doc_cmp) (map key xs) → put_all (ordered xs) zs ≡ put_all xs zs
  unfolding IsDistinct
  ordered-again [] zs apart = refl
  ordered-again (x ∷ xs) zs apart =
      put_all-put x (ordered xs) zs (all-ordered (λ k. is_eq (doc_cmp (key x) k) ≡ false) xs apart.0) ∙ ap (put x) (ordered-again xs zs apart.1)

  -- ---- values with other keys in rank order

  before-put : (k : DocKey) (x : X) (ys : List X) → is_before k (key x) ≡ true → IsBeforeAll k (map key ys) → IsBeforeAll k (map key (put x ys))
  before-put k x [] here all = IsBeforeAll-cons k (key x) [] here all
  before-put k x (y ∷ ys) here all = over (is_before (key x) (key y)) (before-put k x ys here (IsBeforeAll-tail k (key y) (map key ys) all))
    where
      over : (b : Bool) → IsBeforeAll k (map key (put x ys)) → IsBeforeAll k (map key (if b then x ∷ y ∷ ys else y ∷ put x ys))
      over true rest = IsBeforeAll-cons k (key x) (map key (y ∷ ys)) here all
      over false rest = IsBeforeAll-cons k (key y) (map key (put x ys)) (IsBeforeAll-head k (key y) (map key ys) all) rest

  ranked-put : (x : X) (ys : List X) → Differs (key x) (map key ys) → IsRanked (map key ys) → IsRanked (map key (put x ys))
  ranked-put x [] other rank = (All-nil (λ k. is_before (key x) k ≡ true), tt)
  ranked-put x (y ∷ ys) other rank = over (is_before (key x) (key y)) refl (ranked-put x ys other.1 rank.1)
    where
      behind : is_before (key x) (key y) ≡ false → Standing (key x) (key y) → is_before (key y) (key x) ≡ true
      behind less (before e _ _ _) = absurd cc
      behind less (same e) = absurd (let own = subst (λ (k : DocKey). is_eq (doc_cmp (key x) k) ≡ true) e (is_eq_self (key x)) in let none = other.0 in cc)
      behind less (after e _ _ _) = e

      over : (b : Bool) → is_before (key x) (key y) ≡ b → IsRanked (map key (put x ys)) → IsRanked (map key (if b then x ∷ y ∷ ys else y ∷ put x ys))
      over true less rest = (
        IsBeforeAll-cons (key x) (key y) (map key ys) less (All-weaker (λ k. is_before (key y) k ≡ true) (λ k. is_before (key x) k ≡ true) (λ k later. is_before_trans (key x) (key y) k less later) (map key ys) rank.0),
        rank,
      )
      over false less rest = (before-put (key y) x ys (behind less (standing (key x) (key y))) rank.0, rest)

  pub ordered-ranked : (xs : List X) → IsDistinct (eq_by_cmp doc_cmp) (map key xs) → IsRanked (map key (ordered xs))
  unfolding IsDistinct
  ordered-ranked [] apart = tt
  ordered-ranked (x ∷ xs) apart = ranked-put x (ordered xs) (all-ordered (λ k. is_eq (doc_cmp (key x) k) ≡ false) xs apart.0) (ordered-ranked xs apart.1)

  -- the first of some values, whose first alone are looked at again with others
  pub first_again : (n : ℕ) (xs ys zs : List X) → IsDistinct (eq_by_cmp doc_cmp) (map key xs) → take n (ordered ys) ≡ take n (ordered zs)
      → take n (ordered (take n (ordered xs) ++ ys)) ≡ take n (ordered (xs ++ zs))
  first_again n xs ys zs apart alike =
      first_of_both n (ordered xs) ys zs (ordered-ranked xs apart) alike
      ∙ ap (take n) (put_all-append (ordered xs) zs [] ∙ ordered-again xs (ordered zs) apart ∙ sym (put_all-append xs zs []))
