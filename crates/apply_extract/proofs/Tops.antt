-- The first of several lists in rank order need no more than the first of each.
use Rattle.std.proofs.Common.{◌≡◌, ℕ, zero, suc, Bool, true, false, if◌then◌else◌, List, [], ◌∷◌, ◌++◌, take, refl, sym, ◌∙◌, ap, arith}
use Rattle.std.proofs.lemmas.List.{take-take}
use Rattle.std.proofs.lemmas.List.Elements.{All-take}
use Rattle.std.specs.List.{flat_map}
use Rattle.std.specs.Ordering.{is_lt}
use Rattle.std.specs.declared.cmp.Ordering.{Ordering}
use Rattle.std.specs.declared.cmp.Ordering.TheVariants.{Less, Equal, Greater}
use Rattle.uni_base.specs.declared.entity.DocKey.{DocKey}
use Rattle.uni_base.specs.Cursors.{is_before, is_less, IsRanked}
use Rattle.uni_base.specs.RankOrder.{doc_cmp}
use Rattle.uni_base.proofs.RankedLemmas.{IsBeforeAll, IsBeforeAll-head, IsBeforeAll-tail, is_before_trans}
use Rattle.uni_table.specs.Ranked.{in_rank_order, place}

lt_less : (o : Ordering) → is_lt o ≡ is_less o
lt_less Less = refl
lt_less Equal = refl
lt_less Greater = refl

-- a key at its place, by the order of keys
place-cons : (k x : DocKey) (xs : List DocKey) → place k (x ∷ xs) ≡ (if is_before k x then k ∷ x ∷ xs else x ∷ place k xs)
place-cons k x xs = ap (λ b. if b then k ∷ x ∷ xs else x ∷ place k xs) (lt_less (doc_cmp k x))

-- the keys that stay before a key at its place
abbrev front : DocKey → List DocKey → List DocKey
front t [] = []
front t (x ∷ xs) = if is_before t x then [] else x ∷ front t xs

-- a later key does not come among them
front-place : (t k : DocKey) (xs : List DocKey) → is_before t k ≡ true → front t (place k xs) ≡ front t xs
front-place t k [] lt = ap (λ b. if b then [] else k ∷ []) lt
front-place t k (x ∷ xs) lt = ap (front t) (place-cons k x xs) ∙ over (front-place t k xs lt) (is_before k x) refl
  where
    over : front t (place k xs) ≡ front t xs → (b : Bool) → is_before k x ≡ b → front t (if b then k ∷ x ∷ xs else x ∷ place k xs) ≡ front t (x ∷ xs)
    over rest true before =
        ap (λ b. if b then [] else k ∷ front t (x ∷ xs)) lt
        ∙ sym (ap (λ b. if b then [] else x ∷ front t xs) (is_before_trans t k x lt before))
    over rest false before = ap (λ (ys : List DocKey). if is_before t x then [] else x ∷ ys) rest

-- keys at their places, one after the other
abbrev put_all : List DocKey → List DocKey → List DocKey
put_all [] ys = ys
put_all (x ∷ xs) ys = place x (put_all xs ys)

front-put_all : (t : DocKey) (xs ys : List DocKey) → IsBeforeAll t xs → front t (put_all xs ys) ≡ front t ys
front-put_all t [] ys all = refl
front-put_all t (x ∷ xs) ys all = front-place t x (put_all xs ys) (IsBeforeAll-head t x xs all) ∙ front-put_all t xs ys (IsBeforeAll-tail t x xs all)

in_order-append : (xs ys : List DocKey) → in_rank_order (xs ++ ys) ≡ put_all xs (in_rank_order ys)
in_order-append [] ys = refl
in_order-append (x ∷ xs) ys = ap (place x) (in_order-append xs ys)

fewer : (n : ℕ) (xs ys : List DocKey) → take (suc n) xs ≡ take (suc n) ys → take n xs ≡ take n ys
fewer n xs ys same = sym (take-take n (suc n) xs (omega arith)) ∙ ap (take n) same ∙ take-take n (suc n) ys (omega arith)

abbrev first_key : DocKey → List DocKey → DocKey
first_key d [] = d
first_key d (x ∷ xs) = x

abbrev later_keys : List DocKey → List DocKey
later_keys [] = []
later_keys (x ∷ xs) = xs

-- with a key at its place, as many are told by as many
place-same : (n : ℕ) (t : DocKey) (xs ys : List DocKey) → take n xs ≡ take n ys → take n (place t xs) ≡ take n (place t ys)
place-same zero t xs ys same = refl
place-same (suc n) t [] [] same = refl
place-same (suc n) t [] (y ∷ ys) same = absurd cc
place-same (suc n) t (x ∷ xs) [] same = absurd cc
place-same (suc n) t (x ∷ xs) (y ∷ ys) same =
    let head : x ≡ y = ap (first_key x) same in
    let tail : take n xs ≡ take n ys = ap later_keys same in
    ap (take (suc n)) (place-cons t x xs) ∙ over head (place-same n t xs ys tail) (is_before t x) ∙ (λ i. take (suc n) (if is_before t (head i) then t ∷ y ∷ ys else y ∷ place t ys)) ∙ sym (ap (take (suc n)) (place-cons t y ys))
  where
    over : x ≡ y → take n (place t xs) ≡ take n (place t ys) → (b : Bool) → take (suc n) (if b then t ∷ x ∷ xs else x ∷ place t xs) ≡ take (suc n) (if b then t ∷ y ∷ ys else y ∷ place t ys)
    over head rest true = ap (λ (zs : List DocKey). t ∷ zs) (fewer n (x ∷ xs) (y ∷ ys) same)
    over head rest false = λ i. head i ∷ rest i

put_all-same : (n : ℕ) (xs ys zs : List DocKey) → take n ys ≡ take n zs → take n (put_all xs ys) ≡ take n (put_all xs zs)
put_all-same n [] ys zs same = same
put_all-same n (x ∷ xs) ys zs same = place-same n x (put_all xs ys) (put_all xs zs) (put_all-same n xs ys zs same)

-- and one more, where the same keys stay before it
place-more : (n : ℕ) (t : DocKey) (xs ys : List DocKey) → front t xs ≡ front t ys → take n xs ≡ take n ys → take (suc n) (place t xs) ≡ take (suc n) (place t ys)
place-more n t [] [] ahead same = refl
place-more n t [] (y ∷ ys) ahead same = over (is_before t y) refl
  where
    over : (b : Bool) → is_before t y ≡ b → take (suc n) (place t []) ≡ take (suc n) (place t (y ∷ ys))
    over true before = ap (λ (zs : List DocKey). t ∷ zs) same ∙ sym (ap (take (suc n)) (place-cons t y ys ∙ ap (λ b. if b then t ∷ y ∷ ys else y ∷ place t ys) before))
    over false before = let stays : [] ≡ y ∷ front t ys = ahead ∙ ap (λ b. if b then [] else y ∷ front t ys) before in absurd cc
place-more n t (x ∷ xs) [] ahead same = over (is_before t x) refl
  where
    over : (b : Bool) → is_before t x ≡ b → take (suc n) (place t (x ∷ xs)) ≡ take (suc n) (place t [])
    over true before = ap (take (suc n)) (place-cons t x xs ∙ ap (λ b. if b then t ∷ x ∷ xs else x ∷ place t xs) before) ∙ ap (λ (zs : List DocKey). t ∷ zs) same
    over false before = let stays : x ∷ front t xs ≡ [] = sym (ap (λ b. if b then [] else x ∷ front t xs) before) ∙ ahead in absurd cc
place-more n t (x ∷ xs) (y ∷ ys) ahead same =
    ap (take (suc n)) (place-cons t x xs) ∙ over (is_before t x) (is_before t y) ahead (λ m less alike. place-more m t xs ys less alike) ∙ sym (ap (take (suc n)) (place-cons t y ys))
  where
    over : (a b : Bool) → (if a then [] else x ∷ front t xs) ≡ (if b then [] else y ∷ front t ys) → ((m : ℕ) → front t xs ≡ front t ys → take m xs ≡ take m ys → take (suc m) (place t xs) ≡ take (suc m) (place t ys))
        → take (suc n) (if a then t ∷ x ∷ xs else x ∷ place t xs) ≡ take (suc n) (if b then t ∷ y ∷ ys else y ∷ place t ys)
    over true true e goes = ap (λ (zs : List DocKey). t ∷ zs) same
    over true false e goes = absurd cc
    over false true e goes = absurd cc
    over false false e goes = λ i. ap (first_key x) e i ∷ rest n same i
      where
        rest : (m : ℕ) → take m (x ∷ xs) ≡ take m (y ∷ ys) → take m (place t xs) ≡ take m (place t ys)
        rest zero alike = refl
        rest (suc m) alike = goes m (ap later_keys e) (ap later_keys alike)

-- of keys in rank order as many are needed as are wanted
put_all-first : (n : ℕ) (xs ys : List DocKey) → IsRanked xs → take n (put_all (take n xs) ys) ≡ take n (put_all xs ys)
put_all-first zero xs ys rank = refl
put_all-first (suc n) [] ys rank = refl
put_all-first (suc n) (x ∷ xs) ys rank =
    place-more n x (put_all (take n xs) ys) (put_all xs ys)
    (front-put_all x (take n xs) ys (All-take (λ k. is_before x k ≡ true) n xs rank.0) ∙ sym (front-put_all x xs ys rank.0))
    (put_all-first n xs ys rank.1)

pub first_of_first : (n : ℕ) (lists : ℕ → List DocKey) (numbers : List ℕ) → ((number : ℕ) → IsRanked (lists number))
    → take n (in_rank_order (flat_map (λ number. take n (lists number)) numbers)) ≡ take n (in_rank_order (flat_map lists numbers))
first_of_first n lists [] rank = refl
first_of_first n lists (m ∷ numbers) rank =
    ap (take n) (in_order-append (take n (lists m)) (flat_map (λ number. take n (lists number)) numbers))
    ∙ put_all-same n (take n (lists m)) _ _ (first_of_first n lists numbers rank)
    ∙ put_all-first n (lists m) (in_rank_order (flat_map lists numbers)) (rank m)
    ∙ sym (ap (take n) (in_order-append (lists m) (flat_map lists numbers)))
