-- Items by the shards that they concern, one item after another.
use Rattle.std.proofs.Common.{◌≡◌, ◌==◌, ◌<◌, ℕ, zero, suc, ◌+◌, true, false, cond, if◌then◌else◌, List, [], ◌∷◌, ◌++◌, map, filter, take, length, get_or, slice_set, Option, None, Some, refl, sym, ◌∙◌, ap, arith, append-nil}
use Rattle.std.proofs.lemmas.Bool.Decides.{nat_tests}
use Rattle.std.proofs.lemmas.List.{take_more, get_or-map, length-map, map-append}
use Rattle.std.proofs.lemmas.List.Elements.{filter-append}
use Rattle.std.proofs.lemmas.List.FromFn.{length-map-range_with_len, map-range_with_len_more}
use Rattle.std.specs.declared.vec.Vec.{Vec}
use Rattle.std.specs.Global.{Global}
use Rattle.std.specs.List.{range_with_len}
use Rattle.apply_extract.specs.Split.{is_shard, with_item, split_by, lists_of, empty_lists_of}

not_same : (a b : ℕ) → a < b → (a == b) ≡ false
not_same a b below = grind (arith, nat_tests)

itself : (a : ℕ) → (a == a) ≡ true
itself a = grind (arith, nat_tests)

module _ {X : Type 0} (row : ℕ → List X) (x : X) where
  -- a row with one more item, where it is the one
  abbrev more : ℕ → ℕ → List X
  more t k = row k ++ (if t == k then x ∷ [] else [])

  later : (t a n : ℕ) → t < a → map row (range_with_len a n) ≡ map (more t) (range_with_len a n)
  later t a zero below = refl
  later t a (suc n) below = λ i. (sym (append-nil (row a)) ∙ ap (λ b. row a ++ (if b then x ∷ [] else [])) (sym (not_same t a below))) i ∷ later t (a + 1) n (omega (arith, below)) i

  above : (a s t : ℕ) → a + suc s ≡ t → (t == a) ≡ false
  above a s t e = grind (arith, nat_tests)

  set_more : (a n s t : ℕ) → a + s ≡ t → slice_set (map row (range_with_len a n)) s (get_or (map row (range_with_len a n)) s [] ++ x ∷ []) ≡ map (more t) (range_with_len a n)
  set_more a zero s t e = refl
  set_more a (suc n) zero t e =
      let same : a ≡ t = omega (arith, e) in
      λ i. (ap (λ b. row a ++ (if b then x ∷ [] else [])) (sym (ap (λ k. k == a) (sym same) ∙ itself a))) i ∷ later t (a + 1) n (omega (arith, e)) i
  set_more a (suc n) (suc s) t e =
      λ i. (sym (append-nil (row a)) ∙ ap (λ b. row a ++ (if b then x ∷ [] else [])) (sym (above a s t e))) i ∷ set_more (a + 1) n s t (omega (arith, e)) i

  unchanged : (a n : ℕ) → map row (range_with_len a n) ≡ map (λ k. row k ++ []) (range_with_len a n)
  unchanged a zero = refl
  unchanged a (suc n) = λ i. sym (append-nil (row a)) i ∷ unchanged (a + 1) n i

mapped : {X : Type 0} (f g : ℕ → X) (a n : ℕ) → ((k : ℕ) → f k ≡ g k) → map f (range_with_len a n) ≡ map g (range_with_len a n)
mapped f g a zero same = refl
mapped f g a (suc n) same = λ i. same a i ∷ mapped f g (a + 1) n same i

module _ {X : Type 0} (concerns : X → Option ℕ) (shards : ℕ) (xs : List X) (i : ℕ) (x : X) (below : i < length xs) (is : x ≡ get_or xs i x) where
  row : ℕ → List X
  row shard = filter (λ y. is_shard shard (concerns y)) (take i xs)

  one_more : (shard : ℕ) → filter (λ y. is_shard shard (concerns y)) (take (i + 1) xs) ≡ filter (λ y. is_shard shard (concerns y)) (take i xs) ++ cond (is_shard shard (concerns x)) (x ∷ []) []
  one_more shard =
      ap (filter (λ y. is_shard shard (concerns y))) (take_more xs i x below ∙ ap (λ y. take i xs ++ y ∷ []) (sym is)) ∙ filter-append (λ y. is_shard shard (concerns y)) (take i xs) (x ∷ [])

  pub split_more : with_item (split_by concerns shards (take i xs)) (concerns x) x ≡ split_by concerns shards (take (i + 1) xs)
  split_more = by (concerns x) refl
    where
      by : (o : Option ℕ) → concerns x ≡ o → with_item (split_by concerns shards (take i xs)) o x ≡ split_by concerns shards (take (i + 1) xs)
      by None e =
          unchanged (λ shard. filter (λ y. is_shard shard (concerns y)) (take i xs)) x 0 shards
          ∙ mapped (λ k. filter (λ y. is_shard k (concerns y)) (take i xs) ++ []) (λ k. filter (λ y. is_shard k (concerns y)) (take (i + 1) xs)) 0 shards
          (λ k. sym (one_more k ∙ ap (λ o. filter (λ y. is_shard k (concerns y)) (take i xs) ++ cond (is_shard k o) (x ∷ []) []) e))
      by (Some n) e =
          set_more (λ shard. filter (λ y. is_shard shard (concerns y)) (take i xs)) x 0 shards n n (omega arith)
          ∙ mapped (λ k. filter (λ y. is_shard k (concerns y)) (take i xs) ++ (if n == k then x ∷ [] else [])) (λ k. filter (λ y. is_shard k (concerns y)) (take (i + 1) xs)) 0 shards
          (λ k. sym (one_more k ∙ ap (λ o. filter (λ y. is_shard k (concerns y)) (take i xs) ++ cond (is_shard k o) (x ∷ []) []) e))

pub length-split : {X : Type 0} (concerns : X → Option ℕ) (shards : ℕ) (xs : List X) → length (split_by concerns shards xs) ≡ shards
length-split concerns shards xs = length-map-range_with_len (λ shard. filter (λ x. is_shard shard (concerns x)) xs) 0 shards

-- ---- lists that are kept in vectors

abbrev empty_list : (X : Type 0) → List X
empty_list X = []

set_list : {X : Type 0} (vectors : List (Vec X Global)) (n : ℕ) (v : Vec X Global) → lists_of (slice_set vectors n v) ≡ slice_set (lists_of vectors) n v.items
set_list [] n v = refl
set_list (x ∷ vectors) zero v = refl
set_list (x ∷ vectors) (suc n) v = ap (λ ls. x.items ∷ ls) (set_list vectors n v)

-- a vector stands for its list
pub list_is : {X : Type 0} (vectors : List (Vec X Global)) (k : ℕ) (v : Vec X Global) → k < length vectors → v ≡ get_or vectors k v → (d : List X) → v.items ≡ get_or (lists_of vectors) k d
list_is vectors k v below is d = ap (λ (w : Vec _ Global). w.items) is ∙ sym (get_or-map (λ (w : Vec _ Global). w.items) vectors k v d below)

-- one more empty list
pub empty_more : {X : Type 0} (vectors : List (Vec X Global)) (v : Vec X Global) (n : ℕ) → lists_of vectors ≡ empty_lists_of n → v.items ≡ [] → lists_of (vectors ++ v ∷ []) ≡ empty_lists_of (n + 1)
empty_more {X} vectors v n so_far none =
    let first : 0 + n ≡ n = omega arith in
    map-append (λ (w : Vec X Global). w.items) vectors (v ∷ []) ∙ (λ i. so_far i ++ none i ∷ []) ∙ sym (map-range_with_len_more (λ (k : ℕ). empty_list X) 0 n n first)

-- one more item in a list
pub pushed : {X : Type 0} (vectors : List (Vec X Global)) (n : ℕ) (old new : Vec X Global) (x : X) → n < length vectors → old ≡ get_or vectors n old → new.items ≡ old.items ++ x ∷ []
    → lists_of (slice_set vectors n new) ≡ with_item (lists_of vectors) (Some n) x
pushed vectors n old new x below is added = set_list vectors n new ∙ ap (slice_set (lists_of vectors) n) (added ∙ ap (λ ys. ys ++ x ∷ []) (list_is vectors n old below is []))

-- as many lists as shards
module _ {X : Type 0} (vectors : List (Vec X Global)) (concerns : X → Option ℕ) (shards : ℕ) (xs : List X) (split : lists_of vectors ≡ split_by concerns shards xs) where
  pub as_many : length vectors ≡ shards
  as_many = sym (length-map vectors (λ (v : Vec X Global). v.items)) ∙ ap length split ∙ length-split concerns shards xs
