-- Hits of several parts in rank order.
use Rattle.std.proofs.Common.{◌≡◌, ◌+◌, ◌<◌, ◌++◌, ◌||◌, ◌⊎◌, inl, inr, Bool, true, false, if◌then◌else◌, List, [], ◌∷◌, refl, sym, ◌∙◌, ap, subst, arith, length, map, get_or}
use Rattle.std.proofs.lemmas.List.{append-nil, get_or-map, length-map, map-append}
use Rattle.std.proofs.lemmas.List.Sorted.{Contains-permutation, IsPermutation-sym, IsPermutation-map}
use Rattle.std.proofs.lemmas.Map.Keys.{IsDistinct-head, IsDistinct-tail, IsDistinct-IsPermutation}
use Rattle.std.specs.List.{AllByRecursion, Contains, IsDistinct, flat_map, list_any}
use Rattle.std.specs.List.Sorted.{IsPermutation, IsSorted, IsSortedByKey}
use Rattle.std.specs.Ordering.{eq_by_cmp, is_eq, is_lt}
use Rattle.std.specs.declared.cmp.Ordering.{Ordering}
use Rattle.std.specs.declared.cmp.Ordering.TheVariants.{Less, Equal, Greater}
use Rattle.uni_base.specs.declared.entity.DocKey.{DocKey}
use Rattle.uni_base.specs.Cursors.{IsRanked, is_less}
use Rattle.uni_base.specs.KeySets.{has_key}
use Rattle.uni_base.specs.RankOrder.{doc_cmp}
use Rattle.uni_base.proofs.RankedLemmas.{IsBeforeAll, IsBeforeAll-head, IsBeforeAll-tail, is_eq_same, is_eq_self, is_eq_swap}
use Rattle.uni_table.specs.Ranked.{in_rank_order, place}
use Rattle.uni_table.proofs.Listed.{first_is, first_or_later, later_is, none_in_nil}
use Rattle.uni_table.proofs.Sharded.{in_order-is}
use Rattle.lineage_tree.specs.declared.lineage.RawHit.{RawHit}
use Rattle.rack_aggregate.specs.Merged.{AreApart, all_hits, hits_in_rank_order, keys_of, place_hit}

-- ---- the keys of hits in rank order

keys-place : (h : RawHit) (hs : List RawHit) → keys_of (place_hit h hs) ≡ place h.key (keys_of hs)
keys-place h [] = refl
keys-place h (x ∷ xs) = by (is_lt (doc_cmp h.key x.key)) (keys-place h xs)
  where
    by : (b : Bool) → keys_of (place_hit h xs) ≡ place h.key (keys_of xs) → keys_of (if b then h ∷ x ∷ xs else x ∷ place_hit h xs) ≡ (if b then h.key ∷ x.key ∷ keys_of xs else x.key ∷ place h.key (keys_of xs))
    by true later = refl
    by false later = ap (λ (ks : List DocKey). x.key ∷ ks) later

keys-in_rank_order : (hs : List RawHit) → keys_of (hits_in_rank_order hs) ≡ in_rank_order (keys_of hs)
keys-in_rank_order [] = refl
keys-in_rank_order (h ∷ hs) = keys-place h (hits_in_rank_order hs) ∙ ap (place h.key) (keys-in_rank_order hs)

pub keys-all_hits : (parts : List (List RawHit)) → keys_of (all_hits parts) ≡ flat_map keys_of parts
keys-all_hits [] = refl
keys-all_hits (part ∷ parts) = map-append (λ (h : RawHit). h.key) part (all_hits parts) ∙ ap (λ (ks : List DocKey). keys_of part ++ ks) (keys-all_hits parts)

-- in rank order, the keys of all hits are those of the parts
pub merged_keys : (parts : List (List RawHit)) → keys_of (hits_in_rank_order (all_hits parts)) ≡ in_rank_order (flat_map keys_of parts)
merged_keys parts = keys-in_rank_order (all_hits parts) ∙ ap in_rank_order (keys-all_hits parts)

-- ---- which hits they are

placed : (h : RawHit) (hs : List RawHit) (y : RawHit) → Contains (h ∷ hs) y → Contains (place_hit h hs) y
placed h [] y there = there
placed h (x ∷ xs) y there = by (is_lt (doc_cmp h.key x.key)) (placed h xs y)
  where
    later : (Contains (h ∷ xs) y → Contains (place_hit h xs) y) → (x ≡ y) ⊎ Contains xs y → Contains (x ∷ place_hit h xs) y
    later goes (inl same) = subst (Contains (x ∷ place_hit h xs)) same (first_is x (place_hit h xs))
    later goes (inr more) = later_is x (place_hit h xs) y (goes (later_is h xs y more))

    past : (Contains (h ∷ xs) y → Contains (place_hit h xs) y) → (h ≡ y) ⊎ Contains (x ∷ xs) y → Contains (x ∷ place_hit h xs) y
    past goes (inl same) = later_is x (place_hit h xs) y (goes (subst (Contains (h ∷ xs)) same (first_is h xs)))
    past goes (inr rest) = later goes (first_or_later x xs y rest)

    by : (b : Bool) → (Contains (h ∷ xs) y → Contains (place_hit h xs) y) → Contains (if b then h ∷ x ∷ xs else x ∷ place_hit h xs) y
    by true goes = there
    by false goes = past goes (first_or_later h (x ∷ xs) y there)

in_order : (hs : List RawHit) (y : RawHit) → Contains hs y → Contains (hits_in_rank_order hs) y
in_order [] y there = there
in_order (h ∷ hs) y there = placed h (hits_in_rank_order hs) y (by (first_or_later h hs y there) (in_order hs y))
  where
    by : (h ≡ y) ⊎ Contains hs y → (Contains hs y → Contains (hits_in_rank_order hs) y) → Contains (h ∷ hits_in_rank_order hs) y
    by (inl same) goes = subst (Contains (h ∷ hits_in_rank_order hs)) same (first_is h (hits_in_rank_order hs))
    by (inr more) goes = later_is h (hits_in_rank_order hs) y (goes more)

-- ---- hits whose keys differ are told by their keys

differs : (q : DocKey) (xs : List RawHit) → AllByRecursion (λ k. is_eq (doc_cmp q k) ≡ false) (keys_of xs) → (x : RawHit) → Contains xs x → is_eq (doc_cmp q x.key) ≡ false
differs q [] all x there = absurd (none_in_nil x there)
differs q (y ∷ ys) all x there = by (first_or_later y ys x there) (differs q ys all.1 x)
  where
    by : (y ≡ x) ⊎ Contains ys x → (Contains ys x → is_eq (doc_cmp q x.key) ≡ false) → is_eq (doc_cmp q x.key) ≡ false
    by (inl same) goes = subst (λ (h : RawHit). is_eq (doc_cmp q h.key) ≡ false) same all.0
    by (inr more) goes = goes more

same_hits : (xs ys : List RawHit) → IsDistinct (eq_by_cmp doc_cmp) (keys_of xs) → keys_of xs ≡ keys_of ys → ((y : RawHit) → Contains xs y → Contains ys y) → xs ≡ ys
same_hits [] [] apart keys there = refl
same_hits [] (y ∷ ys) apart keys there = absurd cc
same_hits (x ∷ xs) [] apart keys there = absurd (none_in_nil x (there x (first_is x xs)))
same_hits (x ∷ xs) (y ∷ ys) apart keys there = λ i. first i ∷ same_hits xs ys (IsDistinct-tail (eq_by_cmp doc_cmp) x.key (keys_of xs) apart) rest later i
  where
    ends : x.key ≡ y.key
    ends = cc

    rest : keys_of xs ≡ keys_of ys
    rest = cc

    others : AllByRecursion (λ k. is_eq (doc_cmp x.key k) ≡ false) (keys_of xs)
    others = IsDistinct-head (eq_by_cmp doc_cmp) x.key (keys_of xs) apart

    first : x ≡ y
    first = by (first_or_later y ys x (there x (first_is x xs)))
      where
        by : (y ≡ x) ⊎ Contains ys x → x ≡ y
        by (inl same) = sym same
        by (inr more) =
            let other : is_eq (doc_cmp x.key x.key) ≡ false = differs x.key ys (subst (AllByRecursion (λ k. is_eq (doc_cmp x.key k) ≡ false)) rest others) x more in
            let itself = is_eq_self x.key in absurd cc

    later : (z : RawHit) → Contains xs z → Contains ys z
    later z here = by (first_or_later y ys z (there z (later_is x xs z here)))
      where
        by : (y ≡ z) ⊎ Contains ys z → Contains ys z
        by (inl same) =
            let other : is_eq (doc_cmp x.key z.key) ≡ false = differs x.key xs others z here in
            let itself = is_eq_same x.key z.key (ends ∙ ap (λ (h : RawHit). h.key) same) in absurd cc
        by (inr more) = more

-- ---- keys of parts differ

all_append : {X : Type 0} (P : X → Type 0) (xs ys : List X) → AllByRecursion P xs → AllByRecursion P ys → AllByRecursion P (xs ++ ys)
all_append P [] ys first second = second
all_append P (x ∷ xs) ys first second = (first.0, all_append P xs ys first.1 second)

apart_append : (xs ys : List DocKey) → IsDistinct (eq_by_cmp doc_cmp) xs → IsDistinct (eq_by_cmp doc_cmp) ys → AllByRecursion (λ x. AllByRecursion (λ y. is_eq (doc_cmp x y) ≡ false) ys) xs → IsDistinct (eq_by_cmp doc_cmp) (xs ++ ys)
unfolding IsDistinct
apart_append [] ys first second none = second
apart_append (x ∷ xs) ys first second none = (all_append (λ y. is_eq (doc_cmp x y) ≡ false) xs ys first.0 none.0, apart_append xs ys first.1 second none.1)

before_differs : (o : Ordering) → is_less o ≡ true → is_eq o ≡ false
before_differs Less e = refl
before_differs Equal e = cc
before_differs Greater e = refl

after_differ : (k : DocKey) (ks : List DocKey) → IsBeforeAll k ks → AllByRecursion (λ x. is_eq (doc_cmp k x) ≡ false) ks
after_differ k [] all = tt
after_differ k (x ∷ xs) all = (before_differs (doc_cmp k x) (IsBeforeAll-head k x xs all), after_differ k xs (IsBeforeAll-tail k x xs all))

ranked_apart : (ks : List DocKey) → IsRanked ks → IsDistinct (eq_by_cmp doc_cmp) ks
unfolding IsDistinct
ranked_apart [] ranked = tt
ranked_apart (k ∷ ks) ranked = (after_differ k ks ranked.0, ranked_apart ks ranked.1)

neither : (a b : Bool) → (a || b) ≡ false → (a ≡ false) × (b ≡ false)
neither true b e = absurd cc
neither false b e = (refl, e)

none_in : (k : DocKey) (ks : List DocKey) → has_key ks k ≡ false → AllByRecursion (λ x. is_eq (doc_cmp k x) ≡ false) ks
none_in k [] none = tt
none_in k (x ∷ xs) none =
    let both = neither (is_eq (doc_cmp x k)) (has_key xs k) none in (is_eq_swap k x ∙ both.0, none_in k xs both.1)

none_in_parts : (k : DocKey) (parts : List (List RawHit)) → list_any (λ others. has_key others k) (map keys_of parts) ≡ false → AllByRecursion (λ x. is_eq (doc_cmp k x) ≡ false) (flat_map keys_of parts)
none_in_parts k [] none = tt
none_in_parts k (part ∷ parts) none =
    let both = neither (has_key (keys_of part) k) (list_any (λ others. has_key others k) (map keys_of parts)) none in
    all_append (λ x. is_eq (doc_cmp k x) ≡ false) (keys_of part) (flat_map keys_of parts) (none_in k (keys_of part) both.0) (none_in_parts k parts both.1)

each_in_none : (ks : List DocKey) (parts : List (List RawHit)) → AllByRecursion (λ k. list_any (λ others. has_key others k) (map keys_of parts) ≡ false) ks → AllByRecursion (λ k. AllByRecursion (λ x. is_eq (doc_cmp k x) ≡ false) (flat_map keys_of parts)) ks
each_in_none [] parts none = tt
each_in_none (k ∷ ks) parts none = (none_in_parts k parts none.0, each_in_none ks parts none.1)

pub parts_apart : (parts : List (List RawHit)) → AllByRecursion (λ part. IsRanked (keys_of part)) parts → AreApart (map keys_of parts) → IsDistinct (eq_by_cmp doc_cmp) (flat_map keys_of parts)
parts_apart [] ranked apart = ranked_apart [] tt
parts_apart (part ∷ parts) ranked apart =
    apart_append (keys_of part) (flat_map keys_of parts) (ranked_apart (keys_of part) ranked.0) (parts_apart parts ranked.1 apart.1) (each_in_none (keys_of part) parts apart.0)

-- ---- hits that were sorted

keys_sorted : (xs : List RawHit) → IsSortedByKey (λ h. h.key) doc_cmp xs → IsSorted doc_cmp (keys_of xs)
keys_sorted [] up = λ k d low high. absurd (omega (arith, high))
keys_sorted (x ∷ xs) up = λ k d low high.
    let key : RawHit → DocKey = λ h. h.key in
    let within : k + 1 < length (x ∷ xs) = omega (arith, high, length-map (x ∷ xs) key) in
    let here : get_or (keys_of (x ∷ xs)) k d ≡ (get_or (x ∷ xs) k x).key = get_or-map key (x ∷ xs) k x d (omega (arith, within)) in
    let next : get_or (keys_of (x ∷ xs)) (k + 1) d ≡ (get_or (x ∷ xs) (k + 1) x).key = get_or-map key (x ∷ xs) (k + 1) x d within in
    ap (λ (n : DocKey). is_lt (doc_cmp n (get_or (keys_of (x ∷ xs)) k d))) next ∙ ap (λ (h : DocKey). is_lt (doc_cmp (get_or (x ∷ xs) (k + 1) x).key h)) here ∙ up k x low within

-- all hits, once they are sorted by their keys
pub sorted_hits : (parts : List (List RawHit)) (ys : List RawHit) → AllByRecursion (λ part. IsRanked (keys_of part)) parts → AreApart (map keys_of parts)
    → IsPermutation (all_hits parts) ys → IsSortedByKey (λ h. h.key) doc_cmp ys → ys ≡ hits_in_rank_order (all_hits parts)
sorted_hits parts ys ranked apart same up =
    let all = all_hits parts in
    let differ : IsDistinct (eq_by_cmp doc_cmp) (keys_of all) = subst (IsDistinct (eq_by_cmp doc_cmp)) (sym (keys-all_hits parts)) (parts_apart parts ranked apart) in
    let moved : IsPermutation (keys_of all) (keys_of ys) = IsPermutation-map (λ (h : RawHit). h.key) all ys same in
    same_hits ys (hits_in_rank_order all) (IsDistinct-IsPermutation (eq_by_cmp doc_cmp) is_eq_swap (keys_of all) (keys_of ys) moved differ)
    (in_order-is (keys_of all) (keys_of ys) differ moved (keys_sorted ys up) ∙ sym (keys-in_rank_order all))
    (λ y there. in_order all y (Contains-permutation ys all y (IsPermutation-sym all ys same) there))

-- ---- hits that are in order

before_is : (o : Ordering) → is_less o ≡ true → is_lt o ≡ true
before_is Less e = refl
before_is Equal e = cc
before_is Greater e = cc

stays_first : (h : RawHit) (hs : List RawHit) → IsBeforeAll h.key (keys_of hs) → place_hit h hs ≡ h ∷ hs
stays_first h [] all = refl
stays_first h (x ∷ xs) all = ap (λ b. if b then h ∷ x ∷ xs else x ∷ place_hit h xs) (before_is (doc_cmp h.key x.key) (IsBeforeAll-head h.key x.key (keys_of xs) all))

stays : (hs : List RawHit) → IsRanked (keys_of hs) → hits_in_rank_order hs ≡ hs
stays [] ranked = refl
stays (h ∷ hs) ranked = ap (place_hit h) (stays hs ranked.1) ∙ stays_first h hs ranked.0

-- the hits of one part alone
pub alone_hits : (parts : List (List RawHit)) → length parts ≡ 1 → AllByRecursion (λ part. IsRanked (keys_of part)) parts → all_hits parts ≡ hits_in_rank_order (all_hits parts)
alone_hits [] one ranked = absurd (omega (arith, one))
alone_hits (part ∷ []) one ranked = subst (λ (hs : List RawHit). hs ≡ hits_in_rank_order hs) (sym (append-nil part)) (sym (stays part ranked.0))
alone_hits (part ∷ next ∷ parts) one ranked = absurd (omega (arith, one))
