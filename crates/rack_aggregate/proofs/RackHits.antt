-- The first hits of racks, and of all shards.
use Rattle.std.proofs.Common.{◌≡◌, ◌+◌, ◌-◌, ◌*◌, ◌≤◌, ◌<◌, ◌++◌, ◌||◌, ℕ, zero, suc, Bool, true, false, if◌then◌else◌, List, [], ◌∷◌, refl, sym, ◌∙◌, ap, subst, arith, length, length-append, map, min, take}
use Rattle.std.proofs.lemmas.List.{append-nil, append_assoc, map-append, take-map}
use Rattle.std.specs.List.{AllByRecursion, IsDistinct, flat_map, list_any}
use Rattle.std.specs.Ordering.{eq_by_cmp, is_eq, is_lt}
use Rattle.std.specs.declared.cmp.Ordering.{Ordering}
use Rattle.std.specs.declared.cmp.Ordering.TheVariants.{Less, Equal, Greater}
use Rattle.std.specs.declared.result.Result.{Result}
use Rattle.std.specs.declared.result.Result.TheVariants.{Ok}
use Rattle.uni_base.specs.declared.entity.DocKey.{DocKey}
use Rattle.uni_base.specs.Cursors.{IsRanked, is_before, is_less}
use Rattle.uni_base.specs.KeySets.{has_key}
use Rattle.uni_base.specs.RankOrder.{doc_cmp}
use Rattle.uni_base.proofs.RankedLemmas.{has_key-append, is_eq_self}
use Rattle.lineage_tree.specs.declared.lineage.RawHit.{RawHit}
use Rattle.rack_aggregate.specs.Merged.{AreApart, all_hits, hits_in_rank_order, keys_of, place_hit}
use Rattle.rack_aggregate.specs.Racks.{AreFirstOf, AreRacks, CanMerge, GivesRack, ShareNone, rack_size}
use Rattle.rack_aggregate.specs.Runs.{GivesRun}
use Rattle.rack_aggregate.proofs.FirstHits.{all-ordered, first_again, ordered, ordered-ranked, put, ranked-take}
use Rattle.rack_aggregate.proofs.Merging.{keys-all_hits, merged_keys, parts_apart}
use Rattle.rack_aggregate.proofs.Runs.{run_append}

-- ---- hits in rank order, by their keys

abbrev key_of : RawHit → DocKey
key_of h = h.key

lt_less : (o : Ordering) → is_lt o ≡ is_less o
lt_less Less = refl
lt_less Equal = refl
lt_less Greater = refl

place_hit-is : (h : RawHit) (hs : List RawHit) → place_hit h hs ≡ put key_of h hs
place_hit-is h [] = refl
place_hit-is h (x ∷ xs) = λ i. if lt_less (doc_cmp h.key x.key) i then h ∷ x ∷ xs else x ∷ place_hit-is h xs i

in_order-is : (hs : List RawHit) → hits_in_rank_order hs ≡ ordered key_of hs
in_order-is [] = refl
in_order-is (h ∷ hs) = place_hit-is h (hits_in_rank_order hs) ∙ ap (put key_of h) (in_order-is hs)

all_hits-append : (xs ys : List (List RawHit)) → all_hits (xs ++ ys) ≡ all_hits xs ++ all_hits ys
all_hits-append [] ys = refl
all_hits-append (part ∷ parts) ys = ap (λ (hs : List RawHit). part ++ hs) (all_hits-append parts ys) ∙ sym (append_assoc part (all_hits parts) (all_hits ys))

-- ---- a key that no hit has, none of the first has

all_absent : (k : DocKey) (ks : List DocKey) → has_key ks k ≡ false → AllByRecursion (λ x. is_eq (doc_cmp x k) ≡ false) ks
all_absent k [] none = tt
all_absent k (x ∷ xs) none = by (is_eq (doc_cmp x k)) refl none (all_absent k xs)
  where
    by : (b : Bool) → is_eq (doc_cmp x k) ≡ b → (b || has_key xs k) ≡ false → (has_key xs k ≡ false → AllByRecursion (λ y. is_eq (doc_cmp y k) ≡ false) xs) → AllByRecursion (λ y. is_eq (doc_cmp y k) ≡ false) (x ∷ xs)
    by true here e later = absurd cc
    by false here e later = (here, later e)

take_absent : (k : DocKey) (n : ℕ) (ks : List DocKey) → AllByRecursion (λ x. is_eq (doc_cmp x k) ≡ false) ks → has_key (take n ks) k ≡ false
take_absent k zero ks none = refl
take_absent k (suc n) [] none = refl
take_absent k (suc n) (x ∷ xs) none = ap (λ b. b || has_key (take n xs) k) none.0 ∙ take_absent k n xs none.1

none_first : (k : DocKey) (n : ℕ) (hs : List RawHit) → has_key (keys_of hs) k ≡ false → has_key (keys_of (take n (hits_in_rank_order hs))) k ≡ false
none_first k n hs none =
    ap (λ (l : List RawHit). has_key (keys_of (take n l)) k) (in_order-is hs)
    ∙ ap (λ ks. has_key ks k) (sym (take-map key_of n (ordered key_of hs)))
    ∙ take_absent k n (map key_of (ordered key_of hs)) (all-ordered key_of (λ x. is_eq (doc_cmp x k) ≡ false) hs (all_absent k (keys_of hs) none))

in_first : (k : DocKey) (n : ℕ) (hs : List RawHit) → has_key (keys_of (take n (hits_in_rank_order hs))) k ≡ true → has_key (keys_of hs) k ≡ true
in_first k n hs there = by (has_key (keys_of hs) k) refl
  where
    by : (b : Bool) → has_key (keys_of hs) k ≡ b → has_key (keys_of hs) k ≡ true
    by true e = e
    by false e = absurd (let none = none_first k n hs e in cc)

-- ---- what a run of shards has

keys-append : (part : List RawHit) (parts : List (List RawHit)) (k : DocKey) → has_key (keys_of (all_hits (part ∷ parts))) k ≡ (has_key (keys_of part) k || has_key (keys_of (all_hits parts)) k)
keys-append part parts k = ap (λ ks. has_key ks k) (map-append key_of part (all_hits parts)) ∙ has_key-append (keys_of part) (keys_of (all_hits parts)) k

module _ {E : Type 0} (post : ℕ → Result (List RawHit) E → Type 0) where
  -- a shard of a run has a key
  record HasIn (from count : ℕ) (k : DocKey) : Type 0 where
    shard : ℕ
    hits : List RawHit
    low : from ≤ shard
    high : shard < from + count
    gives : post shard (Ok hits)
    has : has_key (keys_of hits) k ≡ true

  -- none of them has it
  abbrev NoneIn : ℕ → ℕ → DocKey → Type 0
  NoneIn from count k = (j : ℕ) (ys : List RawHit) → from ≤ j → j < from + count → post j (Ok ys) → has_key (keys_of ys) k ≡ false

  has_in : (k : DocKey) (from : ℕ) (parts : List (List RawHit)) → GivesRun post from parts → has_key (keys_of (all_hits parts)) k ≡ true → HasIn from (length parts) k
  has_in k from [] given there = absurd cc
  has_in k from (part ∷ parts) given there = by (has_key (keys_of part) k) refl (has_in k (from + 1) parts given.1)
    where
      by : (b : Bool) → has_key (keys_of part) k ≡ b → (has_key (keys_of (all_hits parts)) k ≡ true → HasIn (from + 1) (length parts) k) → HasIn from (length (part ∷ parts)) k
      by true here goes = record { shard = from; hits = part; low = omega arith; high = omega arith; gives = given.0; has = here }
      by false here goes =
          let later = goes (ap (λ b. b || has_key (keys_of (all_hits parts)) k) (sym here) ∙ sym (keys-append part parts k) ∙ there) in
          record { shard = later.shard; hits = later.hits; low = omega (arith, later.low); high = omega (arith, later.high); gives = later.gives; has = later.has }

  none_in : (k : DocKey) (from : ℕ) (parts : List (List RawHit)) → GivesRun post from parts → NoneIn from (length parts) k → has_key (keys_of (all_hits parts)) k ≡ false
  none_in k from [] given none = refl
  none_in k from (part ∷ parts) given none =
      keys-append part parts k
      ∙ ap (λ b. b || has_key (keys_of (all_hits parts)) k) (none from part (omega arith) (omega arith) given.0)
      ∙ none_in k (from + 1) parts given.1 (λ j ys low high gives. none j ys (omega (arith, low)) (omega (arith, high)) gives)

  none_listed : (k : DocKey) (from : ℕ) (parts : List (List RawHit)) → GivesRun post from parts → NoneIn from (length parts) k → list_any (λ others. has_key others k) (map keys_of parts) ≡ false
  none_listed k from [] given none = refl
  none_listed k from (part ∷ parts) given none =
      ap (λ b. b || list_any (λ others. has_key others k) (map keys_of parts)) (none from part (omega arith) (omega arith) given.0)
      ∙ none_listed k (from + 1) parts given.1 (λ j ys low high gives. none j ys (omega (arith, low)) (omega (arith, high)) gives)

  -- ---- so it can be merged

  pub narrower : (low count from few : ℕ) → low ≤ from → from + few ≤ low + count → CanMerge post low count → CanMerge post from few
  narrower low count from few after within can = record {
    ranked = λ i hits above below gives. can.ranked i hits (omega (arith, after, above)) (omega (arith, within, below)) gives;
    apart = λ i j xs ys above less below first second. can.apart i j xs ys (omega (arith, after, above)) less (omega (arith, within, below)) first second;
  }

  pub run_ranked : (from count : ℕ) (parts : List (List RawHit)) → length parts ≡ count → CanMerge post from count → GivesRun post from parts → AllByRecursion (λ part. IsRanked (keys_of part)) parts
  run_ranked from count [] all can given = tt
  run_ranked from count (part ∷ parts) all can given = (
    can.ranked from part (omega arith) (omega (arith, all)) given.0,
    run_ranked (from + 1) (length parts) parts refl (narrower from count (from + 1) (length parts) (omega arith) (omega (arith, all)) can) given.1,
  )

  pub run_apart : (from count : ℕ) (parts : List (List RawHit)) → length parts ≡ count → CanMerge post from count → GivesRun post from parts → AreApart (map keys_of parts)
  run_apart from count [] all can given = tt
  run_apart from count (part ∷ parts) all can given = (
    each (keys_of part) (λ k there. none_listed k (from + 1) parts given.1 (λ j ys above below gives. can.apart from j part ys (omega arith) (omega (arith, above)) (omega (arith, all, below)) given.0 gives k there)),
    run_apart (from + 1) (length parts) parts refl (narrower from count (from + 1) (length parts) (omega arith) (omega (arith, all)) can) given.1,
  )
    where
      each : (ks : List DocKey) → ((k : DocKey) → has_key ks k ≡ true → list_any (λ others. has_key others k) (map keys_of parts) ≡ false) → AllByRecursion (λ k. list_any (λ others. has_key others k) (map keys_of parts) ≡ false) ks
      each [] none = tt
      each (x ∷ xs) none = (
        none x (ap (λ b. b || has_key xs x) (is_eq_self x)),
        each xs (λ k there. none k (by k (is_eq (doc_cmp x k)) there)),
      )
        where
          by : (k : DocKey) (b : Bool) → has_key xs k ≡ true → (b || has_key xs k) ≡ true
          by k true there = refl
          by k false there = there

  run_distinct : (from count : ℕ) (parts : List (List RawHit)) → length parts ≡ count → CanMerge post from count → GivesRun post from parts → IsDistinct (eq_by_cmp doc_cmp) (map key_of (all_hits parts))
  run_distinct from count parts all can given =
      subst (IsDistinct (eq_by_cmp doc_cmp)) (sym (keys-all_hits parts)) (parts_apart parts (run_ranked from count parts all can given) (run_apart from count parts all can given))

  -- what merging gives
  pub merged_first : (from count limit : ℕ) (parts : List (List RawHit)) (hits : List RawHit) → length parts ≡ count → GivesRun post from parts → hits ≡ take limit (hits_in_rank_order (all_hits parts)) → AreFirstOf post from count limit hits
  merged_first from count limit parts hits all given first = record {
    parts = parts;
    all = all;
    given = given;
    first = first;
    keys = ap keys_of first ∙ sym (take-map key_of limit (hits_in_rank_order (all_hits parts))) ∙ ap (take limit) (merged_keys parts);
  }

  -- one run after another, which may have nothing
  run_past : (from middle : ℕ) (xs ys : List (List RawHit)) → (0 < length ys → from + length xs ≡ middle) → GivesRun post from xs → GivesRun post middle ys → GivesRun post from (xs ++ ys)
  run_past from middle xs [] long first second = subst (GivesRun post from) (sym (append-nil xs)) first
  run_past from middle xs (y ∷ ys) long first second = run_append post from middle xs (y ∷ ys) (long (omega arith)) first second

  module _ (shards limit : ℕ) (can : CanMerge post 0 shards) where
    rack_can : (rack racks : ℕ) → AreRacks shards racks → rack < racks → CanMerge post (rack * 8) (rack_size shards rack)
    rack_can rack racks are below = narrower 0 shards (rack * 8) (rack_size shards rack) (omega arith) (omega (arith, are.full, below)) can

    -- ---- racks can be merged

    pub racks_can : (racks : ℕ) → AreRacks shards racks → CanMerge (GivesRack post shards limit) 0 racks
    racks_can racks are = record {
      ranked = λ rack hits low high first.
          subst (λ (hs : List RawHit). IsRanked (keys_of hs)) (sym (first.first ∙ ap (take limit) (in_order-is (all_hits first.parts))))
          (subst IsRanked (take-map key_of limit (ordered key_of (all_hits first.parts)))
          (ranked-take limit (map key_of (ordered key_of (all_hits first.parts)))
          (ordered-ranked key_of (all_hits first.parts) (run_distinct (rack * 8) (rack_size shards rack) first.parts first.all (rack_can rack racks are (omega (arith, high))) first.given))));
      apart = λ i j xs ys low less high first second k there.
          let here = has_in k (i * 8) first.parts first.given (in_first k limit (all_hits first.parts) (subst (λ (hs : List RawHit). has_key (keys_of hs) k ≡ true) first.first there)) in
          subst (λ (hs : List RawHit). has_key (keys_of hs) k ≡ false) (sym second.first)
          (none_first k limit (all_hits second.parts)
          (none_in k (j * 8) second.parts second.given
          (λ n zs above below gives.
          can.apart here.shard n here.hits zs (omega arith) (omega (arith, here.high, first.all, less, above)) (omega (arith, below, second.all, are.full, high)) here.gives gives k here.has)));
    }

    -- ---- and the first of them are the first of all shards

    record Joined (rack : ℕ) (racks : List (List RawHit)) : Type 0 where
      parts : List (List RawHit)
      all : length parts ≡ shards - rack * 8
      given : GivesRun post (rack * 8) parts
      same : take limit (ordered key_of (all_hits racks)) ≡ take limit (ordered key_of (all_hits parts))

    joined : (count rack : ℕ) (racks : List (List RawHit)) → AreRacks shards count → rack + length racks ≡ count → GivesRun (GivesRack post shards limit) rack racks → Joined rack racks
    joined count rack [] are long given = record { parts = []; all = omega (arith, are.hold, long); given = tt; same = refl }
    joined count rack (hits ∷ racks) are long given =
        let first : AreFirstOf post (rack * 8) (rack_size shards rack) limit hits = given.0 in
        let later = joined count (rack + 1) racks are (omega (arith, long)) given.1 in
        record {
          parts = first.parts ++ later.parts;
          all = length-append first.parts later.parts ∙ omega (arith, first.all, later.all);
          given = run_past (rack * 8) ((rack + 1) * 8) first.parts later.parts (λ some. omega (arith, some, first.all, later.all)) first.given later.given;
          same =
              ap (λ (hs : List RawHit). take limit (ordered key_of (hs ++ all_hits racks))) (first.first ∙ ap (take limit) (in_order-is (all_hits first.parts)))
              ∙ first_again key_of limit (all_hits first.parts) (all_hits racks) (all_hits later.parts) (run_distinct (rack * 8) (rack_size shards rack) first.parts first.all (rack_can rack count are (omega (arith, long))) first.given) later.same
              ∙ ap (λ (hs : List RawHit). take limit (ordered key_of hs)) (sym (all_hits-append first.parts later.parts));
        }

    pub racks_first : (racks : List (List RawHit)) (hits : List RawHit) → AreRacks shards (length racks) → GivesRun (GivesRack post shards limit) 0 racks → hits ≡ take limit (hits_in_rank_order (all_hits racks)) → AreFirstOf post 0 shards limit hits
    racks_first racks hits are given first =
        let all = joined (length racks) 0 racks are (omega arith) given in
        merged_first 0 shards limit all.parts hits (omega (arith, all.all)) all.given
        (first ∙ ap (take limit) (in_order-is (all_hits racks)) ∙ all.same ∙ ap (take limit) (sym (in_order-is (all_hits all.parts))))
