-- The hits of a plan among the entities of its vertical, and its cut.
use Rattle.std.proofs.Common.{◌≡◌, ◌++◌, ◌+◌, ◌<◌, ◌≤◌, ◌||◌, ◌==◌, ◌⊎◌, inl, inr, ℕ, zero, suc, Bool, true, false, cond, if◌then◌else◌, List, [], ◌∷◌, Option, None, Some, refl, sym, ◌∙◌, ap, subst, arith, length, map, filter, take, get_or}
use Rattle.std.proofs.lemmas.List.{get_or-map, length-map, take-map}
use Rattle.std.proofs.lemmas.List.Elements.{All-head, All-tail, All-cons}
use Rattle.std.proofs.lemmas.List.Folds.{list_any-append}
use Rattle.std.proofs.lemmas.List.Sorted.{IsPermutation-map, All-permutation}
use Rattle.std.proofs.lemmas.Map.Keys.{IsDistinct-from_sorted}
use Rattle.std.specs.List.{All, AllByRecursion, Contains, IsDistinct, flat_map, list_all, list_any, range_with_len}
use Rattle.std.specs.List.Sorted.{IsPermutation, IsSorted, IsSortedByKey}
use Rattle.std.specs.Ordering.{eq_by_cmp, is_eq, is_lt}
use Rattle.uni_base.specs.RankOrder.{doc_cmp}
use Rattle.uni_base.specs.Walks.{Walker, walked}
use Rattle.uni_base.specs.declared.edge.EdgeRef.{EdgeRef}
use Rattle.uni_base.specs.declared.edge.Key.TheVariants.{Id, Word}
use Rattle.uni_base.specs.declared.entity.DocKey.{DocKey}
use Rattle.uni_base.specs.declared.limits.Limits.{Limits}
use Rattle.uni_base.proofs.RankedLemmas.{is_eq_same, same_from_is_eq}
use Rattle.uni_schema.specs.Schema.{shard_of}
use Rattle.uni_table.specs.Ranked.{in_rank_order, ranked, ranked_all}
use Rattle.uni_table.specs.TableState.{IsKept}
use Rattle.uni_table.proofs.Exact.{ranked_is_exact}
use Rattle.uni_table.proofs.Listed.{none_in_nil, first_or_later, first_is, later_is}
use Rattle.uni_table.proofs.Sharded.{in_order-is, shards_part}
use Rattle.query_tree.specs.declared.kind.ListKind.{ListKind}
use Rattle.query_tree.specs.declared.kind.ListKind.TheVariants.{And, Or, Difference, WeakAnd, StrongOr}
use Rattle.query_check.specs.Plan.{Plan, term_plan, prefix_plan, list_plan, join_plan}
use Rattle.uni_meaning.specs.Firsts.{first_shown}
use Rattle.uni_meaning.specs.Hits.{cut, first_alone, first_vertical, hits, is_among, is_hit, kept_by, leads_to, operands, shards_of, target_of, vertical_of}
use Rattle.uni_meaning.specs.Prefixes.{prefix_keys}
use Rattle.uni_meaning.specs.Standings.{found_members, is_found, member_of, members_of, places_of, shown_as, shown_of, standings_of}
use Rattle.uni_meaning.specs.Viewed.{Viewed}
use Rattle.uni_meaning.specs.declared.cut.Member.{Member}
use Rattle.uni_meaning.specs.declared.place.Place.{Place}
use Rattle.uni_meaning.specs.declared.standing.Standing.{Standing}
use Rattle.uni_meaning.specs.declared.standing.Standing.TheVariants.{Missed}
use Rattle.uni_meaning.proofs.Arrivals.{any_from, found_by}
use Rattle.uni_meaning.proofs.Members.{listed_by}
use Rattle.uni_meaning.proofs.Prefixed.{agreed, among_left}
use Rattle.uni_meaning.proofs.Typed.{in_its_shard}
use Rattle.uni_meaning.proofs.WalkStandings.{AllApart, doc_keeps, doc_none, doc_step, doc_walk, walk_within}

-- what is not found is none of the items
none_of : {X : Type 0} (p : X → Bool) (xs : List X) → list_any p xs ≡ false → AllByRecursion (λ y. p y ≡ false) xs
none_of p [] e = tt
none_of p (x ∷ xs) e = by (p x) refl e (none_of p xs)
  where
    by : (b : Bool) → p x ≡ b → (b || list_any p xs) ≡ false → (list_any p xs ≡ false → AllByRecursion (λ y. p y ≡ false) xs) → AllByRecursion (λ y. p y ≡ false) (x ∷ xs)
    by true f h rest = cc
    by false f h rest = (f, rest h)

none_from : {X : Type 0} (p : X → Bool) (xs : List X) → AllByRecursion (λ y. p y ≡ false) xs → list_any p xs ≡ false
none_from p [] all = refl
none_from p (x ∷ xs) all = ap (λ b. b || list_any p xs) all.0 ∙ none_from p xs all.1

distinct_from : (ks : List DocKey) → AllApart ks → IsDistinct (eq_by_cmp doc_cmp) ks
unfolding IsDistinct
distinct_from [] apart = tt
distinct_from (k ∷ ks) apart = (none_of (λ y. is_eq (doc_cmp k y)) ks apart.0, distinct_from ks apart.1)

apart_from : (ks : List DocKey) → IsDistinct (eq_by_cmp doc_cmp) ks → AllApart ks
unfolding IsDistinct
apart_from [] apart = tt
apart_from (k ∷ ks) apart = (none_from (λ y. is_eq (doc_cmp k y)) ks apart.0, apart_from ks apart.1)

-- of entities that differ, those that pass a test do
none_left : (p : DocKey → Bool) (k : DocKey) (ks : List DocKey) → is_among ks k ≡ false → is_among (filter p ks) k ≡ false
none_left p k [] e = refl
none_left p k (x ∷ ks) e = by (p x) (is_eq (doc_cmp k x)) refl e (none_left p k ks)
  where
    by : (b c : Bool) → is_eq (doc_cmp k x) ≡ c → (c || is_among ks k) ≡ false → (is_among ks k ≡ false → is_among (filter p ks) k ≡ false) → is_among (cond b (x ∷ filter p ks) (filter p ks)) k ≡ false
    by b true f h rest = cc
    by true false f h rest = ap (λ d. d || is_among (filter p ks) k) f ∙ rest h
    by false false f h rest = rest h

left_apart : (p : DocKey → Bool) (ks : List DocKey) → AllApart ks → AllApart (filter p ks)
left_apart p [] apart = tt
left_apart p (k ∷ ks) apart = by (p k) (left_apart p ks apart.1)
  where
    by : (b : Bool) → AllApart (filter p ks) → AllApart (cond b (k ∷ filter p ks) (filter p ks))
    by true rest = (none_left p k ks apart.0, rest)
    by false rest = rest

-- those that are among what a walk keeps are what it keeps
walk_kept : (kind : ListKind) (kept : ℕ) (os : List (Walker DocKey)) (xs : List DocKey) → AllApart xs → filter (is_among (doc_walk kind kept os xs)) xs ≡ doc_walk kind kept os xs
walk_kept kind kept os [] apart = sym (doc_none kind kept os)
walk_kept kind kept os (x ∷ xs) apart =
    ap (λ (ks : List DocKey). filter (is_among ks) (x ∷ xs)) (doc_step kind kept os x xs)
    ∙ by (doc_keeps kind kept os x) (walk_kept kind (kept + 1) (map (walked x) os) xs apart.1) (walk_kept kind kept os xs apart.1)
    ∙ sym (doc_step kind kept os x xs)
  where
    other : (y : DocKey) → Contains xs y → (c : Bool) → is_eq (doc_cmp y x) ≡ c → c ≡ false
    other y there true e =
        let same : y ≡ x = same_from_is_eq y x e in
        let found : is_among xs x ≡ true = any_from (λ z. is_eq (doc_cmp x z)) xs x (subst (Contains xs) same there) (is_eq_same x x refl) in
        let no_way : true ≡ false = sym found ∙ apart.0 in absurd cc
    other y there false e = refl

    by : (b : Bool) → filter (is_among (doc_walk kind (kept + 1) (map (walked x) os) xs)) xs ≡ doc_walk kind (kept + 1) (map (walked x) os) xs → filter (is_among (doc_walk kind kept os xs)) xs ≡ doc_walk kind kept os xs
        → filter (is_among (elim b as (λ c. List DocKey) [ true ↦ x ∷ doc_walk kind (kept + 1) (map (walked x) os) xs | false ↦ doc_walk kind kept os xs ])) (x ∷ xs)
        ≡ (elim b as (λ c. List DocKey) [ true ↦ x ∷ doc_walk kind (kept + 1) (map (walked x) os) xs | false ↦ doc_walk kind kept os xs ])
    by true more rest =
        ap (λ c. cond (c || is_among (doc_walk kind (kept + 1) (map (walked x) os) xs) x) (x ∷ filter (is_among (x ∷ doc_walk kind (kept + 1) (map (walked x) os) xs)) xs) (filter (is_among (x ∷ doc_walk kind (kept + 1) (map (walked x) os) xs)) xs)) (is_eq_same x x refl)
        ∙ ap (λ (ks : List DocKey). x ∷ ks) (agreed (is_among (x ∷ doc_walk kind (kept + 1) (map (walked x) os) xs)) (is_among (doc_walk kind (kept + 1) (map (walked x) os) xs)) xs
        (λ y there. ap (λ c. c || is_among (doc_walk kind (kept + 1) (map (walked x) os) xs) y) (other y there (is_eq (doc_cmp y x)) refl)) ∙ more)
    by false more rest =
        ap (λ c. cond c (x ∷ filter (is_among (doc_walk kind kept os xs)) xs) (filter (is_among (doc_walk kind kept os xs)) xs)) (walk_within kind kept os xs x apart.0) ∙ rest

-- and likewise of a filter
filter_kept : (p : DocKey → Bool) (xs : List DocKey) → filter (is_among (filter p xs)) xs ≡ filter p xs
filter_kept p xs = agreed (is_among (filter p xs)) p xs (λ x there. among_left p x xs there)

module _ (v : Viewed) (limits : Limits) (kept : IsKept v.schema limits v.contents) where
  -- the entities of a shard differ
  pub shard_apart : (vertical shard : ℕ) → AllApart (ranked v.schema v.contents vertical shard)
  shard_apart vertical shard =
      subst AllApart (sym (shards_part.lists v.schema limits v.contents vertical shard kept))
      (left_apart (λ (k : DocKey). shard_of v.schema vertical k.id == shard) (ranked_all v.contents vertical)
      (apart_from (ranked_all v.contents vertical) (IsDistinct-from_sorted doc_cmp (ranked_all v.contents vertical) (ranked_is_exact.ascends v.schema limits v.contents vertical kept))))

  list_kept : (kind : ListKind) (os : List (Walker DocKey)) (xs : List DocKey) → AllApart xs → filter (is_among (kept_by kind os xs)) xs ≡ kept_by kind os xs
  list_kept And os xs apart = filter_kept (λ k. list_all (λ o. o.has k) os) xs
  list_kept Or os xs apart = filter_kept (λ k. list_any (λ o. o.has k) os) xs
  list_kept Difference os xs apart = filter_kept (first_alone os) xs
  list_kept WeakAnd os xs apart = walk_kept WeakAnd 0 os xs apart
  list_kept StrongOr os xs apart = walk_kept StrongOr 0 os xs apart

  pub hits_kept : (plan : Plan) (shard : ℕ) → filter (is_among (hits v.schema v.contents plan shard)) (ranked v.schema v.contents (vertical_of v.schema plan) shard) ≡ hits v.schema v.contents plan shard
  hits_kept (term_plan number key) shard = filter_kept (leads_to v.contents number key) (ranked v.schema v.contents (target_of v.schema number) shard)
  hits_kept (prefix_plan number from) shard = filter_kept (λ k. list_any (λ word. leads_to v.contents number (Word word) k) (prefix_keys v.contents number from)) (ranked v.schema v.contents (target_of v.schema number) shard)
  hits_kept (list_plan kind plans) shard =
      list_kept kind (operands v.schema v.contents plans shard) (ranked v.schema v.contents (first_vertical v.schema plans) shard) (shard_apart (first_vertical v.schema plans) shard)
  hits_kept (join_plan kind number limit plan) shard = filter_kept (λ k. list_any (λ y. leads_to v.contents number (Id y.id) k) (cut v.schema v.contents plan limit)) (ranked v.schema v.contents (target_of v.schema number) shard)

  -- the entities of a shard that are hits are the hits of the shard
  pub hits_are : (plan : Plan) (shard : ℕ) → filter (is_hit v.schema v.contents plan) (ranked v.schema v.contents (vertical_of v.schema plan) shard) ≡ hits v.schema v.contents plan shard
  hits_are plan shard =
      agreed (is_hit v.schema v.contents plan) (is_among (hits v.schema v.contents plan shard)) (ranked v.schema v.contents (vertical_of v.schema plan) shard)
      (λ x there. ap (λ n. is_among (hits v.schema v.contents plan n) x) (in_its_shard v.schema limits v.contents kept (vertical_of v.schema plan) shard x there))
      ∙ hits_kept plan shard

  filter-append : (p : DocKey → Bool) (xs ys : List DocKey) → filter p (xs ++ ys) ≡ filter p xs ++ filter p ys
  filter-append p [] ys = refl
  filter-append p (x ∷ xs) ys = ap (λ (zs : List DocKey). cond (p x) (x ∷ zs) zs) (filter-append p xs ys) ∙ by (p x)
    where
      by : (b : Bool) → cond b (x ∷ filter p xs ++ filter p ys) (filter p xs ++ filter p ys) ≡ cond b (x ∷ filter p xs) (filter p xs) ++ filter p ys
      by true = refl
      by false = refl

  -- the entities of all shards from a number on
  abbrev docs_in : ℕ → ℕ → ℕ → List DocKey
  docs_in vertical from n = flat_map (ranked v.schema v.contents vertical) (range_with_len from n)

  all_hits : (plan : Plan) (from n : ℕ) → filter (is_hit v.schema v.contents plan) (docs_in (vertical_of v.schema plan) from n) ≡ flat_map (hits v.schema v.contents plan) (range_with_len from n)
  all_hits plan from zero = refl
  all_hits plan from (suc n) =
      filter-append (is_hit v.schema v.contents plan) (ranked v.schema v.contents (vertical_of v.schema plan) from) (docs_in (vertical_of v.schema plan) (from + 1) n)
      ∙ ap (λ (ks : List DocKey). ks ++ filter (is_hit v.schema v.contents plan) (docs_in (vertical_of v.schema plan) (from + 1) n)) (hits_are plan from)
      ∙ ap (λ (ks : List DocKey). hits v.schema v.contents plan from ++ ks) (all_hits plan (from + 1) n)

  in_range : (from n s : ℕ) → Contains (range_with_len from n) s → from ≤ s
  in_range from zero s there = absurd (none_in_nil s there)
  in_range from (suc n) s there = by (first_or_later from (range_with_len (from + 1) n) s there) (in_range (from + 1) n s)
    where
      by : (from ≡ s) ⊎ Contains (range_with_len (from + 1) n) s → (Contains (range_with_len (from + 1) n) s → from + 1 ≤ s) → from ≤ s
      by (inl same) rest = omega (arith, same)
      by (inr later) rest = omega (arith, rest later)

  apart-append : (xs ys : List DocKey) → AllApart xs → AllApart ys → ((x : DocKey) → Contains xs x → is_among ys x ≡ false) → AllApart (xs ++ ys)
  apart-append [] ys first second none = second
  apart-append (x ∷ xs) ys first second none = (list_any-append (λ y. is_eq (doc_cmp x y)) xs ys ∙ ap (λ b. b || is_among ys x) first.0 ∙ none x (first_is x xs), apart-append xs ys first.1 second (λ y there. none y (later_is x xs y there)))

  all_apart : (vertical from n : ℕ) → AllApart (docs_in vertical from n)
  all_apart vertical from zero = tt
  all_apart vertical from (suc n) =
      apart-append (ranked v.schema v.contents vertical from) (docs_in vertical (from + 1) n) (shard_apart vertical from) (all_apart vertical (from + 1) n)
      (λ x there. by x (in_its_shard v.schema limits v.contents kept vertical from x there) (is_among (docs_in vertical (from + 1) n) x) refl)
    where
      by : (x : DocKey) → shard_of v.schema vertical x.id ≡ from → (b : Bool) → is_among (docs_in vertical (from + 1) n) x ≡ b → b ≡ false
      by x home true e =
          let found = found_by (λ y. is_eq (doc_cmp x y)) (docs_in vertical (from + 1) n) e in
          let listed = listed_by (ranked v.schema v.contents vertical) (range_with_len (from + 1) n) found.0 found.1 in
          let same : x ≡ found.0 = same_from_is_eq x found.0 found.2 in
          let its : shard_of v.schema vertical found.0.id ≡ listed.0 = in_its_shard v.schema limits v.contents kept vertical listed.0 found.0 listed.2 in
          let above : from + 1 ≤ listed.0 = in_range (from + 1) n listed.0 listed.1 in
          absurd (omega (arith, above, its, home, ap (λ (k : DocKey). shard_of v.schema vertical k.id) same))
      by x home false e = refl

  -- the docs of places
  map-docs : (shard : ℕ) (xs : List DocKey) → map (λ (p : Place). p.doc) (map (λ x. record { doc = x; shard = shard }) xs) ≡ xs
  map-docs shard [] = refl
  map-docs shard (x ∷ xs) = ap (λ (ks : List DocKey). x ∷ ks) (map-docs shard xs)

  map-doc-append : (ps qs : List Place) → map (λ (p : Place). p.doc) (ps ++ qs) ≡ map (λ (p : Place). p.doc) ps ++ map (λ (p : Place). p.doc) qs
  map-doc-append [] qs = refl
  map-doc-append (p ∷ ps) qs = ap (λ (ks : List DocKey). p.doc ∷ ks) (map-doc-append ps qs)

  docs_of_places : (vertical from n : ℕ) → map (λ (p : Place). p.doc) (flat_map (λ shard. map (λ x. record { doc = x; shard = shard }) (ranked v.schema v.contents vertical shard)) (range_with_len from n)) ≡ docs_in vertical from n
  docs_of_places vertical from zero = refl
  docs_of_places vertical from (suc n) =
      map-doc-append (map (λ x. record { doc = x; shard = from }) (ranked v.schema v.contents vertical from)) (flat_map (λ shard. map (λ x. record { doc = x; shard = shard }) (ranked v.schema v.contents vertical shard)) (range_with_len (from + 1) n))
      ∙ ap (λ (ks : List DocKey). ks ++ map (λ (p : Place). p.doc) (flat_map (λ shard. map (λ x. record { doc = x; shard = shard }) (ranked v.schema v.contents vertical shard)) (range_with_len (from + 1) n))) (map-docs from (ranked v.schema v.contents vertical from))
      ∙ ap (λ (ks : List DocKey). ranked v.schema v.contents vertical from ++ ks) (docs_of_places vertical (from + 1) n)

  -- the members that are found
  found_are : (plan : Plan) (places : List Place) → found_members places (standings_of v plan places) ≡ members_of v plan (filter (is_hit v.schema v.contents plan) (map (λ (p : Place). p.doc) places))
  found_are plan [] = refl
  found_are plan (p ∷ places) = by (is_hit v.schema v.contents plan p.doc) (first_shown v.schema v.contents v.viewer plan p.doc) refl (found_are plan places)
    where
      rest : List Member
      rest = found_members places (standings_of v plan places)

      left : List DocKey
      left = filter (is_hit v.schema v.contents plan) (map (λ (q : Place). q.doc) places)

      by : (b : Bool) (o : Option (List EdgeRef)) → first_shown v.schema v.contents v.viewer plan p.doc ≡ o → rest ≡ members_of v plan left
          → (if is_found (if b then shown_as o else Missed) then record { key = p.doc; lineage = shown_of (if b then shown_as o else Missed) } ∷ rest else rest) ≡ members_of v plan (cond b (p.doc ∷ left) left)
      by true None e h = λ i. record { key = p.doc; lineage = sym e i } ∷ h i
      by true (Some edges) e h = λ i. record { key = p.doc; lineage = sym e i } ∷ h i
      by false o e h = h

  -- members in the order of their keys
  keys_sorted : (ms : List Member) → IsSortedByKey (λ m. m.key) doc_cmp ms → IsSorted doc_cmp (map (λ (m : Member). m.key) ms)
  keys_sorted [] up = λ k d low high. absurd (omega (arith, high))
  keys_sorted (m ∷ ms) up = λ k d low high.
      let within : k + 1 < length (m ∷ ms) = omega (arith, high, length-map (m ∷ ms) (λ (x : Member). x.key)) in
      let here : get_or (map (λ (x : Member). x.key) (m ∷ ms)) k d ≡ (get_or (m ∷ ms) k m).key = get_or-map (λ (x : Member). x.key) (m ∷ ms) k m d (omega (arith, within)) in
      let next : get_or (map (λ (x : Member). x.key) (m ∷ ms)) (k + 1) d ≡ (get_or (m ∷ ms) (k + 1) m).key = get_or-map (λ (x : Member). x.key) (m ∷ ms) (k + 1) m d within in
      ap (λ (n : DocKey). is_lt (doc_cmp n (get_or (map (λ (x : Member). x.key) (m ∷ ms)) k d))) next ∙ ap (λ (h : DocKey). is_lt (doc_cmp (get_or (m ∷ ms) (k + 1) m).key h)) here ∙ up k m low within

  told : (plan : Plan) (ms : List Member) → All (λ m. m ≡ member_of v plan m.key) ms → ms ≡ members_of v plan (map (λ (m : Member). m.key) ms)
  told plan [] all = refl
  told plan (m ∷ ms) all = λ i. All-head (λ (x : Member). x ≡ member_of v plan x.key) m ms all i ∷ told plan ms (All-tail (λ (x : Member). x ≡ member_of v plan x.key) m ms all) i

  all_members : (plan : Plan) (ks : List DocKey) → All (λ m. m ≡ member_of v plan m.key) (members_of v plan ks)
  all_members plan [] = λ k d within. absurd (omega (arith, within))
  all_members plan (k ∷ ks) = All-cons (λ (m : Member). m ≡ member_of v plan m.key) (member_of v plan k) (members_of v plan ks) refl (all_members plan ks)

  keys_of_members : (plan : Plan) (ks : List DocKey) → map (λ (m : Member). m.key) (members_of v plan ks) ≡ ks
  keys_of_members plan [] = refl
  keys_of_members plan (k ∷ ks) = ap (λ (xs : List DocKey). k ∷ xs) (keys_of_members plan ks)

  -- the members that are found, sorted and cut, are those of the cut
  pub cut_is : (plan : Plan) (limit : ℕ) (places : List Place) (standings : List Standing) (ms sorted : List Member)
      → places ≡ places_of v.schema v.contents (vertical_of v.schema plan) → standings ≡ standings_of v plan places → ms ≡ found_members places standings
      → IsPermutation ms sorted → IsSortedByKey (λ m. m.key) doc_cmp sorted → take limit sorted ≡ members_of v plan (cut v.schema v.contents plan limit)
  cut_is plan limit places standings ms sorted there stand found same up =
      let shards = shards_of v.schema (vertical_of v.schema plan) in
      let hs = filter (is_hit v.schema v.contents plan) (docs_in (vertical_of v.schema plan) 0 shards) in
      let is : ms ≡ members_of v plan hs =
      found ∙ ap (found_members places) stand ∙ found_are plan places
      ∙ ap (λ (ps : List Place). members_of v plan (filter (is_hit v.schema v.contents plan) (map (λ (p : Place). p.doc) ps))) there
      ∙ ap (λ (ks : List DocKey). members_of v plan (filter (is_hit v.schema v.contents plan) ks)) (docs_of_places (vertical_of v.schema plan) 0 shards) in
      let keys : map (λ (m : Member). m.key) sorted ≡ in_rank_order hs =
      in_order-is hs (map (λ (m : Member). m.key) sorted) (distinct_from hs (left_apart (is_hit v.schema v.contents plan) (docs_in (vertical_of v.schema plan) 0 shards) (all_apart (vertical_of v.schema plan) 0 shards)))
      (subst (λ (ks : List DocKey). IsPermutation ks (map (λ (m : Member). m.key) sorted)) (ap (map (λ (m : Member). m.key)) is ∙ keys_of_members plan hs) (IsPermutation-map (λ (m : Member). m.key) ms sorted same))
      (keys_sorted sorted up) in
      ap (take limit) (told plan sorted (All-permutation (λ (m : Member). m ≡ member_of v plan m.key) ms sorted same (subst (All (λ (m : Member). m ≡ member_of v plan m.key)) (sym is) (all_members plan hs)))
      ∙ ap (members_of v plan) (keys ∙ ap in_rank_order (all_hits plan 0 shards)))
      ∙ take-map (member_of v plan) limit (in_rank_order (flat_map (hits v.schema v.contents plan) (range_with_len 0 shards)))
