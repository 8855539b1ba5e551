-- Replies to plans without quotas do not depend on shards.
use Rattle.std.proofs.Common.{◌≡◌, ◌++◌, ◌+◌, ◌<◌, ◌≤◌, ◌%◌, ◌&&◌, ◌||◌, ◌==◌, ◌⊎◌, inl, inr, not, ℕ, zero, suc, Bool, true, false, nat_le, if◌then◌else◌, List, [], ◌∷◌, Option, None, Some, refl, sym, ◌∙◌, ap, subst, arith, length, filter, take, get_or, slice_get}
use Rattle.std.proofs.Math.Nat.{mod-lt}
use Rattle.std.proofs.lemmas.Bool.Decides.{nat_tests}
use Rattle.std.proofs.lemmas.List.Kept.{IsStrictlySortedBy-filter}
use Rattle.std.proofs.lemmas.List.Sorted.{IsPermutation-append_right, IsPermutation-filter_both, IsPermutation-refl, IsPermutation-sym, IsPermutation-trans}
use Rattle.std.proofs.lemmas.Map.Keys.{IsDistinct-from_sorted, IsDistinct-IsPermutation, sorted_head, sorted_tail}
use Rattle.std.proofs.lemmas.Option.{slice_get_cases}
use Rattle.std.specs.List.{Contains, cons_option, filter_map, flat_map, list_all, list_any, range_with_len}
use Rattle.std.specs.List.Sorted.{IsPermutation, IsStrictlySortedBy}
use Rattle.std.specs.Option.{option_and_then, option_map, option_map_or, option_or}
use Rattle.std.specs.Ordering.{eq_by_cmp, is_lt, ordering_reverse}
use Rattle.uni_base.specs.RankOrder.{doc_cmp}
use Rattle.uni_base.specs.WalkLaws.{is_bare, is_weighted}
use Rattle.uni_base.specs.Walks.{Walker}
use Rattle.uni_base.specs.declared.edge.EdgeRef.{EdgeRef}
use Rattle.uni_base.specs.declared.edge.Key.{Key}
use Rattle.uni_base.specs.declared.edge.Key.TheVariants.{Id, Word}
use Rattle.uni_base.specs.declared.entity.DocKey.{DocKey}
use Rattle.uni_base.specs.declared.limits.Limits.{Limits}
use Rattle.uni_base.proofs.RankedLemmas.{doc_total, filter_filter, filter_swap, is_eq_swap}
use Rattle.uni_base.proofs.WalkLaws.{strong_is_or, weak_is_and}
use Rattle.uni_schema.specs.Schema.{Declarations, IsSchema, is_vertical, shard_of}
use Rattle.uni_schema.specs.declared.schema.Origin.{Origin}
use Rattle.uni_schema.specs.declared.schema.Store.{Store}
use Rattle.uni_schema.specs.declared.schema.VerticalDef.{VerticalDef}
use Rattle.uni_table.specs.Contents.{Contents}
use Rattle.uni_table.specs.Ranked.{in_rank_order, ranked, ranked_all}
use Rattle.uni_table.specs.TableState.{IsKept}
use Rattle.uni_table.proofs.Exact.{ranked_is_exact}
use Rattle.uni_table.proofs.Listed.{first_is, later_is}
use Rattle.uni_table.proofs.Sharded.{in_order-is, shards_part}
use Rattle.query_tree.specs.declared.kind.JoinKind.{JoinKind}
use Rattle.query_tree.specs.declared.kind.ListKind.{ListKind}
use Rattle.query_tree.specs.declared.kind.ListKind.TheVariants.{And, Or, Difference, WeakAnd, StrongOr}
use Rattle.query_check.specs.Plan.{Plan, Plans, term_plan, prefix_plan, list_plan, join_plan, no_plans, with_plan}
use Rattle.query_check.specs.Verticals.{AreOf, IsOf, IsType}
use Rattle.uni_meaning.specs.Firsts.{first_given, first_shown, joined, seen_edge, shown_under_each, shown_under_first, shown_under_having, shown_under_one}
use Rattle.uni_meaning.specs.Hits.{cut, first_vertical, hits, is_among, is_hit, leads_to, operand_over, operands, quota_of, shards_of, target_of, vertical_of}
use Rattle.uni_meaning.specs.Laws.{HasNoQuota, HaveNoQuota, ShardsMakeNoDifference}
use Rattle.uni_meaning.specs.Prefixes.{prefix_keys}
use Rattle.uni_meaning.specs.Replies.{shown_hit}
use Rattle.uni_meaning.specs.Standings.{first_only, is_found, standing_of}
use Rattle.uni_meaning.specs.Viewed.{Viewed}
use Rattle.uni_meaning.specs.declared.reply.Hit.{Hit}
use Rattle.uni_meaning.specs.declared.standing.Standing.{Standing}
use Rattle.uni_meaning.proofs.Cuts.{hits_are}
use Rattle.uni_meaning.proofs.Homes.{in_first}
use Rattle.uni_meaning.proofs.Led.{found_hit, of_first}
use Rattle.uni_meaning.proofs.Members.{is_left, left_by}
use Rattle.uni_meaning.proofs.Prefixed.{agreed, among_left}
use Rattle.uni_meaning.proofs.SetStandings.{is_all, is_alone, is_any, row_of}
use Rattle.uni_meaning.proofs.Typed.{all_at, list_of, vertical_is, vertical_within}

-- keys that ascend are in order
rises : (xs : List DocKey) → IsStrictlySortedBy doc_cmp xs → (k : ℕ) (d : DocKey) → k + 1 < length xs → is_lt (doc_cmp (get_or xs (k + 1) d) (get_or xs k d)) ≡ false
rises [] up k d high = absurd (omega (arith, high))
rises (x ∷ []) up k d high = absurd (omega (arith, high))
rises (x ∷ y ∷ xs) up zero d high = ap is_lt (doc_total.antisymm y x ∙ ap ordering_reverse (sorted_head doc_cmp x (y ∷ xs) up).0)
rises (x ∷ y ∷ xs) up (suc k) d high =
    ap (λ n. is_lt (doc_cmp (get_or (x ∷ y ∷ xs) n d) (get_or (y ∷ xs) k d))) (one_more k) ∙ rises (y ∷ xs) (sorted_tail doc_cmp x (y ∷ xs) up) k d (omega (arith, high))
  where
    one_more : (n : ℕ) → suc n + 1 ≡ suc (n + 1)
    one_more n = omega arith

-- the numbers of parts
itself : (n : ℕ) → (n == n) ≡ true
itself n = grind (arith, nat_tests)

other_part : (n at from : ℕ) → from < at → (n == at) ≡ (not (n == from) && n == at)
other_part n at from below = by (n == at) (n == from) refl refl
  where
    by : (b c : Bool) → (n == at) ≡ b → (n == from) ≡ c → b ≡ (not c && b)
    by true true e f = grind (arith, nat_tests, e, f, below)
    by true false e f = refl
    by false true e f = refl
    by false false e f = refl

later_part : (n from : ℕ) → from ≤ n → not (n == from) ≡ true → from + 1 ≤ n
later_part n from low apart = grind (arith, nat_tests)

module _ (part : DocKey → ℕ) where
  abbrev of_part : ℕ → List DocKey → List DocKey
  of_part n xs = filter (λ k. part k == n) xs

  abbrev parts : ℕ → ℕ → List DocKey → List DocKey
  parts from n xs = flat_map (λ s. of_part s xs) (range_with_len from n)

  parts_without : (from : ℕ) (xs : List DocKey) (at n : ℕ) → from < at → parts at n xs ≡ parts at n (filter (λ k. not (part k == from)) xs)
  parts_without from xs at zero below = refl
  parts_without from xs at (suc n) below =
      let here : of_part at xs ≡ of_part at (filter (λ k. not (part k == from)) xs) =
      agreed (λ k. part k == at) (λ k. not (part k == from) && part k == at) xs (λ x there. other_part (part x) at from below)
      ∙ sym (filter_filter (λ k. part k == at) (λ k. not (part k == from)) xs) in
      let rest : parts (at + 1) n xs ≡ parts (at + 1) n (filter (λ k. not (part k == from)) xs) = parts_without from xs (at + 1) n (omega (arith, below)) in
      λ i. here i ++ rest i

  -- the parts of a list, one after the other, have its keys
  parts_permute : (from n : ℕ) (xs : List DocKey) → ((x : DocKey) → Contains xs x → (from ≤ part x) × (part x < from + n)) → IsPermutation (parts from n xs) xs
  parts_permute from zero [] within = IsPermutation-refl []
  parts_permute from zero (x ∷ xs) within = let here = within x (first_is x xs) in absurd (omega (arith, here.0, here.1))
  parts_permute from (suc n) xs within =
      let ys : List DocKey = filter (λ k. not (part k == from)) xs in
      let inside : (x : DocKey) → Contains ys x → (from + 1 ≤ part x) × (part x < from + 1 + n) =
      λ x there. let left = left_by (λ k. not (part k == from)) xs x there in let bounds = within x left.0 in (later_part (part x) from bounds.0 left.1, omega (arith, bounds.1)) in
      let rest : IsPermutation (parts (from + 1) n xs) ys =
      subst (λ (zs : List DocKey). IsPermutation zs ys) (sym (parts_without from xs (from + 1) n (omega arith))) (parts_permute (from + 1) n ys inside) in
      IsPermutation-trans (of_part from xs ++ parts (from + 1) n xs) (of_part from xs ++ ys) xs
      (IsPermutation-append_right (of_part from xs) (parts (from + 1) n xs) ys rest)
      (IsPermutation-sym xs (of_part from xs ++ ys) (IsPermutation-filter_both (λ k. part k == from) (λ k. not (part k == from)) (λ x. refl) xs))

some_shards : (n : ℕ) → nat_le 1 n ≡ true → zero < n
some_shards n e = grind (arith, nat_tests)

first_of_four : (a b c d : Bool) → (a && b && c && d) ≡ true → a ≡ true
first_of_four true b c d e = refl
first_of_four false b c d e = cc

-- under one schema
module _ (s : Declarations) (limits : Limits) (table : Contents) (is : IsSchema s) (kept : IsKept s limits table) where
  shard_within : (vertical id : ℕ) → vertical < length s.verticals → shard_of s vertical id < shards_of s vertical
  shard_within vertical id within = by (slice_get_cases s.verticals vertical).1
    where
      by : ((def : VerticalDef) × (vertical < length s.verticals) × (slice_get s.verticals vertical ≡ Some def) × (get_or s.verticals vertical def ≡ def)) ⊎ ((length s.verticals ≤ vertical) × (slice_get s.verticals vertical ≡ None))
          → shard_of s vertical id < shards_of s vertical
      by (inl found) =
          subst (λ (o : Option VerticalDef). option_map_or (λ v. id % v.shards) o 0 < option_map_or (λ v. v.shards) o 0) (sym found.2)
          (mod-lt id (some_shards found.0.shards (first_of_four (nat_le 1 found.0.shards) (nat_le found.0.shards 64) (nat_le 1 found.0.replicas) (nat_le found.0.replicas 4)
          (all_at s is_vertical s.verticals vertical found.0 is.verticals found.2))))
      by (inr past) = absurd (omega (arith, past.0, within))

  -- an entity of a vertical is in its shard
  pub at_home : (vertical : ℕ) (x : DocKey) → Contains (ranked_all table vertical) x → Contains (ranked s table vertical (shard_of s vertical x.id)) x
  at_home vertical x there =
      subst (λ (ks : List DocKey). Contains ks x) (sym (shards_part.lists s limits table vertical (shard_of s vertical x.id) kept))
      (is_left (λ (k : DocKey). shard_of s vertical k.id == shard_of s vertical x.id) (ranked_all table vertical) x there (itself (shard_of s vertical x.id)))

  home : (plan : Plan) (vertical : ℕ) (x : DocKey) → IsOf s plan vertical → Contains (ranked_all table vertical) x → Contains (ranked s table (vertical_of s plan) (shard_of s (vertical_of s plan) x.id)) x
  home plan vertical x of there = at_home (vertical_of s plan) x (subst (λ n. Contains (ranked_all table n) x) (sym (vertical_is s plan vertical of)) there)

  abbrev seen : Viewed
  seen = record { schema = s; limits = limits; contents = table; viewer = 0 }

  abbrev found : Plan → List DocKey
  found plan = filter (is_hit s table plan) (ranked_all table (vertical_of s plan))

  -- the hits of a shard are those of the vertical that are in it
  hits_there : (plan : Plan) (shard : ℕ) → hits s table plan shard ≡ of_part (λ k. shard_of s (vertical_of s plan) k.id) shard (found plan)
  hits_there plan shard =
      sym (hits_are seen limits kept plan shard) ∙ ap (filter (is_hit s table plan)) (shards_part.lists s limits table (vertical_of s plan) shard kept)
      ∙ filter_swap (is_hit s table plan) (λ (k : DocKey). shard_of s (vertical_of s plan) k.id == shard) (ranked_all table (vertical_of s plan))

  -- those of all shards in rank order are those of the vertical
  all_there : (plan : Plan) → vertical_of s plan < length s.verticals → in_rank_order (flat_map (hits s table plan) (range_with_len 0 (shards_of s (vertical_of s plan)))) ≡ found plan
  all_there plan within =
      let sharded : List DocKey = flat_map (hits s table plan) (range_with_len 0 (shards_of s (vertical_of s plan))) in
      let same : sharded ≡ parts (λ k. shard_of s (vertical_of s plan) k.id) 0 (shards_of s (vertical_of s plan)) (found plan) =
      λ i. flat_map (λ n. hits_there plan n i) (range_with_len 0 (shards_of s (vertical_of s plan))) in
      let moved : IsPermutation sharded (found plan) =
      subst (λ (ks : List DocKey). IsPermutation ks (found plan)) (sym same)
      (parts_permute (λ k. shard_of s (vertical_of s plan) k.id) 0 (shards_of s (vertical_of s plan)) (found plan) (λ x there. (omega arith, omega (arith, shard_within (vertical_of s plan) x.id within)))) in
      let up : IsStrictlySortedBy doc_cmp (found plan) = IsStrictlySortedBy-filter doc_cmp (is_hit s table plan) (ranked_all table (vertical_of s plan)) (ranked_is_exact.ascends s limits table (vertical_of s plan) kept) in
      sym (in_order-is sharded (found plan)
      (IsDistinct-IsPermutation (eq_by_cmp doc_cmp) (λ a b. is_eq_swap a b) (found plan) sharded (IsPermutation-sym sharded (found plan) moved) (IsDistinct-from_sorted doc_cmp (found plan) up))
      moved (λ k d low high. rises (found plan) up k d high))

  pub cut_there : (plan : Plan) (vertical limit : ℕ) → IsOf s plan vertical → cut s table plan limit ≡ take limit (filter (is_hit s table plan) (ranked_all table vertical))
  cut_there plan vertical limit of =
      ap (take limit) (all_there plan (subst (λ n. n < length s.verticals) (sym (vertical_is s plan vertical of)) (vertical_within s is plan vertical of)))
      ∙ ap (λ n. take limit (filter (is_hit s table plan) (ranked_all table n))) (vertical_is s plan vertical of)

  -- a member of a cut is an entity of its vertical
  cut_in : (plan : Plan) (vertical limit : ℕ) (y : DocKey) → IsOf s plan vertical → Contains (cut s table plan limit) y → Contains (ranked_all table vertical) y
  cut_in plan vertical limit y of there =
      (left_by (is_hit s table plan) (ranked_all table vertical) y
      (in_first limit (filter (is_hit s table plan) (ranked_all table vertical)) y (subst (λ (ks : List DocKey). Contains ks y) (cut_there plan vertical limit of) there))).0

  -- without quotas, the walks are `and` and `or`
  bare : (plans : Plans) (shard : ℕ) → HaveNoQuota plans → list_all (λ (o : Walker DocKey). is_bare o.quota) (operands s table plans shard) ≡ true
  bare no_plans shard none = refl
  bare (with_plan plan mark others) shard none = λ i. is_bare (quota_of (none.0 i)) && bare others shard none.2 i

  unweighted : (plans : Plans) (shard : ℕ) → HaveNoQuota plans → list_any (λ (o : Walker DocKey). is_weighted o.quota) (operands s table plans shard) ≡ false
  unweighted no_plans shard none = refl
  unweighted (with_plan plan mark others) shard none = λ i. is_weighted (quota_of (none.0 i)) || unweighted others shard none.2 i

  weak_hits : (plans : Plans) (vertical shard : ℕ) → IsOf s (list_plan WeakAnd plans) vertical → HaveNoQuota plans → hits s table (list_plan WeakAnd plans) shard ≡ hits s table (list_plan And plans) shard
  weak_hits no_plans vertical shard of none = absurd of
  weak_hits (with_plan plan mark others) vertical shard of none =
      weak_is_and.filters 0 (operand_over (hits s table plan shard) mark) (operands s table others shard) (ranked s table (vertical_of s plan) shard) (bare (with_plan plan mark others) shard none)

  strong_hits : (plans : Plans) (shard : ℕ) → HaveNoQuota plans → hits s table (list_plan StrongOr plans) shard ≡ hits s table (list_plan Or plans) shard
  strong_hits plans shard none = strong_is_or.filters 0 (operands s table plans shard) (ranked s table (first_vertical s plans) shard) (unweighted plans shard none)

  -- an entity of the vertical under each node
  module _ (vertical : ℕ) (x : DocKey) (there : Contains (ranked_all table vertical) x) where
    under_term : (number : ℕ) (key : Key) → IsOf s (term_plan number key) vertical → is_hit s table (term_plan number key) x ≡ leads_to table number key x
    under_term number key of = among_left (leads_to table number key) x (ranked s table (target_of s number) (shard_of s (target_of s number) x.id)) (home (term_plan number key) vertical x of there)

    under_prefix : (number : ℕ) (from : List ℕ) → IsOf s (prefix_plan number from) vertical → is_hit s table (prefix_plan number from) x ≡ list_any (λ word. leads_to table number (Word word) x) (prefix_keys table number from)
    under_prefix number from of =
        among_left (λ k. list_any (λ word. leads_to table number (Word word) k) (prefix_keys table number from)) x (ranked s table (target_of s number) (shard_of s (target_of s number) x.id)) (home (prefix_plan number from) vertical x of there)

    under_join : (kind : JoinKind) (number limit : ℕ) (plan : Plan) → IsOf s (join_plan kind number limit plan) vertical
        → is_hit s table (join_plan kind number limit plan) x ≡ list_any (λ y. leads_to table number (Id y.id) x) (cut s table plan limit)
    under_join kind number limit plan of =
        among_left (λ k. list_any (λ y. leads_to table number (Id y.id) k) (cut s table plan limit)) x (ranked s table (target_of s number) (shard_of s (target_of s number) x.id)) (home (join_plan kind number limit plan) vertical x of there)

    under_and : (plans : Plans) → IsOf s (list_plan And plans) vertical → is_hit s table (list_plan And plans) x ≡ list_all is_found (row_of seen plans x)
    under_and plans of = is_all seen plans x (of_first seen kept And plans vertical of) (home (list_plan And plans) vertical x of there)

    under_or : (plans : Plans) → IsOf s (list_plan Or plans) vertical → is_hit s table (list_plan Or plans) x ≡ list_any is_found (row_of seen plans x)
    under_or plans of = is_any seen plans x (of_first seen kept Or plans vertical of) (home (list_plan Or plans) vertical x of there)

    under_difference : (plans : Plans) → IsOf s (list_plan Difference plans) vertical → is_hit s table (list_plan Difference plans) x ≡ first_only (row_of seen plans x)
    under_difference plans of = is_alone seen plans x (of_first seen kept Difference plans vertical of) (home (list_plan Difference plans) vertical x of there)

-- lists of what is given agree where what is given does
given_agreed : {X Y : Type 0} (f g : X → Option Y) (xs : List X) → ((x : X) → Contains xs x → f x ≡ g x) → first_given f xs ≡ first_given g xs
given_agreed f g [] agree = refl
given_agreed f g (x ∷ xs) agree = let rest = given_agreed f g xs (λ y h. agree y (later_is x xs y h)) in λ i. option_or (agree x (first_is x xs) i) (rest i)

pub map_agreed : {X Y : Type 0} (f g : X → Option Y) (xs : List X) → ((x : X) → Contains xs x → f x ≡ g x) → filter_map f xs ≡ filter_map g xs
map_agreed f g [] agree = refl
map_agreed f g (x ∷ xs) agree = let rest = map_agreed f g xs (λ y h. agree y (later_is x xs y h)) in λ i. cons_option (agree x (first_is x xs) i) (rest i)

-- under two schemas that differ in their verticals
module _ (s : Declarations) (verticals : List VerticalDef) (limits : Limits) (table : Contents) (is : IsSchema s) (is_other : IsSchema (record s { verticals = verticals })) (kept : IsKept s limits table) where
  abbrev t : Declarations
  t = record s { verticals = verticals }

  kept_other : IsKept t limits table
  kept_other = record { keys = kept.keys; targets = kept.targets; entities = kept.entities; edges = kept.edges; forward = kept.forward }

  abbrev type_too : (number : ℕ) (store : Store) (origin : Origin) (vertical : ℕ) → IsType s number store origin vertical → IsType t number store origin vertical
  type_too number store origin vertical type = record { def = type.def; declared = type.declared; stored = type.stored; starts = type.starts; leads = type.leads }

  mutual
    too : (plan : Plan) (vertical : ℕ) → IsOf s plan vertical → IsOf t plan vertical
    too (term_plan number key) vertical of = (of.0, (type_too number _ of.0 vertical of.1.0, of.1.1))
    too (prefix_plan number from) vertical of = type_too number _ _ vertical of
    too (list_plan kind no_plans) vertical of = absurd of
    too (list_plan kind (with_plan plan mark others)) vertical of = (too plan vertical of.0, all_too others vertical of.1)
    too (join_plan kind number limit plan) vertical of = (of.0, (type_too number _ _ vertical of.1.0, too plan of.0 of.1.1))

    all_too : (plans : Plans) (vertical : ℕ) → AreOf s plans vertical → AreOf t plans vertical
    all_too no_plans vertical of = tt
    all_too (with_plan plan mark others) vertical of = (too plan vertical of.0, all_too others vertical of.1)

  -- what a list is of does not depend on its operator
  as_kind : (kind other : ListKind) (plans : Plans) (vertical : ℕ) → IsOf s (list_plan kind plans) vertical → IsOf s (list_plan other plans) vertical
  as_kind kind other no_plans vertical of = absurd of
  as_kind kind other (with_plan plan mark others) vertical of = of

  abbrev There : ℕ → DocKey → Type 0
  There vertical x = Contains (ranked_all table vertical) x

  abbrev SameHits : Plan → ℕ → Type 0
  SameHits plan vertical = (x : DocKey) → There vertical x → is_hit t table plan x ≡ is_hit s table plan x

  same_cut : (plan : Plan) (vertical limit : ℕ) → IsOf s plan vertical → SameHits plan vertical → cut t table plan limit ≡ cut s table plan limit
  same_cut plan vertical limit of same =
      cut_there t limits table is_other kept_other plan vertical limit (too plan vertical of)
      ∙ ap (take limit) (agreed (is_hit t table plan) (is_hit s table plan) (ranked_all table vertical) same)
      ∙ sym (cut_there s limits table is kept plan vertical limit of)

  abbrev row_s : Plans → DocKey → List Standing
  row_s plans x = row_of (seen s limits table is kept) plans x

  abbrev row_t : Plans → DocKey → List Standing
  row_t plans x = row_of (seen t limits table is_other kept_other) plans x

  same_found : (plan : Plan) (x : DocKey) → is_hit t table plan x ≡ is_hit s table plan x → is_found (standing_of (seen t limits table is_other kept_other) plan x) ≡ is_found (standing_of (seen s limits table is kept) plan x)
  same_found plan x same = found_hit (seen t limits table is_other kept_other) kept_other plan x ∙ same ∙ sym (found_hit (seen s limits table is kept) kept plan x)

  mutual
    same_hit : (plan : Plan) (vertical : ℕ) (x : DocKey) → IsOf s plan vertical → HasNoQuota plan → There vertical x → is_hit t table plan x ≡ is_hit s table plan x
    same_hit (term_plan number key) vertical x of none there =
        under_term t limits table is_other kept_other vertical x there number key (too (term_plan number key) vertical of) ∙ sym (under_term s limits table is kept vertical x there number key of)
    same_hit (prefix_plan number from) vertical x of none there =
        under_prefix t limits table is_other kept_other vertical x there number from (too (prefix_plan number from) vertical of) ∙ sym (under_prefix s limits table is kept vertical x there number from of)
    same_hit (list_plan And plans) vertical x of none there =
        under_and t limits table is_other kept_other vertical x there plans (too (list_plan And plans) vertical of) ∙ same_all plans vertical x (list_of s And plans vertical of) none there
        ∙ sym (under_and s limits table is kept vertical x there plans of)
    same_hit (list_plan Or plans) vertical x of none there =
        under_or t limits table is_other kept_other vertical x there plans (too (list_plan Or plans) vertical of) ∙ same_any plans vertical x (list_of s Or plans vertical of) none there
        ∙ sym (under_or s limits table is kept vertical x there plans of)
    same_hit (list_plan Difference plans) vertical x of none there =
        under_difference t limits table is_other kept_other vertical x there plans (too (list_plan Difference plans) vertical of) ∙ same_alone plans vertical x (list_of s Difference plans vertical of) none there
        ∙ sym (under_difference s limits table is kept vertical x there plans of)
    same_hit (list_plan WeakAnd plans) vertical x of none there =
        ap (λ (ks : List DocKey). is_among ks x) (weak_hits t limits table is_other kept_other plans vertical (shard_of t (first_vertical t plans) x.id) (too (list_plan WeakAnd plans) vertical of) none)
        ∙ under_and t limits table is_other kept_other vertical x there plans (too (list_plan And plans) vertical (as_kind WeakAnd And plans vertical of)) ∙ same_all plans vertical x (list_of s WeakAnd plans vertical of) none there
        ∙ sym (under_and s limits table is kept vertical x there plans (as_kind WeakAnd And plans vertical of))
        ∙ sym (ap (λ (ks : List DocKey). is_among ks x) (weak_hits s limits table is kept plans vertical (shard_of s (first_vertical s plans) x.id) of none))
    same_hit (list_plan StrongOr plans) vertical x of none there =
        ap (λ (ks : List DocKey). is_among ks x) (strong_hits t limits table is_other kept_other plans (shard_of t (first_vertical t plans) x.id) none)
        ∙ under_or t limits table is_other kept_other vertical x there plans (too (list_plan Or plans) vertical (as_kind StrongOr Or plans vertical of)) ∙ same_any plans vertical x (list_of s StrongOr plans vertical of) none there
        ∙ sym (under_or s limits table is kept vertical x there plans (as_kind StrongOr Or plans vertical of))
        ∙ sym (ap (λ (ks : List DocKey). is_among ks x) (strong_hits s limits table is kept plans (shard_of s (first_vertical s plans) x.id) none))
    same_hit (join_plan kind number limit plan) vertical x of none there =
        under_join t limits table is_other kept_other vertical x there kind number limit plan (too (join_plan kind number limit plan) vertical of)
        ∙ ap (λ (ys : List DocKey). list_any (λ y. leads_to table number (Id y.id) x) ys) (same_cut plan of.0 limit of.1.1 (λ y within. same_hit plan of.0 y of.1.1 none within))
        ∙ sym (under_join s limits table is kept vertical x there kind number limit plan of)

    same_all : (plans : Plans) (vertical : ℕ) (x : DocKey) → AreOf s plans vertical → HaveNoQuota plans → There vertical x → list_all is_found (row_t plans x) ≡ list_all is_found (row_s plans x)
    same_all no_plans vertical x of none there = refl
    same_all (with_plan plan mark others) vertical x of none there =
        let here = same_found plan x (same_hit plan vertical x of.0 none.1 there) in
        let rest = same_all others vertical x of.1 none.2 there in
        λ i. here i && rest i

    same_any : (plans : Plans) (vertical : ℕ) (x : DocKey) → AreOf s plans vertical → HaveNoQuota plans → There vertical x → list_any is_found (row_t plans x) ≡ list_any is_found (row_s plans x)
    same_any no_plans vertical x of none there = refl
    same_any (with_plan plan mark others) vertical x of none there =
        let here = same_found plan x (same_hit plan vertical x of.0 none.1 there) in
        let rest = same_any others vertical x of.1 none.2 there in
        λ i. here i || rest i

    same_alone : (plans : Plans) (vertical : ℕ) (x : DocKey) → AreOf s plans vertical → HaveNoQuota plans → There vertical x → first_only (row_t plans x) ≡ first_only (row_s plans x)
    same_alone no_plans vertical x of none there = refl
    same_alone (with_plan plan mark others) vertical x of none there =
        let here = same_found plan x (same_hit plan vertical x of.0 none.1 there) in
        let rest = same_any others vertical x of.1 none.2 there in
        λ i. here i && not (rest i)

  cuts : (plan : Plan) (vertical limit : ℕ) → IsOf s plan vertical → HasNoQuota plan → cut t table plan limit ≡ cut s table plan limit
  cuts plan vertical limit of none = same_cut plan vertical limit of (λ x there. same_hit plan vertical x of none there)

  module _ (viewer : ℕ) where
    mutual
      same_first : (plan : Plan) (vertical : ℕ) (x : DocKey) → IsOf s plan vertical → HasNoQuota plan → There vertical x → first_shown t table viewer plan x ≡ first_shown s table viewer plan x
      same_first (term_plan number key) vertical x of none there = refl
      same_first (prefix_plan number from) vertical x of none there = refl
      same_first (list_plan And plans) vertical x of none there = each plans vertical x (list_of s And plans vertical of) none there
      same_first (list_plan Or plans) vertical x of none there = one_of plans vertical x (list_of s Or plans vertical of) none there
      same_first (list_plan Difference plans) vertical x of none there = first plans vertical x (list_of s Difference plans vertical of) none there
      same_first (list_plan WeakAnd plans) vertical x of none there = having plans vertical x (list_of s WeakAnd plans vertical of) none there
      same_first (list_plan StrongOr plans) vertical x of none there = one_of plans vertical x (list_of s StrongOr plans vertical of) none there
      same_first (join_plan kind number limit plan) vertical x of none there =
          ap (λ (ys : List DocKey). first_given (λ y. option_and_then (λ edge. option_map (λ rest. edge ∷ rest) (first_shown t table viewer plan y)) (seen_edge s table viewer number (Id y.id) x)) ys) (cuts plan of.0 limit of.1.1 none)
          ∙ given_agreed (λ y. option_and_then (λ edge. option_map (λ rest. edge ∷ rest) (first_shown t table viewer plan y)) (seen_edge s table viewer number (Id y.id) x))
          (λ y. option_and_then (λ edge. option_map (λ rest. edge ∷ rest) (first_shown s table viewer plan y)) (seen_edge s table viewer number (Id y.id) x)) (cut s table plan limit)
          (λ y within. ap (λ (o : Option (List EdgeRef)). option_and_then (λ edge. option_map (λ rest. edge ∷ rest) o) (seen_edge s table viewer number (Id y.id) x))
          (same_first plan of.0 y of.1.1 none (cut_in s limits table is kept plan of.0 limit y of.1.1 within)))

      each : (plans : Plans) (vertical : ℕ) (x : DocKey) → AreOf s plans vertical → HaveNoQuota plans → There vertical x → shown_under_each t table viewer plans x ≡ shown_under_each s table viewer plans x
      each no_plans vertical x of none there = refl
      each (with_plan plan mark others) vertical x of none there =
          let here = same_first plan vertical x of.0 none.1 there in
          let rest = each others vertical x of.1 none.2 there in
          λ i. joined (here i) (rest i)

      having : (plans : Plans) (vertical : ℕ) (x : DocKey) → AreOf s plans vertical → HaveNoQuota plans → There vertical x → shown_under_having t table viewer plans x ≡ shown_under_having s table viewer plans x
      having no_plans vertical x of none there = refl
      having (with_plan plan mark others) vertical x of none there =
          let hit = same_hit plan vertical x of.0 none.1 there in
          let here = same_first plan vertical x of.0 none.1 there in
          let rest = having others vertical x of.1 none.2 there in
          λ i. if hit i then joined (here i) (rest i) else rest i

      one_of : (plans : Plans) (vertical : ℕ) (x : DocKey) → AreOf s plans vertical → HaveNoQuota plans → There vertical x → shown_under_one t table viewer plans x ≡ shown_under_one s table viewer plans x
      one_of no_plans vertical x of none there = refl
      one_of (with_plan plan mark others) vertical x of none there =
          let hit = same_hit plan vertical x of.0 none.1 there in
          let here = same_first plan vertical x of.0 none.1 there in
          let rest = one_of others vertical x of.1 none.2 there in
          λ i. if hit i then option_or (here i) (rest i) else rest i

      first : (plans : Plans) (vertical : ℕ) (x : DocKey) → AreOf s plans vertical → HaveNoQuota plans → There vertical x → shown_under_first t table viewer plans x ≡ shown_under_first s table viewer plans x
      first no_plans vertical x of none there = refl
      first (with_plan plan mark others) vertical x of none there = same_first plan vertical x of.0 none.1 there

    same_shown : (plan : Plan) (vertical limit : ℕ) → IsOf s plan vertical → HasNoQuota plan → filter_map (shown_hit t table viewer plan) (cut t table plan limit) ≡ filter_map (shown_hit s table viewer plan) (cut s table plan limit)
    same_shown plan vertical limit of none =
        ap (filter_map (shown_hit t table viewer plan)) (cuts plan vertical limit of none)
        ∙ map_agreed (shown_hit t table viewer plan) (shown_hit s table viewer plan) (cut s table plan limit)
        (λ x within. ap (λ (o : Option (List EdgeRef)). option_map (λ edges. record { key = x; lineage = edges }) o) (same_first plan vertical x of none (cut_in s limits table is kept plan vertical limit x of within)))

pub shards_make_no_difference : ShardsMakeNoDifference
shards_make_no_difference = record {
  same = λ schema verticals limits table plan vertical publishes viewer limit is is_other kept of none.
      ap (λ (hs : List Hit). record { publishes = publishes; hits = hs }) (same_shown schema verticals limits table is is_other kept viewer plan vertical limit of none);
}
