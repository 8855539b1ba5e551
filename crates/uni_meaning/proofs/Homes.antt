-- What a plan finds in a shard is an entity of the shard, and a hit.
use Rattle.std.proofs.Common.{◌≡◌, ◌+◌, ◌==◌, ◌⊎◌, inl, inr, ℕ, zero, suc, Bool, true, false, if◌then◌else◌, List, [], ◌∷◌, refl, sym, ◌∙◌, ap, subst, arith, map, filter, take}
use Rattle.std.proofs.lemmas.Bool.{and_parts}
use Rattle.std.proofs.lemmas.Bool.Decides.{nat_tests}
use Rattle.std.specs.List.{Contains, flat_map, list_all, list_any, range_with_len}
use Rattle.std.specs.Ordering.{is_eq, is_lt}
use Rattle.uni_base.specs.RankOrder.{doc_cmp}
use Rattle.uni_base.specs.Walks.{Walker, strong_keeps, strong_walk, walked, weak_keeps, weak_walk}
use Rattle.uni_base.specs.declared.edge.Key.TheVariants.{Id, Word}
use Rattle.uni_base.specs.declared.entity.DocKey.{DocKey}
use Rattle.uni_base.proofs.RankedLemmas.{is_eq_same, same_from_is_eq}
use Rattle.uni_schema.specs.Schema.{Declarations, shard_of}
use Rattle.uni_table.specs.Contents.{Contents}
use Rattle.uni_table.specs.Ranked.{doc_of, in_rank_order, is_of_shard, place, ranked}
use Rattle.uni_table.proofs.Listed.{none_in_nil, first_or_later, first_is, later_is}
use Rattle.query_tree.specs.declared.kind.ListKind.{ListKind}
use Rattle.query_tree.specs.declared.kind.ListKind.TheVariants.{And, Or, Difference, WeakAnd, StrongOr}
use Rattle.query_check.specs.Plan.{Plan, term_plan, prefix_plan, list_plan, join_plan}
use Rattle.uni_meaning.specs.Hits.{cut, first_alone, first_vertical, hits, is_among, is_hit, kept_by, leads_to, operands, shards_of, target_of, vertical_of}
use Rattle.uni_meaning.specs.Prefixes.{prefix_keys}
use Rattle.uni_meaning.proofs.Arrivals.{any_from, found_by}
use Rattle.uni_meaning.proofs.Members.{left_by, listed_by, made_of}

same_number : (a b : ℕ) → (a == b) ≡ true → a ≡ b
same_number a b e = grind (arith, nat_tests)

-- what is in a list is in it with one more in front
one_more : {X : Type 0} (y : X) (ks xs : List X) (x : X) → (Contains ks x → Contains xs x) → (y ≡ x) ⊎ Contains ks x → Contains (y ∷ xs) x
one_more y ks xs x rest (inl same) = subst (Contains (y ∷ xs)) same (first_is y xs)
one_more y ks xs x rest (inr later) = later_is y xs x (rest later)

-- what is among the first items is among the items
pub in_first : (n : ℕ) (xs : List DocKey) (x : DocKey) → Contains (take n xs) x → Contains xs x
in_first zero xs x there = absurd (none_in_nil x there)
in_first (suc n) [] x there = absurd (none_in_nil x there)
in_first (suc n) (y ∷ xs) x there = one_more y (take n xs) xs x (in_first n xs x) (first_or_later y (take n xs) x there)

-- a key put at its place, and the others
in_place : (k : DocKey) (ks : List DocKey) (x : DocKey) → Contains (place k ks) x → (k ≡ x) ⊎ Contains ks x
in_place k [] x there = first_or_later k [] x there
in_place k (y ∷ ks) x there = by (is_lt (doc_cmp k y)) there (in_place k ks x)
  where
    later : (y ≡ x) ⊎ Contains (place k ks) x → (Contains (place k ks) x → (k ≡ x) ⊎ Contains ks x) → (k ≡ x) ⊎ Contains (y ∷ ks) x
    later (inl same) rest = inr (subst (Contains (y ∷ ks)) same (first_is y ks))
    later (inr on) rest = further (rest on)
      where
        further : (k ≡ x) ⊎ Contains ks x → (k ≡ x) ⊎ Contains (y ∷ ks) x
        further (inl same) = inl same
        further (inr h) = inr (later_is y ks x h)

    by : (b : Bool) → Contains (if b then k ∷ y ∷ ks else y ∷ place k ks) x → (Contains (place k ks) x → (k ≡ x) ⊎ Contains ks x) → (k ≡ x) ⊎ Contains (y ∷ ks) x
    by true h rest = first_or_later k (y ∷ ks) x h
    by false h rest = later (first_or_later y (place k ks) x h) rest

in_order : (ks : List DocKey) (x : DocKey) → Contains (in_rank_order ks) x → Contains ks x
in_order [] x there = absurd (none_in_nil x there)
in_order (k ∷ ks) x there = one_more k ks ks x (λ h. h) (by (in_place k (in_rank_order ks) x there) (in_order ks x))
  where
    by : (k ≡ x) ⊎ Contains (in_rank_order ks) x → (Contains (in_rank_order ks) x → Contains ks x) → (k ≡ x) ⊎ Contains ks x
    by (inl same) rest = inl same
    by (inr on) rest = inr (rest on)

-- what a walk keeps of a list is in it
weak_in : (kept : ℕ) (os : List (Walker DocKey)) (xs : List DocKey) (x : DocKey) → Contains (weak_walk kept os xs) x → Contains xs x
weak_in kept os [] x there = there
weak_in kept os (y ∷ xs) x there = by (weak_keeps kept os y) there (weak_in (kept + 1) (map (walked y) os) xs x) (weak_in kept os xs x)
  where
    by : (b : Bool) → Contains (elim b as (λ c. List DocKey) [ true ↦ y ∷ weak_walk (kept + 1) (map (walked y) os) xs | false ↦ weak_walk kept os xs ]) x
        → (Contains (weak_walk (kept + 1) (map (walked y) os) xs) x → Contains xs x) → (Contains (weak_walk kept os xs) x → Contains xs x) → Contains (y ∷ xs) x
    by true h more rest = one_more y (weak_walk (kept + 1) (map (walked y) os) xs) xs x more (first_or_later y (weak_walk (kept + 1) (map (walked y) os) xs) x h)
    by false h more rest = later_is y xs x (rest h)

strong_in : (kept : ℕ) (os : List (Walker DocKey)) (xs : List DocKey) (x : DocKey) → Contains (strong_walk kept os xs) x → Contains xs x
strong_in kept os [] x there = there
strong_in kept os (y ∷ xs) x there = by (strong_keeps kept os y) there (strong_in (kept + 1) (map (walked y) os) xs x) (strong_in kept os xs x)
  where
    by : (b : Bool) → Contains (elim b as (λ c. List DocKey) [ true ↦ y ∷ strong_walk (kept + 1) (map (walked y) os) xs | false ↦ strong_walk kept os xs ]) x
        → (Contains (strong_walk (kept + 1) (map (walked y) os) xs) x → Contains xs x) → (Contains (strong_walk kept os xs) x → Contains xs x) → Contains (y ∷ xs) x
    by true h more rest = one_more y (strong_walk (kept + 1) (map (walked y) os) xs) xs x more (first_or_later y (strong_walk (kept + 1) (map (walked y) os) xs) x h)
    by false h more rest = later_is y xs x (rest h)

-- and so is what an operator keeps
kept_in : (kind : ListKind) (os : List (Walker DocKey)) (xs : List DocKey) (x : DocKey) → Contains (kept_by kind os xs) x → Contains xs x
kept_in And os xs x there = (left_by (λ (k : DocKey). list_all (λ (o : Walker DocKey). o.has k) os) xs x there).0
kept_in Or os xs x there = (left_by (λ (k : DocKey). list_any (λ (o : Walker DocKey). o.has k) os) xs x there).0
kept_in Difference os xs x there = (left_by (first_alone os) xs x there).0
kept_in WeakAnd os xs x there = weak_in 0 os xs x there
kept_in StrongOr os xs x there = strong_in 0 os xs x there

-- what is among entities is one of them
pub among : (ks : List DocKey) (x : DocKey) → is_among ks x ≡ true → Contains ks x
among ks x e =
    let found = found_by (λ y. is_eq (doc_cmp x y)) ks e in
    subst (Contains ks) (sym (same_from_is_eq x found.0 found.2)) found.1

module _ (schema : Declarations) (table : Contents) where
  -- the hits of a shard are entities of it
  in_shard : (plan : Plan) (shard : ℕ) (x : DocKey) → Contains (hits schema table plan shard) x → Contains (ranked schema table (vertical_of schema plan) shard) x
  in_shard (term_plan number key) shard x there = (left_by (leads_to table number key) (ranked schema table (target_of schema number) shard) x there).0
  in_shard (prefix_plan number from) shard x there =
      (left_by (λ (k : DocKey). list_any (λ word. leads_to table number (Word word) k) (prefix_keys table number from)) (ranked schema table (target_of schema number) shard) x there).0
  in_shard (list_plan kind plans) shard x there = kept_in kind (operands schema table plans shard) (ranked schema table (first_vertical schema plans) shard) x there
  in_shard (join_plan kind number limit plan) shard x there =
      (left_by (λ (k : DocKey). list_any (λ (y : DocKey). leads_to table number (Id y.id) k) (cut schema table plan limit)) (ranked schema table (target_of schema number) shard) x there).0

  -- an entity of a shard is in the shard of its id
  pub its_shard : (vertical shard : ℕ) (x : DocKey) → Contains (ranked schema table vertical shard) x → shard_of schema vertical x.id ≡ shard
  its_shard vertical shard x there =
      let rows = filter (is_of_shard schema vertical shard) table.entities in
      let made = made_of doc_of rows x (in_order (map doc_of rows) x there) in
      let left = left_by (is_of_shard schema vertical shard) table.entities made.0 made.1 in
      ap (λ (k : DocKey). shard_of schema vertical k.id) (sym made.2)
      ∙ same_number (shard_of schema vertical made.0.0) shard (and_parts (made.0.1.vertical == vertical) (shard_of schema vertical made.0.0 == shard) left.1).1

  -- what a plan finds in a shard is a hit
  pub found_is_hit : (plan : Plan) (shard : ℕ) (x : DocKey) → Contains (hits schema table plan shard) x → is_hit schema table plan x ≡ true
  found_is_hit plan shard x there =
      ap (λ n. is_among (hits schema table plan n) x) (its_shard (vertical_of schema plan) shard x (in_shard plan shard x there))
      ∙ any_from (λ y. is_eq (doc_cmp x y)) (hits schema table plan shard) x there (is_eq_same x x refl)

  -- a hit is an entity of its shard
  pub home : (plan : Plan) (x : DocKey) → is_hit schema table plan x ≡ true → Contains (ranked schema table (vertical_of schema plan) (shard_of schema (vertical_of schema plan) x.id)) x
  home plan x hit =
      let shard = shard_of schema (vertical_of schema plan) x.id in
      in_shard plan shard x (among (hits schema table plan shard) x hit)

  -- the members of a cut are hits
  pub cut_hit : (plan : Plan) (limit : ℕ) (y : DocKey) → Contains (cut schema table plan limit) y → is_hit schema table plan y ≡ true
  cut_hit plan limit y there =
      let shards = range_with_len 0 (shards_of schema (vertical_of schema plan)) in
      let all = flat_map (hits schema table plan) shards in
      let listed = listed_by (hits schema table plan) shards y (in_order all y (in_first limit (in_rank_order all) y there)) in
      found_is_hit plan listed.0 y listed.2
