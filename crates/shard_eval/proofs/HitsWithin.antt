-- The hits of a plan in a shard are entities of the shard, in rank order.
use Rattle.std.proofs.Common.{◌≡◌, ℕ, ◌+◌, Bool, true, false, ◌&&◌, ◌||◌, List, [], ◌∷◌, map, filter, refl, sym, ◌∙◌}
use Rattle.query_tree.specs.declared.kind.ListKind.{ListKind}
use Rattle.query_tree.specs.declared.kind.ListKind.TheVariants.{And, Or, Difference, WeakAnd, StrongOr}
use Rattle.std.specs.List.{list_all, list_any}
use Rattle.std.specs.Ordering.{is_eq}
use Rattle.uni_base.specs.declared.entity.DocKey.{DocKey}
use Rattle.uni_base.specs.Cursors.{IsRanked}
use Rattle.uni_base.specs.KeySets.{has_key}
use Rattle.uni_base.specs.RankOrder.{doc_cmp}
use Rattle.uni_base.specs.Walks.{Walker, strong_keeps, strong_walk, walked, weak_keeps, weak_walk}
use Rattle.uni_base.proofs.RankedLemmas.{IsBeforeAll, IsBeforeAll-cons, IsBeforeAll-head, IsBeforeAll-tail, IsRanked-filter, has_key-filter}
use Rattle.uni_meaning.specs.Hits.{first_alone, kept_by}

-- a list is part of another, in rank order where that is
pub record IsPartOf (xs ys : List DocKey) : Type 0 where
  pub ranked : IsRanked ys → IsRanked xs
  pub within : (k : DocKey) → has_key xs k ≡ true → has_key ys k ≡ true

-- both parts of a test that passes, and a test that passes by its second part
pub first_true : (a b : Bool) → (a && b) ≡ true → a ≡ true
first_true true b e = refl
first_true false b e = e

pub second_true : (a b : Bool) → (a && b) ≡ true → b ≡ true
second_true true b e = e
second_true false b e = cc

pub later_true : (a b : Bool) → b ≡ true → (a || b) ≡ true
later_true true b e = refl
later_true false b e = e

pub filter_part : (p : DocKey → Bool) (ys : List DocKey) → IsPartOf (filter p ys) ys
filter_part p ys = record { ranked = IsRanked-filter p ys; within = λ k there. first_true (has_key ys k) (p k) (sym (has_key-filter p ys k) ∙ there) }

-- what a walk keeps
weak_before : (a : DocKey) (kept : ℕ) (os : List (Walker DocKey)) (xs : List DocKey) → IsBeforeAll a xs → IsBeforeAll a (weak_walk kept os xs)
weak_before a kept os [] all = all
weak_before a kept os (x ∷ xs) all = over (weak_before a (kept + 1) (map (walked x) os) xs (IsBeforeAll-tail a x xs all)) (weak_before a kept os xs (IsBeforeAll-tail a x xs all)) (weak_keeps kept os x)
  where
    over : IsBeforeAll a (weak_walk (kept + 1) (map (walked x) os) xs) → IsBeforeAll a (weak_walk kept os xs) → (b : Bool)
        → IsBeforeAll a (elim b [ true ↦ x ∷ weak_walk (kept + 1) (map (walked x) os) xs | false ↦ weak_walk kept os xs ])
    over more rest true = IsBeforeAll-cons a x (weak_walk (kept + 1) (map (walked x) os) xs) (IsBeforeAll-head a x xs all) more
    over more rest false = rest

weak_ranked : (kept : ℕ) (os : List (Walker DocKey)) (xs : List DocKey) → IsRanked xs → IsRanked (weak_walk kept os xs)
weak_ranked kept os [] rank = tt
weak_ranked kept os (x ∷ xs) rank = over (weak_ranked (kept + 1) (map (walked x) os) xs rank.1) (weak_ranked kept os xs rank.1) (weak_keeps kept os x)
  where
    over : IsRanked (weak_walk (kept + 1) (map (walked x) os) xs) → IsRanked (weak_walk kept os xs) → (b : Bool)
        → IsRanked (elim b [ true ↦ x ∷ weak_walk (kept + 1) (map (walked x) os) xs | false ↦ weak_walk kept os xs ])
    over more rest true = (weak_before x (kept + 1) (map (walked x) os) xs rank.0, more)
    over more rest false = rest

either_in : (a b c : Bool) → (b ≡ true → c ≡ true) → (a || b) ≡ true → (a || c) ≡ true
either_in true b c goes e = refl
either_in false b c goes e = goes e

weak_within : (kept : ℕ) (os : List (Walker DocKey)) (xs : List DocKey) (k : DocKey) → has_key (weak_walk kept os xs) k ≡ true → has_key xs k ≡ true
weak_within kept os [] k there = there
weak_within kept os (x ∷ xs) k there = over (weak_within (kept + 1) (map (walked x) os) xs k) (weak_within kept os xs k) (weak_keeps kept os x) there
  where
    over : (has_key (weak_walk (kept + 1) (map (walked x) os) xs) k ≡ true → has_key xs k ≡ true) → (has_key (weak_walk kept os xs) k ≡ true → has_key xs k ≡ true) → (b : Bool)
        → has_key (elim b [ true ↦ x ∷ weak_walk (kept + 1) (map (walked x) os) xs | false ↦ weak_walk kept os xs ]) k ≡ true → (is_eq (doc_cmp x k) || has_key xs k) ≡ true
    over more rest true there = either_in (is_eq (doc_cmp x k)) _ _ more there
    over more rest false there = later_true (is_eq (doc_cmp x k)) _ (rest there)

strong_before : (a : DocKey) (kept : ℕ) (os : List (Walker DocKey)) (xs : List DocKey) → IsBeforeAll a xs → IsBeforeAll a (strong_walk kept os xs)
strong_before a kept os [] all = all
strong_before a kept os (x ∷ xs) all = over (strong_before a (kept + 1) (map (walked x) os) xs (IsBeforeAll-tail a x xs all)) (strong_before a kept os xs (IsBeforeAll-tail a x xs all)) (strong_keeps kept os x)
  where
    over : IsBeforeAll a (strong_walk (kept + 1) (map (walked x) os) xs) → IsBeforeAll a (strong_walk kept os xs) → (b : Bool)
        → IsBeforeAll a (elim b [ true ↦ x ∷ strong_walk (kept + 1) (map (walked x) os) xs | false ↦ strong_walk kept os xs ])
    over more rest true = IsBeforeAll-cons a x (strong_walk (kept + 1) (map (walked x) os) xs) (IsBeforeAll-head a x xs all) more
    over more rest false = rest

strong_ranked : (kept : ℕ) (os : List (Walker DocKey)) (xs : List DocKey) → IsRanked xs → IsRanked (strong_walk kept os xs)
strong_ranked kept os [] rank = tt
strong_ranked kept os (x ∷ xs) rank = over (strong_ranked (kept + 1) (map (walked x) os) xs rank.1) (strong_ranked kept os xs rank.1) (strong_keeps kept os x)
  where
    over : IsRanked (strong_walk (kept + 1) (map (walked x) os) xs) → IsRanked (strong_walk kept os xs) → (b : Bool)
        → IsRanked (elim b [ true ↦ x ∷ strong_walk (kept + 1) (map (walked x) os) xs | false ↦ strong_walk kept os xs ])
    over more rest true = (strong_before x (kept + 1) (map (walked x) os) xs rank.0, more)
    over more rest false = rest

strong_within : (kept : ℕ) (os : List (Walker DocKey)) (xs : List DocKey) (k : DocKey) → has_key (strong_walk kept os xs) k ≡ true → has_key xs k ≡ true
strong_within kept os [] k there = there
strong_within kept os (x ∷ xs) k there = over (strong_within (kept + 1) (map (walked x) os) xs k) (strong_within kept os xs k) (strong_keeps kept os x) there
  where
    over : (has_key (strong_walk (kept + 1) (map (walked x) os) xs) k ≡ true → has_key xs k ≡ true) → (has_key (strong_walk kept os xs) k ≡ true → has_key xs k ≡ true) → (b : Bool)
        → has_key (elim b [ true ↦ x ∷ strong_walk (kept + 1) (map (walked x) os) xs | false ↦ strong_walk kept os xs ]) k ≡ true → (is_eq (doc_cmp x k) || has_key xs k) ≡ true
    over more rest true there = either_in (is_eq (doc_cmp x k)) _ _ more there
    over more rest false there = later_true (is_eq (doc_cmp x k)) _ (rest there)

-- what an operator keeps of a list is part of it
pub kept_part : (kind : ListKind) (os : List (Walker DocKey)) (ys : List DocKey) → IsPartOf (kept_by kind os ys) ys
kept_part And os ys = filter_part (λ k. list_all (λ (o : Walker DocKey). o.has k) os) ys
kept_part Or os ys = filter_part (λ k. list_any (λ (o : Walker DocKey). o.has k) os) ys
kept_part Difference os ys = filter_part (first_alone os) ys
kept_part WeakAnd os ys = record { ranked = weak_ranked 0 os ys; within = weak_within 0 os ys }
kept_part StrongOr os ys = record { ranked = strong_ranked 0 os ys; within = strong_within 0 os ys }
