-- The entities of a shard are in rank order.
use Rattle.std.proofs.Common.{rules, ◌≡◌, ℕ, Bool, true, false, ◌||◌, ◌&&◌, ◌==◌, cond, if◌then◌else◌, List, [], ◌∷◌, map, filter, refl, sym, ◌∙◌, ap, subst, arith, true≢false}
use Rattle.std.proofs.lemmas.Bool.Decides.{nat_tests}
use Rattle.std.specs.List.{AllByRecursion}
use Rattle.std.specs.List.Sorted.{IsStrictlySortedBy}
use Rattle.std.specs.Map.{keys_of}
use Rattle.std.specs.Ordering.{is_eq, is_lt, nat_cmp}
use Rattle.std.specs.declared.cmp.Ordering.{Ordering}
use Rattle.std.specs.declared.cmp.Ordering.TheVariants.{Less, Equal, Greater}
use Rattle.uni_base.specs.declared.entity.DocKey.{DocKey}
use Rattle.uni_base.specs.declared.limits.Limits.{Limits}
use Rattle.uni_base.specs.Cursors.{is_before, is_less, IsRanked}
use Rattle.uni_base.specs.KeySets.{has_key}
use Rattle.uni_base.specs.RankOrder.{doc_cmp}
use Rattle.uni_base.proofs.RankedLemmas.{IsBeforeAll, IsBeforeAll-cons, IsBeforeAll-head, IsBeforeAll-ranked, IsBeforeAll-tail, Standing, standing, before, same, after, is_eq_self, and_false, or_swap}
use Rattle.uni_schema.specs.Schema.{Declarations}
use Rattle.uni_table.specs.Contents.{Contents}
use Rattle.uni_table.specs.Ranked.{doc_of, in_rank_order, is_of_shard, place, ranked}
use Rattle.uni_table.specs.TableState.{IsKept}
use Rattle.uni_table.specs.declared.command.EntityRow.{EntityRow}
use Rattle.shard_eval.proofs.FoundLists.{same_place}

lt_less : (o : Ordering) → is_lt o ≡ is_less o
lt_less Less = refl
lt_less Equal = refl
lt_less Greater = refl

-- a key at its place
has_key-place : (k : DocKey) (xs : List DocKey) (q : DocKey) → has_key (place k xs) q ≡ (is_eq (doc_cmp k q) || has_key xs q)
has_key-place k [] q = refl
has_key-place k (x ∷ xs) q = over (has_key-place k xs q) (is_lt (doc_cmp k x))
  where
    over : has_key (place k xs) q ≡ (is_eq (doc_cmp k q) || has_key xs q) → (b : Bool) → has_key (if b then k ∷ x ∷ xs else x ∷ place k xs) q ≡ (is_eq (doc_cmp k q) || (is_eq (doc_cmp x q) || has_key xs q))
    over rest true = refl
    over rest false = ap (λ b. is_eq (doc_cmp x q) || b) rest ∙ or_swap (is_eq (doc_cmp x q)) (is_eq (doc_cmp k q)) (has_key xs q)

before-place : (a k : DocKey) (xs : List DocKey) → is_before a k ≡ true → IsBeforeAll a xs → IsBeforeAll a (place k xs)
before-place a k [] lt all = IsBeforeAll-cons a k [] lt all
before-place a k (x ∷ xs) lt all = over (before-place a k xs lt (IsBeforeAll-tail a x xs all)) (is_lt (doc_cmp k x))
  where
    over : IsBeforeAll a (place k xs) → (b : Bool) → IsBeforeAll a (if b then k ∷ x ∷ xs else x ∷ place k xs)
    over rest true = IsBeforeAll-cons a k (x ∷ xs) lt all
    over rest false = IsBeforeAll-cons a x (place k xs) (IsBeforeAll-head a x xs all) rest

none_of : (a b : Bool) → (a || b) ≡ false → (a ≡ false) × (b ≡ false)
none_of true b e = absurd (true≢false e)
none_of false b e = (refl, e)

IsRanked-place : (k : DocKey) (xs : List DocKey) → IsRanked xs → has_key xs k ≡ false → IsRanked (place k xs)
IsRanked-place k [] rank none = search rules
IsRanked-place k (x ∷ xs) rank none =
    let parts = none_of (is_eq (doc_cmp x k)) (has_key xs k) none in
    over (IsRanked-place k xs rank.1 parts.1) (is_lt (doc_cmp k x)) refl (standing k x) parts.0
  where
    over : IsRanked (place k xs) → (b : Bool) → is_lt (doc_cmp k x) ≡ b → Standing k x → is_eq (doc_cmp x k) ≡ false → IsRanked (if b then k ∷ x ∷ xs else x ∷ place k xs)
    over rest true lt (before l g eq qe) other = (IsBeforeAll-cons k x xs l (IsBeforeAll-ranked k x xs rank g), rank)
    over rest true lt (same e) other = absurd (true≢false (sym (subst (λ y. is_eq (doc_cmp y k) ≡ true) e (is_eq_self k)) ∙ other))
    over rest true lt (after g l eq qe) other = absurd (true≢false (sym lt ∙ lt_less (doc_cmp k x) ∙ l))
    over rest false lt (before l g eq qe) other = absurd (true≢false (sym l ∙ sym (lt_less (doc_cmp k x)) ∙ lt))
    over rest false lt (same e) other = absurd (true≢false (sym (subst (λ y. is_eq (doc_cmp y k) ≡ true) e (is_eq_self k)) ∙ other))
    over rest false lt (after g l eq qe) other = (before-place x k xs g rank.0, rest)

has_key-in_rank_order : (ks : List DocKey) (q : DocKey) → has_key (in_rank_order ks) q ≡ has_key ks q
has_key-in_rank_order [] q = refl
has_key-in_rank_order (k ∷ ks) q = has_key-place k (in_rank_order ks) q ∙ ap (λ b. is_eq (doc_cmp k q) || b) (has_key-in_rank_order ks q)

-- keys of rows whose ids rise are apart
other_ids : (id : ℕ) (rows : List (ℕ × EntityRow)) (p : ℕ × EntityRow → Bool) (k : DocKey) → k.id ≡ id → AllByRecursion (λ y. nat_cmp id y ≡ Less) (keys_of rows) → has_key (map doc_of (filter p rows)) k ≡ false
other_ids id [] p k is all = refl
other_ids id (r ∷ rows) p k is all = over (other_ids id rows p k is all.1) (p r)
  where
    differs : (r.0 == k.id) ≡ false
    differs = let less : is_lt (nat_cmp id r.0) ≡ true = ap is_lt all.0 in grind (arith, nat_tests)

    apart : is_eq (doc_cmp (doc_of r) k) ≡ false
    apart = same_place (doc_of r) k ∙ ap (λ b. r.1.rank.0 == k.rank.0 && b) differs ∙ and_false (r.1.rank.0 == k.rank.0)

    over : has_key (map doc_of (filter p rows)) k ≡ false → (b : Bool) → has_key (map doc_of (cond b (r ∷ filter p rows) (filter p rows))) k ≡ false
    over rest true = rw (apart) rest
    over rest false = rest

rising : (id : ℕ) (ids : List ℕ) → IsStrictlySortedBy nat_cmp (id ∷ ids) → AllByRecursion (λ y. nat_cmp id y ≡ Less) ids × IsStrictlySortedBy nat_cmp ids
unfolding IsStrictlySortedBy
rising id ids sorted = sorted

rows_ranked : (rows : List (ℕ × EntityRow)) (p : ℕ × EntityRow → Bool) → IsStrictlySortedBy nat_cmp (keys_of rows) → IsRanked (in_rank_order (map doc_of (filter p rows)))
rows_ranked [] p sorted = tt
rows_ranked (r ∷ rows) p sorted = over (rows_ranked rows p (rising r.0 (keys_of rows) sorted).1) (rising r.0 (keys_of rows) sorted).0 (p r)
  where
    over : IsRanked (in_rank_order (map doc_of (filter p rows))) → AllByRecursion (λ y. nat_cmp r.0 y ≡ Less) (keys_of rows) → (b : Bool) → IsRanked (in_rank_order (map doc_of (cond b (r ∷ filter p rows) (filter p rows))))
    over rest above true = IsRanked-place (doc_of r) (in_rank_order (map doc_of (filter p rows))) rest (has_key-in_rank_order (map doc_of (filter p rows)) (doc_of r) ∙ other_ids r.0 rows p (doc_of r) refl above)
    over rest above false = rest

pub ranked_ranked : (schema : Declarations) (limits : Limits) (table : Contents) (vertical shard : ℕ) → IsKept schema limits table → IsRanked (ranked schema table vertical shard)
ranked_ranked schema limits table vertical shard kept = rows_ranked table.entities (is_of_shard schema vertical shard) kept.entities
