-- Keys that come later stand at later places.
use Rattle.std.proofs.Common.{◌≡◌, ℕ, ◌+◌, ◌-◌, ◌*◌, ◌^◌, ◌<◌, ◌≤◌, Bool, true, false, ◌||◌, List, [], ◌∷◌, Some, refl, ap, subst, arith, slice_get, drop, sym, ◌∙◌}
use Rattle.std.specs.declared.cmp.Ordering.{Ordering}
use Rattle.std.specs.declared.cmp.Ordering.TheVariants.{Less, Equal, Greater}
use Rattle.std.specs.Ordering.{MatchOrdering, nat_cmp, ordering_then, is_eq}
use Rattle.std.proofs.lemmas.Cmp.{ranked}
use Rattle.std.proofs.Math.Nat.{mul-le-mul_right}
use Rattle.uni_base.specs.RankOrder.{doc_cmp}
use Rattle.uni_base.specs.declared.entity.DocKey.{DocKey}
use Rattle.uni_base.specs.Cursors.{is_before, is_less, IsRanked}
use Rattle.uni_base.specs.KeySets.{has_key}
use Rattle.uni_base.proofs.RankedLemmas.{IsBeforeAll, IsBeforeAll-head, IsBeforeAll-tail, Standing, before, same, after, standing}
use Rattle.weak_strong.specs.Places.{place_of}

later_number : (p q i j b : ℕ) → p < q → i < b → p * b + i < q * b + j
later_number p q i j b l m = let step : (p + 1) * b ≤ q * b = omega (arith, mul-le-mul_right b l) in omega (arith, step)

pub place_later : (a b : DocKey) → is_before a b ≡ true → a.rank.0 < 2 ^ 32 → a.id < 2 ^ 64 → place_of a < place_of b
place_later a b p rank id = by (nat_cmp b.rank.0 a.rank.0) (nat_cmp a.id b.id) (ranked b.rank.0 a.rank.0 (nat_cmp b.rank.0 a.rank.0) refl) (ranked a.id b.id (nat_cmp a.id b.id) refl) p
  where
    by : (o q : Ordering) → MatchOrdering o (b.rank.0 < a.rank.0) (b.rank.0 ≡ a.rank.0) (a.rank.0 < b.rank.0) → MatchOrdering q (a.id < b.id) (a.id ≡ b.id) (b.id < a.id)
        → is_less (ordering_then o q) ≡ true → place_of a < place_of b
    by Less q higher h e = later_number (2 ^ 32 - 1 - a.rank.0) (2 ^ 32 - 1 - b.rank.0) a.id b.id (2 ^ 64) (omega arith) id
    by Equal Less level lower e = let s : 2 ^ 32 - 1 - a.rank.0 ≡ 2 ^ 32 - 1 - b.rank.0 = omega arith in let t = ap (λ (n : ℕ). n * 2 ^ 64) s in omega (arith, t)
    by Equal Equal level lower e = absurd cc
    by Equal Greater level lower e = absurd cc
    by Greater q higher h e = absurd cc

or_else : (b c : Bool) → b ≡ false → (b || c) ≡ true → c ≡ true
or_else b c u v = ap (λ t. t || c) (sym u) ∙ v

among : (y x : DocKey) (ys : List DocKey) → IsBeforeAll y ys → has_key ys x ≡ true → is_before y x ≡ true
among y x [] all has = cc
among y x (z ∷ zs) all has = by (standing z x) (among y x zs (IsBeforeAll-tail y z zs all))
  where
    by : Standing z x → (has_key zs x ≡ true → is_before y x ≡ true) → is_before y x ≡ true
    by (same s) later = subst (λ (w : DocKey). is_before y w ≡ true) s (IsBeforeAll-head y z zs all)
    by (before _ _ f _) later = later (or_else (is_eq (doc_cmp z x)) (has_key zs x) f has)
    by (after _ _ f _) later = later (or_else (is_eq (doc_cmp z x)) (has_key zs x) f has)

-- a key of the rest of a ranked list comes after its head
pub rest_later : (keys : List DocKey) (k : DocKey) → IsRanked keys → slice_get keys 0 ≡ Some k → (x : DocKey) → has_key (drop 1 keys) x ≡ true → is_before k x ≡ true
rest_later [] k ranks e x has = cc
rest_later (y ∷ ys) k ranks e x has = let s : y ≡ k = cc in subst (λ (z : DocKey). is_before z x ≡ true) s (among y x ys ranks.0 has)
